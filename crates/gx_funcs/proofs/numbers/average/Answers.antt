use Rattle.std.proofs.Common.{◌≡◌, ◌<◌, ℕ, pos, length, sym, ◌∙◌, ap, subst, arith, to_z, false}
use Rattle.std.specs.Prelude.{◌==◌, Some}
use Rattle.std.proofs.lemmas.Int.{ints}
use Rattle.std.proofs.lemmas.Bool.{eqb-false}
use Rattle.std.specs.Int.{w128}
use Rattle.gx_num.specs.declared.Number.{Number}
use Rattle.gx_num.specs.declared.NumFault.{NumFault}
use Rattle.std.specs.Prelude.{Result}
use Rattle.gx_funcs.specs.Numbers.{number_answer, divided_by}
use Rattle.gx_funcs.specs.Values.{AnswersCall}
use Rattle.gx_funcs.proofs.NumberLemmas.{average_there}
use Rattle.gx_funcs.proofs.numbers.average.Goals as goal

pub returns-in-Some : goal.returns-in-Some
returns-in-Some c =
    let count : ℕ = length c.args.values.now in
    let none : (count == 0) ≡ false = sym c.is_empty.ensures ∙ c.if-is_empty.false in
    let other = eqb-false count 0 none in
    let some : 0 < count = omega arith in
    let whole : to_z w128 count ≡ pos count = omega (arith, ints) in
    let made = c.divided_by.ensures ∙ ap (divided_by c.in-Some.sum) whole in
    subst (AnswersCall c.number_answer.result)
    (ap (λ (r : Result Number NumFault). Some (number_answer r)) made ∙ sym (average_there c.args.values.now c.in-Some.sum some (sym c.in-Some.is ∙ c.total.ensures)))
    c.number_answer.ensures
