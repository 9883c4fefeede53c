use Rattle.std.proofs.Common.{◌≡◌, IfOk, IfErr, sym, subst, ◌∙◌, rules}
use Rattle.std.specs.Prelude.{FitsSigned}
use Rattle.std.specs.Int.{w128}
use Rattle.gx_model.specs.Item.{Items, atom}
use Rattle.gx_core.specs.Outcome.{Outcome, gives}
use Rattle.gx_machine.specs.Answering.{answer_items}
use Rattle.gx_machine.specs.Failing.{FailsSo}
use Rattle.gx_machine.proofs.Ranges.{range_is}
use Rattle.gx_machine.proofs.answer.ranged.Goals as goal

pub returns-in-Some-integer_of-clause-value : goal.returns-in-Some-integer_of-clause-value
returns-in-Some-integer_of-clause-value c = λ forest later.
    let first_fits : FitsSigned w128 c.in-Some.first = search rules in
    let last_fits : FitsSigned w128 c.in-Some-integer_of.last = search rules in
    subst (λ (o : Outcome Items). IfOk c.between.result (λ r. o ≡ gives (answer_items later r) forest))
    (range_is (atom c.args.left.now) (atom c.args.right.now) c.in-Some.first c.in-Some-integer_of.last forest first_fits last_fits
    (sym c.integer_of.ensures ∙ c.in-Some.is) (sym c.integer_of-in-Some.ensures ∙ c.in-Some-integer_of.is))
    (c.between.ensures.value forest later)

pub returns-in-Some-integer_of-clause-failed : goal.returns-in-Some-integer_of-clause-failed
returns-in-Some-integer_of-clause-failed c = λ forest.
    let first_fits : FitsSigned w128 c.in-Some.first = search rules in
    let last_fits : FitsSigned w128 c.in-Some-integer_of.last = search rules in
    subst (λ (o : Outcome Items). IfErr c.between.result (λ e. FailsSo e o))
    (range_is (atom c.args.left.now) (atom c.args.right.now) c.in-Some.first c.in-Some-integer_of.last forest first_fits last_fits
    (sym c.integer_of.ensures ∙ c.in-Some.is) (sym c.integer_of-in-Some.ensures ∙ c.in-Some-integer_of.is))
    (c.between.ensures.failed forest)
