use Rattle.std.proofs.Common.{◌≡◌, ◌+◌, ◌<◌, ◌≤◌, suc, List, [], ◌∷◌, None, Some, length, drop, ap, sym, ◌∙◌, arith, rules}
use Rattle.std.specs.Prelude.{slice_get}
use Rattle.std.proofs.lemmas.Result.{err_from_is_err_and}
use Rattle.gx_types.specs.SequenceType.{SequenceType}
use Rattle.gx_funcs.specs.declared.function.Parameter.{Parameter}
use Rattle.gx_funcs.specs.Function.{parameters_of}
use Rattle.gx_static.specs.Rule.{Ruling, arguments_rule, call_answer_ruling}
use Rattle.gx_static.proofs.CallLemmas.{parameter_is_within, next_argument, too_many_arguments, too_few_arguments}
use Rattle.gx_static.proofs.call.call_type.Goals as goal

pub returns-in_default-parameter-clause-refused : goal.returns-in_default-parameter-clause-refused
returns-in_default-parameter-clause-refused c =
    let s = c.args.schemas.now in
    let parameters : List Parameter = parameters_of c.args.function in
    let number = c.loop-argument.number in
    let answer : Ruling = call_answer_ruling s c.args.function c.args.arguments.now in
    let left : c.loop-argument.left.now ≡ c.in-Some.argument.now ∷ c.in-Some.behind.now = search rules in
    let none : slice_get parameters number ≡ None = sym c.parameter.ensures ∙ c.in_default-parameter.is in
    rw c.no_type.ensures (sym c.loop-argument.invariant.ruled ∙ ap (λ (l : List SequenceType). arguments_rule s (drop number parameters) l number answer) left ∙ too_many_arguments s parameters number c.in-Some.argument.now c.in-Some.behind.now answer none)

pub returns-in_err-check_argument-clause-refused : goal.returns-in_err-check_argument-clause-refused
returns-in_err-check_argument-clause-refused c =
    let s = c.args.schemas.now in
    let parameters : List Parameter = parameters_of c.args.function in
    let number = c.loop-argument.number in
    let answer : Ruling = call_answer_ruling s c.args.function c.args.arguments.now in
    let argument = c.in-Some.argument.now in
    let behind = c.in-Some.behind.now in
    let parameter = c.in-Some-parameter.parameter in
    let left : c.loop-argument.left.now ≡ argument ∷ behind = search rules in
    let there : slice_get parameters number ≡ Some parameter = sym c.parameter.ensures ∙ c.in-Some-parameter.is in
    let whole = ap (λ (l : List SequenceType). arguments_rule s (drop number parameters) l number answer) (sym left) ∙ c.loop-argument.invariant.ruled in
    let p = err_from_is_err_and c.from_residual.result c.from_residual.ensures.1 in
    rw (p.1, p.2, sym whole, next_argument s parameters number parameter argument behind answer there) (c.in_err-check_argument.ensures.refused (arguments_rule s (drop (number + 1) parameters) behind (number + 1) answer))

pub loop-argument-preserved : goal.loop-argument-preserved
loop-argument-preserved c =
    let s = c.args.schemas.now in
    let parameters : List Parameter = parameters_of c.args.function in
    let number = c.loop-argument.number in
    let answer : Ruling = call_answer_ruling s c.args.function c.args.arguments.now in
    let argument = c.in-Some.argument.now in
    let behind = c.in-Some.behind.now in
    let parameter = c.in-Some-parameter.parameter in
    let left : c.loop-argument.left.now ≡ argument ∷ behind = search rules in
    let there : slice_get parameters number ≡ Some parameter = sym c.parameter.ensures ∙ c.in-Some-parameter.is in
    let counted : number + length c.loop-argument.left.now ≡ length c.args.arguments.now = c.loop-argument.invariant.counted in
    let as_long : length c.loop-argument.left.now ≡ suc (length behind) = ap length left in
    let within : number < length parameters = parameter_is_within parameters number parameter there in
    record {
      ruled =
          sym (c.in_ok-check_argument.ensures.taken (arguments_rule s (drop (number + 1) parameters) behind (number + 1) answer))
          ∙ sym (next_argument s parameters number parameter argument behind answer there)
          ∙ ap (λ (l : List SequenceType). arguments_rule s (drop number parameters) l number answer) (sym left)
          ∙ c.loop-argument.invariant.ruled;
      within = omega (arith, within);
      counted = omega (arith, counted, as_long);
    }

pub returns-else-number-arity-clause-refused : goal.returns-else-number-arity-clause-refused
returns-else-number-arity-clause-refused c =
    let s = c.args.schemas.now in
    let parameters : List Parameter = parameters_of c.args.function in
    let number = c.loop-argument.number in
    let answer : Ruling = call_answer_ruling s c.args.function c.args.arguments.now in
    let left : c.loop-argument.left.now ≡ [] = search rules in
    let within : number ≤ length parameters = c.loop-argument.invariant.within in
    let other : number ≡ length parameters → ⊥ = λ same. c.if-number-arity.false (same ∙ sym c.arity.ensures) in
    let fewer : number < length parameters = omega (arith, within, other) in
    rw c.no_type-else-number-arity.ensures (sym c.loop-argument.invariant.ruled ∙ ap (λ (l : List SequenceType). arguments_rule s (drop number parameters) l number answer) left ∙ too_few_arguments s parameters number number answer fewer)
