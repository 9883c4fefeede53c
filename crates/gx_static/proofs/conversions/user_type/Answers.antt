use Rattle.std.proofs.Common.{◌≡◌, ◌∷◌, [], ◌+◌, List, ap, sym, ◌∙◌, rules}
use Rattle.std.proofs.lemmas.Result.{err_from_is_err_and}
use Rattle.std.proofs.lemmas.List.{nil_from_length}
use Rattle.gx_types.specs.SequenceType.{SequenceType}
use Rattle.gx_static.specs.Rule.{Ruling, has_type, converted_arguments_rule}
use Rattle.gx_static.proofs.UserCalls.{too_few_arguments}
use Rattle.gx_static.proofs.conversions.user_type.Goals as goal

pub returns-in_err-check_argument-clause-refused : goal.returns-in_err-check_argument-clause-refused
returns-in_err-check_argument-clause-refused c =
    let s = c.args.schemas.now in
    let ruling : Ruling = has_type c.args.signature.now.result in
    let number = c.loop-argument.number in
    let argument = c.in-Some.argument.now in
    let behind = c.in-Some.behind.now in
    let expected = c.in-Some-split_first.expected.now in
    let others = c.in-Some-split_first.others.now in
    let left : c.loop-argument.left.now ≡ argument ∷ behind = search rules in
    let parameters : c.loop-argument.parameters.now ≡ expected ∷ others = search rules in
    let p = err_from_is_err_and c.from_residual.result c.from_residual.ensures.1 in
    let whole = ap (λ (l : List SequenceType). converted_arguments_rule s (expected ∷ others) l number ruling) (sym left)
    ∙ ap (λ (ps : List SequenceType). converted_arguments_rule s ps c.loop-argument.left.now number ruling) (sym parameters) ∙ c.loop-argument.invariant in
    rw (p.1, p.2, sym whole) (c.in_err-check_argument.ensures.refused (converted_arguments_rule s others behind (number + 1) ruling))

pub loop-argument-preserved : goal.loop-argument-preserved
loop-argument-preserved c =
    let s = c.args.schemas.now in
    let ruling : Ruling = has_type c.args.signature.now.result in
    let number = c.loop-argument.number in
    let argument = c.in-Some.argument.now in
    let behind = c.in-Some.behind.now in
    let expected = c.in-Some-split_first.expected.now in
    let others = c.in-Some-split_first.others.now in
    let left : c.loop-argument.left.now ≡ argument ∷ behind = search rules in
    let parameters : c.loop-argument.parameters.now ≡ expected ∷ others = search rules in
    let next : c.in-Some-checked_add.next ≡ number + 1 = search rules in
    ap (λ n. converted_arguments_rule s others behind n ruling) next
    ∙ sym (c.in_ok-check_argument.ensures.taken (converted_arguments_rule s others behind (number + 1) ruling))
    ∙ ap (λ (l : List SequenceType). converted_arguments_rule s (expected ∷ others) l number ruling) (sym left)
    ∙ ap (λ (ps : List SequenceType). converted_arguments_rule s ps c.loop-argument.left.now number ruling) (sym parameters) ∙ c.loop-argument.invariant

pub returns-else-is_empty-clause-refused : goal.returns-else-is_empty-clause-refused
returns-else-is_empty-clause-refused c =
    let s = c.args.schemas.now in
    let ruling : Ruling = has_type c.args.signature.now.result in
    let left : c.loop-argument.left.now ≡ [] = nil_from_length c.loop-argument.left.now c.in_default.ensures.cases in
    let some : c.loop-argument.parameters.now ≡ [] → ⊥ = search rules in
    rw c.no_type-else-is_empty.ensures
    (sym c.loop-argument.invariant ∙ ap (λ (l : List SequenceType). converted_arguments_rule s c.loop-argument.parameters.now l c.loop-argument.number ruling) left
    ∙ too_few_arguments s c.loop-argument.parameters.now c.loop-argument.number ruling some)
