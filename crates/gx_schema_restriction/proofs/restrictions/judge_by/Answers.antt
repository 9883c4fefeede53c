use Rattle.std.proofs.Common.{◌≡◌, Some, length, slice_get, sym, ◌∙◌, ap, ◌<◌, arith}
use Rattle.std.proofs.lemmas.Bool.{false≢true}
use Rattle.std.proofs.lemmas.Option.{slice_get_within}
use Rattle.gx_types.specs.SchemaSet.{SchemaSet}
use Rattle.gx_schema_restriction.proofs.Below.{below_more, judged, undecided}
use Rattle.gx_schema_restriction.proofs.restrictions.judge_by.Goals as goal
use Rattle.gx_schema_restriction.proofs.restrictions.judge_by.Goals.{then-is_restricted+in-Ok-Yes, else-is_restricted}

pub returns-in-Ok-No : goal.returns-in-Ok-No
returns-in-Ok-No c = (
  c.loop-declared.invariant.below,
  (
    c.in-Some.declared.now,
    ap (λ (s : SchemaSet). slice_get s.types c.loop-declared.number) (sym c.schemas.ensures) ∙ ap (λ types. slice_get types c.loop-declared.number) (sym c.types-types.ensures.value)
        ∙ sym c.in-Some.ensures,
    sym c.is_restricted.ensures ∙ c.if-is_restricted.true,
    judged c.args.derivations.now _ c.args.pairs c.in-Some.declared.now _ _ c.loop-declared.invariant.kept c.in-Ok-No.field-0-is c.in-Ok-No.ensures.verdict,
  ),
)

pub returns-in-Err-TooManyPairs : goal.returns-in-Err-TooManyPairs
returns-in-Err-TooManyPairs c = (
  c.loop-declared.invariant.below,
  (
    c.in-Some.declared.now,
    ap (λ (s : SchemaSet). slice_get s.types c.loop-declared.number) (sym c.schemas.ensures) ∙ ap (λ types. slice_get types c.loop-declared.number) (sym c.types-types.ensures.value)
        ∙ sym c.in-Some.ensures,
    sym c.is_restricted.ensures ∙ c.if-is_restricted.true,
    undecided c.args.derivations.now _ c.args.pairs c.in-Some.declared.now _ c.loop-declared.invariant.kept c.in-Err-TooManyPairs.field-0-is c.in-Err-TooManyPairs.ensures.none,
  ),
)

pub loop-declared-preserved : goal.loop-declared-preserved
loop-declared-preserved c =
    let here : slice_get c.args.derivations.now.types c.loop-declared.number ≡ Some c.in-Some.declared.now =
    ap (λ (s : SchemaSet). slice_get s.types c.loop-declared.number) (sym c.schemas.ensures) ∙ ap (λ types. slice_get types c.loop-declared.number) (sym c.types-types.ensures.value)
    ∙ sym c.in-Some.ensures in
    let inside : c.loop-declared.number < length c.types-types.result.now = slice_get_within c.types-types.result.now c.loop-declared.number c.in-Some.declared.now (sym c.in-Some.ensures) in
    record {
      kept = elim c.if-is_restricted.branch [
        | then-is_restricted+in-Ok-Yes w ↦ w.derivations-is ∙ w.restricts_by.ensures.kept ∙ c.loop-declared.invariant.kept
        | else-is_restricted w ↦ w.derivations-is ∙ c.loop-declared.invariant.kept
      ];
      within = omega (arith, inside);
      below = elim c.if-is_restricted.branch [
        | then-is_restricted+in-Ok-Yes w ↦
            below_more c.args.derivations.now c.args.pairs c.args.restricted.now c.loop-declared.number c.in-Some.declared.now here
            (λ restricted. judged c.args.derivations.now _ c.args.pairs c.in-Some.declared.now _ _ c.loop-declared.invariant.kept w.in-Ok-Yes.field-0-is w.in-Ok-Yes.ensures.verdict)
            c.loop-declared.invariant.below
        | else-is_restricted w ↦
            below_more c.args.derivations.now c.args.pairs c.args.restricted.now c.loop-declared.number c.in-Some.declared.now here
            (λ restricted. absurd (false≢true (w.if-is_restricted.ensures ∙ restricted))) c.loop-declared.invariant.below
      ];
    }
