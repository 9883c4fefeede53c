-- Two texts have one answer.
use Rattle.std.proofs.Common.{◌≡◌, ℕ, List, ◌++◌, refl, sym, ap, subst, ◌∙◌, inl, inr, Some}
use Rattle.std.specs.Prelude.{codes}
use Rattle.std.specs.Str.{encode_utf8_all}
use Rattle.gx_base.specs.declared.limits.TheConstants.{INCLUSION_PAIRS}
use Rattle.gx_types.specs.declared.shape.Shape.{Shape}
use Rattle.gx_types.specs.SchemaSet.{no_declarations}
use Rattle.gx_types.specs.SequenceType.{SequenceType}
use Rattle.gx_typetext.specs.ShapeText.{shapes_text}
use Rattle.gx_typetext.proofs.TypesRead.{one_text_type}
use Rattle.gx_include.specs.Laws.{IsSameVerdict}
use Rattle.gx_include.specs.declared.verdict.Verdict.{Verdict}
use Rattle.gx_include.specs.declared.verdict.Verdict.TheVariants.{Yes, No}
use Rattle.gx_include.proofs.OneAnswer.{answers_are_one, too_many_pairs_exclude_verdicts}
use Rattle.gx_subtype.specs.Comparison.{verdict_bytes, IsAnswerOn, AnswerTextsAreOne}

same_bytes : (v w : Verdict) → IsSameVerdict v w → verdict_bytes v ≡ verdict_bytes w
same_bytes Yes Yes h = refl
same_bytes Yes (No list) h = absurd h
same_bytes (No list) Yes h = absurd h
same_bytes (No list) (No other) h = ap (λ (xs : List Shape). codes "no: " ++ encode_utf8_all (shapes_text xs)) h

same_answer : (lower upper : SequenceType) (bytes others : List ℕ) → IsAnswerOn lower upper bytes → IsAnswerOn lower upper others → bytes ≡ others
same_answer lower upper bytes others (inl h) (inl k) =
    h.2 ∙ same_bytes h.0 k.0 (answers_are_one no_declarations lower upper (Some INCLUSION_PAIRS) h.0 k.0 h.1 k.1) ∙ sym k.2
same_answer lower upper bytes others (inl h) (inr k) = absurd (too_many_pairs_exclude_verdicts no_declarations lower upper (Some INCLUSION_PAIRS) h.0 k.0 h.1)
same_answer lower upper bytes others (inr h) (inl k) = absurd (too_many_pairs_exclude_verdicts no_declarations lower upper (Some INCLUSION_PAIRS) k.0 h.0 k.1)
same_answer lower upper bytes others (inr h) (inr k) = h.1 ∙ sym k.1

pub one_text : AnswerTextsAreOne
one_text left right bytes others h k =
    let lower = one_text_type no_declarations left k.lower h.lower k.left_is h.left_is in
    let upper = one_text_type no_declarations right k.upper h.upper k.right_is h.right_is in
    same_answer h.lower h.upper bytes others h.answer
    (subst (λ (t : SequenceType). IsAnswerOn h.lower t others) upper (subst (λ (t : SequenceType). IsAnswerOn t k.upper others) lower k.answer))
