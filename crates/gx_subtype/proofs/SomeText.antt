-- Two texts have an answer, unless one of them stands for no type.
use Rattle.std.proofs.Common.{ℕ, List, inl, inr, refl, arith}
use Rattle.std.specs.Prelude.{codes}
use Rattle.gx_base.specs.declared.limits.TheConstants.{INCLUSION_PAIRS}
use Rattle.gx_types.specs.SchemaSet.{no_declarations}
use Rattle.gx_types.specs.SequenceType.{SequenceType}
use Rattle.gx_types.proofs.SchemaLemmas.{nothing_is_a_schema_set}
use Rattle.gx_typetext.specs.TypeReading.{IsTypeText}
use Rattle.gx_typetext.proofs.Judged.{texts_are_judged}
use Rattle.gx_typetext.proofs.Sizes.{type_texts_are_short}
use Rattle.gx_include.proofs.SomeAnswer.{an_answer_exists}
use Rattle.gx_subtype.specs.Comparison.{verdict_bytes, IsAnswerText, AnAnswerTextExists}

compared : (left right : List ℕ) (t u : SequenceType) → IsTypeText no_declarations left t → IsTypeText no_declarations right u → (bytes : List ℕ) × IsAnswerText left right bytes
compared left right t u h k =
    let few = type_texts_are_short no_declarations left t h in
    let few_right = type_texts_are_short no_declarations right u k in
    let v = an_answer_exists no_declarations t u INCLUSION_PAIRS nothing_is_a_schema_set.grounded (omega (arith, few)) (omega (arith, few_right)) (omega arith) in
    elim v [
      | inl many ↦ (codes "unknown", record { lower = t; upper = u; left_is = h; right_is = k; answer = inr (many, refl) })
      | inr verdict ↦ (verdict_bytes verdict.0, record { lower = t; upper = u; left_is = h; right_is = k; answer = inl (verdict.0, verdict.1, refl) })
    ]

pub an_answer_text_exists : AnAnswerTextExists
an_answer_text_exists left right =
    elim (texts_are_judged no_declarations left) [
      | inr none ↦ inl none
      | inl t ↦ elim (texts_are_judged no_declarations right) [
        | inr none ↦ inr (inl (t.0, t.1, none))
        | inl u ↦ inr (inr (compared left right t.0 u.0 t.1 u.1))
      ]
    ]
