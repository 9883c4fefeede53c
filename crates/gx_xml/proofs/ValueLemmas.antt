-- How values are read.
use Rattle.std.proofs.Common.{◌≡◌, ℕ, Bool, false, List, [], ◌∷◌, ◌++◌, length, refl, sym, ap, ◌∙◌, subst}
use Rattle.std.specs.Prelude.{IsTrue}
use Rattle.gx_grammar.specs.Grammar.{rule}
use Rattle.gx_grammar.specs.Value.{characters}
use Rattle.gx_grammar.specs.Ran.{Standing, Ran, IsDone}
use Rattle.gx_xml.specs.declared.runs.Quote.{Quote}
use Rattle.gx_xml.specs.declared.marks.Choice.TheVariants as choice_of
use Rattle.gx_xml.specs.declared.marks.Mark.{Mark}
use Rattle.gx_xml.specs.declared.marks.Mark.TheVariants as mark
use Rattle.gx_xml.specs.Runs.{value_normalised}
use Rattle.gx_xml.specs.Nodes.{Made, mark_value}
use Rattle.gx_xml.specs.Tokens.{choice}
use Rattle.gx_xml.specs.Tags.{TagSoFar, purpose_of, declares_xml, may_close, with_attribute}
use Rattle.gx_xml.specs.Grammar.{inside, value, value_run, value_ending, behind_value_run, may_refer, expected_at, character_reference, rules}
use Rattle.gx_xml.specs.Standings.{Did, Chose, ReadValue, ReadSoFar, read_document_token}
use Rattle.gx_xml.proofs.Steps.{did_on, did_other, did_rule}

pub not_both : (b : Bool) → IsTrue b → b ≡ false → ⊥
not_both b t e = absurd (cc)

-- a word that is no reference ends the value
pub value_closes : (t : TagSoFar) (prefix local : List ℕ) (q : Quote) (so_far : List ℕ) (m : Mark) (w : Made) (a b : Standing) → (m ≡ mark.Reference → ⊥)
    → Did w a b (rule (inside (with_attribute t prefix local so_far (purpose_of prefix local)))) → Did w a b (behind_value_run t prefix local q so_far m)
unfolding behind_value_run
value_closes t prefix local q so_far mark.Reference w a b n h = absurd (n refl)
value_closes t prefix local q so_far _ w a b n h = h

module _ (prefix local : List ℕ) (q : Quote) (so_far run whole : List ℕ) (n : ℕ) (of_xml closes refers : Bool) (m : Mark) (a b d : Standing)
    (are : whole ≡ so_far ++ value_normalised run) (counted : n ≡ length so_far) (of : of_xml ≡ declares_xml (purpose_of prefix local))
    (first : Ran (characters run) a b (read_document_token (value_run of_xml q n)))
    (with_content : closes ≡ may_close (purpose_of prefix local) whole) (referred : refers ≡ may_refer of_xml whole)
    (second : Ran (mark_value m) b d (read_document_token (choice (choice_of.Value q closes refers)))) where
  step : (t : TagSoFar) (w : Made) (e : Standing) → Did w d e (behind_value_run t prefix local q whole m) → Did w a e (rule (value t prefix local q so_far))
  unfolding rules value_ending
  step t w e h =
      did_rule (value t prefix local q so_far) w a e
      (did_on (value_run (declares_xml (purpose_of prefix local)) q (length so_far)) _ (characters run) w a b e
      (subst (λ x. Ran (characters run) a b (read_document_token (value_run x q (length so_far)))) of
      (subst (λ x. Ran (characters run) a b (read_document_token (value_run of_xml q x))) counted first))
      (subst (λ x. Did w b e (value_ending t prefix local q x)) are
      (did_on (choice (choice_of.Value q (may_close (purpose_of prefix local) whole) (may_refer (declares_xml (purpose_of prefix local)) whole))) _ (mark_value m) w b d e
      (subst (λ x. Ran (mark_value m) b d (read_document_token (choice (choice_of.Value q x (may_refer (declares_xml (purpose_of prefix local)) whole))))) with_content
      (subst (λ x. Ran (mark_value m) b d (read_document_token (choice (choice_of.Value q closes x)))) (referred ∙ ap (λ x. may_refer x whole) of) second)) h)))

  -- the value ends
  pub value_ended : (origin : Standing) → (m ≡ mark.Reference → ⊥) → ReadSoFar prefix local q so_far origin a → ReadValue prefix local q [] whole origin d
  value_ended origin n s = λ t w e h. s t w e (step t w e (value_closes t prefix local q whole m w d e n h))

  -- reading ended
  pub value_stopped : (origin : Standing) → IsDone d → ReadSoFar prefix local q so_far origin a → ReadValue prefix local q [] whole origin d
  value_stopped origin done s = λ t w e h. s t w e (step t w e (did_other (rule (inside (with_attribute t prefix local whole (purpose_of prefix local)))) _ w d e done h))

  -- a reference follows
  pub value_goes_on : (origin here : Standing) (c : ℕ) → m ≡ mark.Reference → Chose c (character_reference (expected_at of_xml (length whole))) d here
      → ReadSoFar prefix local q so_far origin a → ReadSoFar prefix local q (whole ++ c ∷ []) origin here
  unfolding behind_value_run
  value_goes_on origin here c r chose s = λ t w e h.
      s t w e (step t w e
      (subst (λ x. Did w d e (behind_value_run t prefix local q whole x)) (sym r)
      (subst (λ x. Did w d e (character_reference (expected_at x (length whole)) (λ k. rule (value t prefix local q (whole ++ k ∷ []))))) of
      (chose (λ k. rule (value t prefix local q (whole ++ k ∷ []))) w e h))))
