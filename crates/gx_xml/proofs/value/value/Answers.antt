use Rattle.std.proofs.Common.{◌≡◌, ap, sym, ◌∙◌, subst, arith, length, List, ℕ, inl, inr, string_bytes}
use Rattle.std.specs.Str.{chars}
use Rattle.std.proofs.lemmas.Str.{chars-nil}
use Rattle.gx_xml.specs.Characters.{spelled}
use Rattle.gx_xml.specs.Grammar.{expected_at, character_reference}
use Rattle.gx_xml.specs.Tags.{declares_xml, may_close}
use Rattle.gx_xml.specs.Standings.{Chose, ReadSoFar}
use Rattle.gx_xml.proofs.ValueLemmas.{not_both, value_ended, value_stopped, value_goes_on}
use Rattle.gx_xml.proofs.value.value.Goals as goal

pub loop-so_far-init : goal.loop-so_far-init
loop-so_far-init c = record {
  read = subst (λ (x : List ℕ). ReadSoFar (spelled c.args.name.prefix) (spelled c.args.name.local) c.args.quote x c.args.reader.now c.args.reader.now) (sym (ap chars c.new-so_far.ensures.bytes ∙ chars-nil))
      (λ t w after h. h);
  shrinks = omega arith;
}

pub returns-then-has_ended-clause-read : goal.returns-then-has_ended-clause-read
returns-then-has_ended-clause-read c =
    value_stopped (spelled c.args.name.prefix) (spelled c.args.name.local) c.args.quote (chars (string_bytes c.loop-so_far.so_far)) (spelled c.value_run-run.result) (chars (string_bytes c.push_normalised_value.new.out)) c.length_of-position.result
    c.declares_xml-of_xml.result c.may_close-closes.result c.may_refer-refers.result c.choice-mark.result c.loop-so_far.reader c.value_run-run.new.reader c.choice-mark.new.self
    c.in_ok-push_normalised_value.ensures c.length_of-position.ensures (c.declares_xml-of_xml.ensures ∙ ap declares_xml c.purpose_of-purpose.ensures) c.value_run-run.ensures.read
    (c.may_close-closes.ensures ∙ ap (λ p. may_close p (chars (string_bytes c.push_normalised_value.new.out))) c.purpose_of-purpose.ensures) c.may_refer-refers.ensures
    c.choice-mark.ensures.read c.args.reader.now (c.has_ended.ensures.0 c.if-has_ended.true) c.loop-so_far.invariant.read

pub returns-then-not-is_reference-clause-read : goal.returns-then-not-is_reference-clause-read
returns-then-not-is_reference-clause-read c =
    value_ended (spelled c.args.name.prefix) (spelled c.args.name.local) c.args.quote (chars (string_bytes c.loop-so_far.so_far)) (spelled c.value_run-run.result) (chars (string_bytes c.push_normalised_value.new.out)) c.length_of-position.result
    c.declares_xml-of_xml.result c.may_close-closes.result c.may_refer-refers.result c.choice-mark.result c.loop-so_far.reader c.value_run-run.new.reader c.choice-mark.new.self
    c.in_ok-push_normalised_value.ensures c.length_of-position.ensures (c.declares_xml-of_xml.ensures ∙ ap declares_xml c.purpose_of-purpose.ensures) c.value_run-run.ensures.read
    (c.may_close-closes.ensures ∙ ap (λ p. may_close p (chars (string_bytes c.push_normalised_value.new.out))) c.purpose_of-purpose.ensures) c.may_refer-refers.ensures
    c.choice-mark.ensures.read c.args.reader.now
    (λ e. let t = c.is_reference.ensures.1 e in let f = c.if-not-is_reference.true in absurd (not_both c.is_reference.result t f)) c.loop-so_far.invariant.read

pub loop-so_far-preserved : goal.loop-so_far-preserved
loop-so_far-preserved c =
    let whole = chars (string_bytes c.push_normalised_value.new.out) in
    let expected : c.expected_at-expected.result ≡ expected_at c.declares_xml-of_xml.result (length whole) = c.expected_at-expected.ensures ∙ ap (expected_at c.declares_xml-of_xml.result) c.length_of.ensures in
    record {
      read = subst (λ (x : List ℕ). ReadSoFar (spelled c.args.name.prefix) (spelled c.args.name.local) c.args.quote x c.args.reader.now c.reference-character.new.reader) (sym c.in_ok-push_character.ensures.ok)
          (value_goes_on (spelled c.args.name.prefix) (spelled c.args.name.local) c.args.quote (chars (string_bytes c.loop-so_far.so_far)) (spelled c.value_run-run.result) whole c.length_of-position.result
          c.declares_xml-of_xml.result c.may_close-closes.result c.may_refer-refers.result c.choice-mark.result c.loop-so_far.reader c.value_run-run.new.reader c.choice-mark.new.self
          c.in_ok-push_normalised_value.ensures c.length_of-position.ensures (c.declares_xml-of_xml.ensures ∙ ap declares_xml c.purpose_of-purpose.ensures) c.value_run-run.ensures.read
          (c.may_close-closes.ensures ∙ ap (λ p. may_close p whole) c.purpose_of-purpose.ensures) c.may_refer-refers.ensures
          c.choice-mark.ensures.read c.args.reader.now c.reference-character.new.reader c.reference-character.result
          (c.is_reference.ensures.0 c.if-not-is_reference.false)
          (subst (λ x. Chose c.reference-character.result (character_reference x) c.choice-mark.new.self c.reference-character.new.reader) expected c.reference-character.ensures.read)
          c.loop-so_far.invariant.read);
      shrinks = omega arith;
    }

pub returns-then-has_ended-clause-shorter : goal.returns-then-has_ended-clause-shorter
returns-then-has_ended-clause-shorter c = inl (c.has_ended.ensures.0 c.if-has_ended.true)

pub returns-then-not-is_reference-clause-shorter : goal.returns-then-not-is_reference-clause-shorter
returns-then-not-is_reference-clause-shorter c = elim c.choice-mark.ensures.shorter [ inl d ↦ inl d | inr l ↦ inr (omega arith) ]
