-- Bytes are read somehow.
use Rattle.std.proofs.Common.{◌≡◌, ◌<◌, ◌-◌, ℕ, zero, suc, Bool, true, false, List, [], length, Result, Ok, Err, refl, sym, ap, subst, ◌⊎◌, inl, inr, take, arith}
use Rattle.std.specs.Str.{chars, IsUtf8, IsValidUpTo, is_utf8}
use Rattle.std.proofs.lemmas.Str.{IsUtf8-from_is_utf8, is_utf8-from_IsUtf8}
use Rattle.std.proofs.lemmas.List.{take_all}
use Rattle.std.proofs.Math.Nat.{eq-or-lt_of_le, lt_of_not-le}
use Rattle.gx_base.specs.declared.place.Place.{Place}
use Rattle.gx_grammar.specs.Value.{nothing, characters, node, pair, no_item, an_item}
use Rattle.gx_grammar.specs.Places.{place_at}
use Rattle.gx_grammar.specs.Text.{IsVerdict, IsFaulty, HasValue, read_text}
use Rattle.gx_grammar.specs.Reading.{Refusal, Unfit, Faulty, TooDeep}
use Rattle.gx_grammar.proofs.PublicLaws.{exact_text, never_too_deep, unreadable_at}
use Rattle.gx_xml.specs.declared.refusal.XmlRule.{XmlRule}
use Rattle.gx_xml.specs.declared.refusal.XmlRule.TheVariants as xml_rule
use Rattle.gx_xml.specs.declared.refusal.XmlRefusal.TheVariants.{Refused}
use Rattle.gx_xml.specs.SourceTree.{SourceTree}
use Rattle.gx_xml.specs.Nodes.{Made, Marked, Root, Held}
use Rattle.gx_xml.specs.Tokens.{unbound_prefix, duplicate_attribute, too_deep}
use Rattle.gx_xml.specs.Grammar.{whole_document, documents}
use Rattle.gx_xml.specs.Reading.{Encodes, IsDocument, last_less, HasTagFault, IsDocumentOf, IsDocumentRefusal}
use Rattle.gx_xml.proofs.DocumentLevels.{all_low, documents_levelled, documents_readable, takings}
use Rattle.gx_xml.proofs.SoundLemmas.{IsSoundRoot, made_root}
use Rattle.gx_xml.proofs.CodeLemmas.{IsCode, document_codes}

abbrev pub IsReadOrRefused : List ℕ → Type 0
IsReadOrRefused bytes = ((t : SourceTree) × IsDocumentOf bytes t) ⊎ ((r : XmlRule) × (p : Place) × IsDocumentRefusal bytes (Refused p r))

-- every value of a text is an element
root_value : (text : List ℕ) (v : Made) → HasValue documents whole_document text v → IsSoundRoot 200 v → (t : SourceTree) × IsDocument text t
root_value text (node (Root t)) h s = (t, h)
root_value text (node (Held cs)) h s = absurd s
root_value text (node (Marked m)) h s = absurd s
root_value text nothing h s = absurd s
root_value text (characters x) h s = absurd s
root_value text (pair a b) h s = absurd s
root_value text no_item h s = absurd s
root_value text (an_item a b) h s = absurd s

tag_fault_at : (text : List ℕ) (code other left : ℕ) → other ≡ code → IsFaulty documents whole_document text code left → HasTagFault text other (place_at text (last_less (take (length text - left) text)))
tag_fault_at text code other left e h = record { left = left; fault = subst (λ c. IsFaulty documents whole_document text c left) (sym e) h; at = refl }

text_read : (bytes text : List ℕ) → Encodes bytes text → (o : Result Made Refusal) → IsVerdict documents whole_document text o → IsReadOrRefused bytes
text_read bytes text t (Ok v) h = let r = root_value text v h (made_root v text [] h.derived) in inl (r.0, (text, t, r.1))
text_read bytes text t (Err (Unfit far)) h = inr (xml_rule.Malformed, place_at text (length text - far), (text, t, record { far = far; unfit = h; at = refl }))
text_read bytes text t (Err (Faulty code left)) h = go (document_codes text h.rest code h.halts)
  where
    place : Place
    place = place_at text (last_less (take (length text - left) text))

    go : IsCode code → IsReadOrRefused bytes
    go (inl e) = inr (xml_rule.Doctype, place_at text (length text - left), (text, t, record { left = left; fault = subst (λ c. IsFaulty documents whole_document text c left) (sym e) h; at = refl }))
    go (inr (inl e)) = inr (xml_rule.UnboundPrefix, place, (text, t, tag_fault_at text code unbound_prefix left e h))
    go (inr (inr (inl e))) = inr (xml_rule.DuplicateAttribute, place, (text, t, tag_fault_at text code duplicate_attribute left e h))
    go (inr (inr (inr e))) = inr (xml_rule.TooDeep, place, (text, t, tag_fault_at text code too_deep left e h))
text_read bytes text t (Err TooDeep) h = absurd h

verdict : (text : List ℕ) → IsVerdict documents whole_document text (read_text documents (suc (length text)) whole_document text)
verdict text =
    exact_text documents documents_readable.tokens documents_readable.productions whole_document documents_readable.top (suc (length text)) text
    (never_too_deep documents whole_document documents_readable takings documents_levelled 1 (all_low whole_document) (suc (length text)) text (omega arith))

-- bytes that are no text

module _ (bytes : List ℕ) (broken : IsUtf8 bytes → ⊥) where
  front_short : (n : ℕ) → IsUtf8 (take n bytes) → n < length bytes
  front_short n u = lt_of_not-le (λ h. broken (subst IsUtf8 (take_all n bytes h) u))

  -- No longer front is UTF-8.
  abbrev NoneAbove : ℕ → Type 0
  NoneAbove n = (m : ℕ) → n < m → IsUtf8 (take m bytes) → ⊥

  longest_front : (n : ℕ) → NoneAbove n → (m : ℕ) × IsValidUpTo bytes m
  longest_front zero above = (zero, record { short = front_short zero ([], (refl, refl)); front = ([], (refl, refl)); longest = above })
  longest_front (suc n) above = go (is_utf8 (take (suc n) bytes)) refl (λ e. longest_front n (none e))
    where
      none : is_utf8 (take (suc n) bytes) ≡ false → NoneAbove n
      none e m h u = elim (eq-or-lt_of_le h) [
        | inl s ↦ let f = is_utf8-from_IsUtf8 (take m bytes) u in let g = ap (λ k. is_utf8 (take k bytes)) s in absurd (cc (e, f, g))
        | inr s ↦ above m s u
      ]

      go : (b : Bool) → is_utf8 (take (suc n) bytes) ≡ b → (is_utf8 (take (suc n) bytes) ≡ false → (m : ℕ) × IsValidUpTo bytes m) → (m : ℕ) × IsValidUpTo bytes m
      go true e shorter = let u = IsUtf8-from_is_utf8 (take (suc n) bytes) e in (suc n, record { short = front_short (suc n) u; front = u; longest = above })
      go false e shorter = shorter e

  none_longer : NoneAbove (length bytes)
  none_longer m h u = broken (subst IsUtf8 (take_all m bytes (omega (arith, h))) u)

  bytes_refused : IsReadOrRefused bytes
  bytes_refused =
      let r = longest_front (length bytes) none_longer in
      let front = chars (take r.0 bytes) in
      inr (xml_rule.NotUtf8, place_at front (length front), unreadable_at bytes front r.0 (place_at front (length front)) r.1 refl refl)

pub a_reading_exists : (bytes : List ℕ) → IsReadOrRefused bytes
a_reading_exists bytes = go (is_utf8 bytes) refl
  where
    read : IsUtf8 bytes → IsReadOrRefused bytes
    read u = text_read bytes u.0 (record { spelled = u.1.1; scalars = u.1.0 }) (read_text documents (suc (length u.0)) whole_document u.0) (verdict u.0)

    broken : is_utf8 bytes ≡ false → IsUtf8 bytes → ⊥
    broken e u = let f = is_utf8-from_IsUtf8 bytes u in absurd (cc (e, f))

    go : (b : Bool) → is_utf8 bytes ≡ b → IsReadOrRefused bytes
    go true e = read (IsUtf8-from_is_utf8 bytes e)
    go false e = bytes_refused bytes (broken e)
