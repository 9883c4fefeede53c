-- Bytes are read in one way.
use Rattle.std.proofs.Common.{◌≡◌, ℕ, ◌-◌, ◌==◌, ◌≤◌, if◌then◌else◌, List, [], ◌⊎◌, inl, inr, length, Result, Err, refl, sym, ap, ap₂, subst, ◌∙◌, encode_utf8_all, take, arith}
use Rattle.std.specs.Str.{chars, IsUtf8, IsValidUpTo}
use Rattle.std.proofs.lemmas.Str.{chars-encodes, utf8_valid_len-IsValidUpTo}
use Rattle.std.proofs.lemmas.List.{take_all}
use Rattle.std.proofs.Math.Seq.{take-append_seam}
use Rattle.gx_base.specs.declared.place.Place.{Place}
use Rattle.gx_grammar.specs.Derivation.{Derives}
use Rattle.gx_grammar.specs.Decoding.{IsUnreadableAt}
use Rattle.gx_grammar.specs.Places.{place_at}
use Rattle.gx_grammar.specs.Text.{IsVerdict, AtEnd, Nowhere}
use Rattle.gx_grammar.specs.Reading.{Refusal, Unfit, Faulty}
use Rattle.gx_grammar.proofs.PublicLaws.{same_verdict, unique}
use Rattle.gx_xml.specs.declared.refusal.XmlRule.{XmlRule}
use Rattle.gx_xml.specs.declared.refusal.XmlRule.TheVariants as xml_rule
use Rattle.gx_xml.specs.declared.refusal.XmlRefusal.TheVariants.{Refused}
use Rattle.gx_xml.specs.SourceTree.{SourceTree}
use Rattle.gx_xml.specs.Nodes.{Made, rooted}
use Rattle.gx_xml.specs.Tokens.{doctype, unbound_prefix, duplicate_attribute, too_deep}
use Rattle.gx_xml.specs.Grammar.{whole_document, documents}
use Rattle.gx_xml.specs.Sound.{IsSoundSource, source_depth}
use Rattle.gx_xml.specs.Reading.{Encodes, last_less, IsDocumentOf, IsDocumentRefusal}
use Rattle.gx_xml.proofs.DocumentLevels.{documents_readable}
use Rattle.gx_xml.proofs.SoundLemmas.{made_root}

same_root : (s t : SourceTree) → rooted s ≡ rooted t → s ≡ t
same_root s t e = cc e

pub one_tree : (text : List ℕ) (s t : SourceTree) → Derives documents whole_document (rooted s) text [] → Derives documents whole_document (rooted t) text [] → s ≡ t
one_tree text s t d e = same_root s t (unique documents documents_readable.tokens documents_readable.productions d e AtEnd Nowhere documents_readable.top refl refl).0

-- bytes are the UTF-8 of one text at most

text_is_chars : (bytes text : List ℕ) → Encodes bytes text → text ≡ chars bytes
text_is_chars bytes text t = sym (chars-encodes text t.scalars) ∙ ap chars t.spelled

one_text : (bytes text other : List ℕ) → Encodes bytes text → Encodes bytes other → text ≡ other
one_text bytes text other t o = text_is_chars bytes text t ∙ sym (text_is_chars bytes other o)

unreadable_is_not_utf8 : (bytes : List ℕ) (n : ℕ) → IsValidUpTo bytes n → IsUtf8 bytes → ⊥
unreadable_is_not_utf8 bytes n v u = v.longest (length bytes) v.short (subst IsUtf8 (sym (take_all (length bytes) bytes (omega arith))) u)

-- a text and an unreadable place exclude each other
not_both : (bytes text : List ℕ) (place : Place) → Encodes bytes text → IsUnreadableAt bytes place → ⊥
not_both bytes text place t u = unreadable_is_not_utf8 bytes (length (encode_utf8_all u.front)) u.longest (text, (t.scalars, t.spelled))

same_unread : (bytes : List ℕ) (p q : Place) → IsUnreadableAt bytes p → IsUnreadableAt bytes q → p ≡ q
same_unread bytes p q a b =
    let n : length (encode_utf8_all a.front) ≡ length (encode_utf8_all b.front) = sym (utf8_valid_len-IsValidUpTo bytes (length (encode_utf8_all a.front)) a.longest) ∙ utf8_valid_len-IsValidUpTo bytes (length (encode_utf8_all b.front)) b.longest in
    let e : encode_utf8_all a.front ≡ encode_utf8_all b.front =
    sym (take-append_seam (encode_utf8_all a.front) a.rest) ∙ ap₂ (λ k bs. take k bs) n (sym a.whole ∙ b.whole) ∙ take-append_seam (encode_utf8_all b.front) b.rest in
    let f : a.front ≡ b.front = sym (chars-encodes a.front a.characters) ∙ ap chars e ∙ chars-encodes b.front b.characters in
    a.behind ∙ ap (λ x. place_at x (length x)) f ∙ sym b.behind

-- the answer that a refusal is made of
abbrev answer_of : XmlRule → ℕ → Result Made Refusal
answer_of xml_rule.NotUtf8 left = Err (Faulty 0 left)
answer_of xml_rule.Malformed left = Err (Unfit left)
answer_of xml_rule.Doctype left = Err (Faulty doctype left)
answer_of xml_rule.UnboundPrefix left = Err (Faulty unbound_prefix left)
answer_of xml_rule.DuplicateAttribute left = Err (Faulty duplicate_attribute left)
answer_of xml_rule.TooDeep left = Err (Faulty too_deep left)

-- the place of a refusal
abbrev place_by : XmlRule → List ℕ → ℕ → Place
place_by xml_rule.NotUtf8 text left = place_at text (length text - left)
place_by xml_rule.Malformed text left = place_at text (length text - left)
place_by xml_rule.Doctype text left = place_at text (length text - left)
place_by xml_rule.UnboundPrefix text left = place_at text (last_less (take (length text - left) text))
place_by xml_rule.DuplicateAttribute text left = place_at text (last_less (take (length text - left) text))
place_by xml_rule.TooDeep text left = place_at text (last_less (take (length text - left) text))

abbrev rule_of_code : ℕ → XmlRule
rule_of_code code =
    if code == doctype then xml_rule.Doctype else (if code == unbound_prefix then xml_rule.UnboundPrefix else (if code == duplicate_attribute then xml_rule.DuplicateAttribute else (if code == too_deep then xml_rule.TooDeep else xml_rule.NotUtf8)))

abbrev rule_in : Result Made Refusal → XmlRule
rule_in (Err (Unfit left)) = xml_rule.Malformed
rule_in (Err (Faulty code left)) = rule_of_code code
rule_in _ = xml_rule.NotUtf8

abbrev left_in : Result Made Refusal → ℕ
left_in (Err (Unfit left)) = left
left_in (Err (Faulty code left)) = left
left_in _ = 0

rule_is : (rule : XmlRule) (left : ℕ) → (rule_in (answer_of rule left) ≡ rule) × (left_in (answer_of rule left) ≡ left)
rule_is xml_rule.NotUtf8 left = (refl, refl)
rule_is xml_rule.Malformed left = (refl, refl)
rule_is xml_rule.Doctype left = (refl, refl)
rule_is xml_rule.UnboundPrefix left = (refl, refl)
rule_is xml_rule.DuplicateAttribute left = (refl, refl)
rule_is xml_rule.TooDeep left = (refl, refl)

-- a text that a rule refuses at a place
record Refusing (bytes : List ℕ) (rule : XmlRule) (place : Place) : Type 0 where
  text : List ℕ
  decoded : Encodes bytes text
  left : ℕ
  verdict : IsVerdict documents whole_document text (answer_of rule left)
  none : (t : SourceTree) → Derives documents whole_document (rooted t) text [] → ⊥
  there : place ≡ place_by rule text left

abbrev Unread : List ℕ → XmlRule → Place → Type 0
Unread bytes rule place = (rule ≡ xml_rule.NotUtf8) × IsUnreadableAt bytes place

refusing : (bytes : List ℕ) (rule : XmlRule) (place : Place) → IsDocumentRefusal bytes (Refused place rule) → Unread bytes rule place ⊎ Refusing bytes rule place
refusing bytes xml_rule.NotUtf8 place p = inl (refl, p)
refusing bytes xml_rule.Malformed place p = inr (record { text = p.0; decoded = p.1; left = p.2.far; verdict = p.2.unfit; none = λ t d. p.2.unfit.none (rooted t) d; there = p.2.at })
refusing bytes xml_rule.Doctype place p = inr (record { text = p.0; decoded = p.1; left = p.2.left; verdict = p.2.fault; none = λ t d. p.2.fault.none (rooted t) d; there = p.2.at })
refusing bytes xml_rule.UnboundPrefix place p = inr (record { text = p.0; decoded = p.1; left = p.2.left; verdict = p.2.fault; none = λ t d. p.2.fault.none (rooted t) d; there = p.2.at })
refusing bytes xml_rule.DuplicateAttribute place p = inr (record { text = p.0; decoded = p.1; left = p.2.left; verdict = p.2.fault; none = λ t d. p.2.fault.none (rooted t) d; there = p.2.at })
refusing bytes xml_rule.TooDeep place p = inr (record { text = p.0; decoded = p.1; left = p.2.left; verdict = p.2.fault; none = λ t d. p.2.fault.none (rooted t) d; there = p.2.at })

same_refusing : (bytes : List ℕ) (r s : XmlRule) (p q : Place) → (a : Refusing bytes r p) → (b : Refusing bytes s q) → a.text ≡ b.text → (r ≡ s) × (p ≡ q)
same_refusing bytes r s p q a b e =
    let moved = subst (λ x. IsVerdict documents whole_document x (answer_of r a.left)) e a.verdict in
    let same = same_verdict documents whole_document b.text (answer_of r a.left) (answer_of s b.left) moved b.verdict in
    let rules : r ≡ s = sym (rule_is r a.left).0 ∙ ap rule_in same ∙ (rule_is s b.left).0 in
    let lefts : a.left ≡ b.left = sym (rule_is r a.left).1 ∙ ap left_in same ∙ (rule_is s b.left).1 in
    (rules, a.there ∙ ap (λ k. place_by k a.text a.left) rules ∙ ap₂ (λ x n. place_by s x n) e lefts ∙ sym b.there)

pub one_document : (bytes : List ℕ) (s t : SourceTree) → IsDocumentOf bytes s → IsDocumentOf bytes t → s ≡ t
one_document bytes s t a b = one_tree b.0 s t (subst (λ x. Derives documents whole_document (rooted s) x []) (one_text bytes a.0 b.0 a.1 b.1) a.2.derived) b.2.derived

pub not_refused : (bytes : List ℕ) (t : SourceTree) (r : XmlRule) (p : Place) → IsDocumentOf bytes t → IsDocumentRefusal bytes (Refused p r) → ⊥
not_refused bytes t r p a b = elim (refusing bytes r p b) [
  | inl u ↦ not_both bytes a.0 p a.1 u.1
  | inr v ↦ v.none t (subst (λ x. Derives documents whole_document (rooted t) x []) (one_text bytes a.0 v.text a.1 v.decoded) a.2.derived)
]

pub one_refusal : (bytes : List ℕ) (r s : XmlRule) (p q : Place) → IsDocumentRefusal bytes (Refused p r) → IsDocumentRefusal bytes (Refused q s) → (r ≡ s) × (p ≡ q)
one_refusal bytes r s p q a b = elim (refusing bytes r p a) [
  | inl u ↦ elim (refusing bytes s q b) [
    | inl v ↦ (u.0 ∙ sym v.0, same_unread bytes p q u.1 v.1)
    | inr v ↦ absurd (not_both bytes v.text p v.decoded u.1)
  ]
  | inr u ↦ elim (refusing bytes s q b) [
    | inl v ↦ absurd (not_both bytes u.text q u.decoded v.1)
    | inr v ↦ same_refusing bytes r s p q u v (one_text bytes u.text v.text u.decoded v.decoded)
  ]
]

pub sound_source : (text : List ℕ) (t : SourceTree) → Derives documents whole_document (rooted t) text [] → IsSoundSource t × (source_depth t ≤ 200)
sound_source text t d = made_root (rooted t) text [] d
