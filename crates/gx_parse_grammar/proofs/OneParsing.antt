-- Bytes are parsed in one way.
use Rattle.std.proofs.Common.{◌≡◌, ℕ, ◌==◌, if◌then◌else◌, List, ◌⊎◌, inl, inr, length, Result, Err, refl, sym, ap, ap₂, subst, ◌∙◌, encode_utf8_all, take}
use Rattle.std.specs.Str.{chars}
use Rattle.std.proofs.lemmas.Str.{chars-encodes, utf8_valid_len-IsValidUpTo}
use Rattle.std.proofs.Math.Seq.{take-append_seam}
use Rattle.gx_base.specs.declared.place.Place.{Place}
use Rattle.gx_ast.specs.declared.query.Query.{Query}
use Rattle.gx_grammar.specs.Value.{node}
use Rattle.gx_grammar.specs.Decoding.{IsUnreadableAt}
use Rattle.gx_grammar.specs.Places.{place_at}
use Rattle.gx_grammar.specs.Text.{IsVerdict}
use Rattle.gx_grammar.specs.Reading.{Refusal, Unfit, Faulty}
use Rattle.gx_grammar.proofs.PublicLaws.{same_verdict}
use Rattle.gx_parse_grammar.specs.declared.refusal.SyntaxRule.{SyntaxRule}
use Rattle.gx_parse_grammar.specs.declared.refusal.SyntaxRule.TheVariants.{NotUtf8, Syntax, TooNested, LiteralTooLarge, BadReference}
use Rattle.gx_parse_grammar.specs.Nodes.{Made, Whole}
use Rattle.gx_parse_grammar.specs.Tokens.{limit_code, number_code, reference_code}
use Rattle.gx_parse_grammar.specs.Grammar.{query_language, place_in}
use Rattle.gx_parse_grammar.specs.Prolog.{query}
use Rattle.gx_parse_grammar.specs.Query.{IsQuery, IsText, Parsing, parsed, refused, Parses}
use Rattle.gx_parse_grammar.proofs.Verdict.{one_tree, one_text, unreadable_is_not_utf8}

-- the answer that a refusal is made of
abbrev answer_of : SyntaxRule → ℕ → Result Made Refusal
answer_of NotUtf8 left = Err (Faulty 0 left)
answer_of Syntax left = Err (Unfit left)
answer_of TooNested left = Err (Faulty limit_code left)
answer_of LiteralTooLarge left = Err (Faulty number_code left)
answer_of BadReference left = Err (Faulty reference_code left)

abbrev rule_of_code : ℕ → SyntaxRule
rule_of_code code = if code == 2 then TooNested else (if code == 3 then LiteralTooLarge else (if code == 4 then BadReference else NotUtf8))

abbrev rule_in : Result Made Refusal → SyntaxRule
rule_in (Err (Unfit left)) = Syntax
rule_in (Err (Faulty code left)) = rule_of_code code
rule_in _ = NotUtf8

abbrev left_in : Result Made Refusal → ℕ
left_in (Err (Unfit left)) = left
left_in (Err (Faulty code left)) = left
left_in _ = 0

rule_is : (rule : SyntaxRule) (left : ℕ) → (rule_in (answer_of rule left) ≡ rule) × (left_in (answer_of rule left) ≡ left)
rule_is NotUtf8 left = (refl, refl)
rule_is Syntax left = (refl, refl)
rule_is TooNested left = (refl, refl)
rule_is LiteralTooLarge left = (refl, refl)
rule_is BadReference left = (refl, refl)

-- a text that a rule refuses at a place
record Refusing (bytes : List ℕ) (rule : SyntaxRule) (place : Place) : Type 0 where
  text : List ℕ
  decoded : IsText bytes text
  left : ℕ
  verdict : IsVerdict (query_language (place_in text)) (query (place_in text)) text (answer_of rule left)
  none : (t : Query) → IsQuery text t → ⊥
  there : place ≡ place_in text left

abbrev Unread : List ℕ → SyntaxRule → Place → Type 0
Unread bytes rule place = (rule ≡ NotUtf8) × IsUnreadableAt bytes place

refusing : (bytes : List ℕ) (rule : SyntaxRule) (place : Place) → Parses bytes (refused rule place) → Unread bytes rule place ⊎ Refusing bytes rule place
refusing bytes NotUtf8 place p = inl (refl, p)
refusing bytes Syntax place p = inr (record { text = p.0; decoded = p.1; left = p.2.left; verdict = p.2.unfit; none = λ t d. p.2.unfit.none (node (Whole t)) d; there = p.2.there })
refusing bytes TooNested place p = inr (record { text = p.0; decoded = p.1; left = p.2.left; verdict = p.2.faulty; none = λ t d. p.2.faulty.none (node (Whole t)) d; there = p.2.there })
refusing bytes LiteralTooLarge place p = inr (record { text = p.0; decoded = p.1; left = p.2.left; verdict = p.2.faulty; none = λ t d. p.2.faulty.none (node (Whole t)) d; there = p.2.there })
refusing bytes BadReference place p = inr (record { text = p.0; decoded = p.1; left = p.2.left; verdict = p.2.faulty; none = λ t d. p.2.faulty.none (node (Whole t)) d; there = p.2.there })

-- a text and an unreadable place exclude each other
not_both : (bytes text : List ℕ) (place : Place) → IsText bytes text → IsUnreadableAt bytes place → ⊥
not_both bytes text place t u = unreadable_is_not_utf8 bytes (length (encode_utf8_all u.front)) u.longest (text, (t.characters, t.encoded))

same_unread : (bytes : List ℕ) (p q : Place) → IsUnreadableAt bytes p → IsUnreadableAt bytes q → p ≡ q
same_unread bytes p q a b =
    let n : length (encode_utf8_all a.front) ≡ length (encode_utf8_all b.front) = sym (utf8_valid_len-IsValidUpTo bytes (length (encode_utf8_all a.front)) a.longest) ∙ utf8_valid_len-IsValidUpTo bytes (length (encode_utf8_all b.front)) b.longest in
    let e : encode_utf8_all a.front ≡ encode_utf8_all b.front =
    sym (take-append_seam (encode_utf8_all a.front) a.rest) ∙ ap₂ (λ k bs. take k bs) n (sym a.whole ∙ b.whole) ∙ take-append_seam (encode_utf8_all b.front) b.rest in
    let f : a.front ≡ b.front = sym (chars-encodes a.front a.characters) ∙ ap chars e ∙ chars-encodes b.front b.characters in
    a.behind ∙ ap (λ x. place_at x (length x)) f ∙ sym b.behind

same_refusing : (bytes : List ℕ) (r s : SyntaxRule) (p q : Place) → (a : Refusing bytes r p) → (b : Refusing bytes s q) → a.text ≡ b.text → refused r p ≡ refused s q
same_refusing bytes r s p q a b e =
    let moved = subst (λ x. IsVerdict (query_language (place_in x)) (query (place_in x)) x (answer_of r a.left)) e a.verdict in
    let same = same_verdict (query_language (place_in b.text)) (query (place_in b.text)) b.text (answer_of r a.left) (answer_of s b.left) moved b.verdict in
    let rules : r ≡ s = sym (rule_is r a.left).0 ∙ ap rule_in same ∙ (rule_is s b.left).0 in
    let lefts : a.left ≡ b.left = sym (rule_is r a.left).1 ∙ ap left_in same ∙ (rule_is s b.left).1 in
    ap₂ (λ x y. refused x y) rules (a.there ∙ ap₂ (λ x y. place_in x y) e lefts ∙ sym b.there)

pub one_parsing : (bytes : List ℕ) (p q : Parsing) → Parses bytes p → Parses bytes q → p ≡ q
one_parsing bytes (parsed s) (parsed t) a b = ap (λ x. parsed x) (one_tree b.0 s t (subst (λ x. IsQuery x s) (one_text bytes a.0 b.0 a.1 b.1) a.2) b.2)
one_parsing bytes (parsed s) (refused r p) a b = elim (refusing bytes r p b) [
  | inl u ↦ absurd (not_both bytes a.0 p a.1 u.1)
  | inr v ↦ absurd (v.none s (subst (λ x. IsQuery x s) (one_text bytes a.0 v.text a.1 v.decoded) a.2))
]
one_parsing bytes (refused r p) (parsed t) a b = elim (refusing bytes r p a) [
  | inl u ↦ absurd (not_both bytes b.0 p b.1 u.1)
  | inr v ↦ absurd (v.none t (subst (λ x. IsQuery x t) (one_text bytes b.0 v.text b.1 v.decoded) b.2))
]
one_parsing bytes (refused r p) (refused s q) a b = elim (refusing bytes r p a) [
  | inl u ↦ elim (refusing bytes s q b) [
    | inl v ↦ ap₂ (λ x y. refused x y) (u.0 ∙ sym v.0) (same_unread bytes p q u.1 v.1)
    | inr v ↦ absurd (not_both bytes v.text p v.decoded u.1)
  ]
  | inr u ↦ elim (refusing bytes s q b) [
    | inl v ↦ absurd (not_both bytes u.text q u.decoded v.1)
    | inr v ↦ same_refusing bytes r s p q u v (one_text bytes u.text v.text u.decoded v.decoded)
  ]
]
