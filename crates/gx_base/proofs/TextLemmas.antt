-- The characters of a string's bytes.
use Rattle.std.proofs.Common.{◌≡◌, ℕ, List, [], ◌∷◌, ◌++◌, refl, sym, ◌∙◌, ap, string_bytes, String, Bool, true, nat_eq, Option, Some, None, IfSome, IfNone, length, subst}
use Rattle.std.specs.Str.{chars, IsUtf8, all_scalars, encode_utf8_all}
use Rattle.std.specs.Char.{IsScalar}
use Rattle.std.proofs.Math.Utf8.{encode}
use Rattle.std.proofs.lemmas.Str.{IsUtf8-string_bytes, IsUtf8-past_char, IsUtf8-encode, encodes-chars, scalars-chars, chars-append, chars-encodes, chars_from_encodes, chars_past_char, chars-nil}
use Rattle.std.proofs.lemmas.List.{append-nil, nil_from_length}
use Rattle.std.specs.Cmp.Lexicographic.{pointwise, bytes_decides}
use Rattle.std.specs.declared.str.Chars.{Chars}
use Rattle.std.specs.Str.Iter.{chars_rest, chars_steps}
use Rattle.std.specs.Bool.{IsTrue, one_answer}
use Rattle.std.proofs.Math.Facts.{eqb_yes}
use Rattle.std.proofs.Math.Dec.{T}

-- a string's bytes are the UTF-8 of its characters
pub encodes_string : {Z : Type 0} (s : String Z) → encode_utf8_all (chars (string_bytes s)) ≡ string_bytes s
encodes_string s = encodes-chars (string_bytes s) (IsUtf8-string_bytes s)

pub scalars_string : {Z : Type 0} (s : String Z) → all_scalars (chars (string_bytes s)) ≡ true
scalars_string s = scalars-chars (string_bytes s) (IsUtf8-string_bytes s)

pub chars_of_one : (c : ℕ) → IsScalar c → chars (encode c) ≡ c ∷ []
chars_of_one c h = chars_past_char (encode c) [] c (IsUtf8-encode c h) (sym (append-nil (encode c))) ∙ ap (λ cs. c ∷ cs) chars-nil

-- one more character
pub chars_push : {Z : Type 0} (s : String Z) (c : ℕ) → IsScalar c → chars (string_bytes s ++ encode c) ≡ chars (string_bytes s) ++ c ∷ []
chars_push s c h = chars-append (string_bytes s) (encode c) (IsUtf8-string_bytes s) ∙ ap (λ cs. chars (string_bytes s) ++ cs) (chars_of_one c h)

-- more bytes behind it
pub chars_push_bytes : {Z : Type 0} (s : String Z) (bytes : List ℕ) → chars (string_bytes s ++ bytes) ≡ chars (string_bytes s) ++ chars bytes
chars_push_bytes s bytes = chars-append (string_bytes s) bytes (IsUtf8-string_bytes s)

-- a string without characters has no bytes
pub no_chars : {Z : Type 0} (s : String Z) → chars (string_bytes s) ≡ [] → string_bytes s ≡ []
no_chars s e = sym (encodes_string s) ∙ ap encode_utf8_all e

-- two strings have the same bytes exactly where they have the same characters
pub same_strings : {Z W : Type 0} (s : String Z) (t : String W) → pointwise nat_eq (string_bytes s) (string_bytes t) ≡ pointwise nat_eq (chars (string_bytes s)) (chars (string_bytes t))
same_strings s t =
    let by_bytes = bytes_decides (string_bytes s) (string_bytes t) in
    let by_chars = bytes_decides (chars (string_bytes s)) (chars (string_bytes t)) in
    let back = λ (e : chars (string_bytes s) ≡ chars (string_bytes t)). sym (encodes_string s) ∙ ap encode_utf8_all e ∙ encodes_string t in
    one_answer {P = string_bytes s ≡ string_bytes t} _ _ by_bytes (λ h. back (by_chars.0 h), λ e. by_chars.1 (ap chars e))

-- what one call of `next` on the characters of a text leaves, and takes
pub next_is_text : (s : Chars) (r : Option ℕ) (t : Chars) → IsUtf8 (chars_rest s) → chars_steps s r t → IsUtf8 (chars_rest t)
next_is_text s None t u h = subst (λ (v : Chars). IsUtf8 (chars_rest v)) (sym h.0.1) u
next_is_text s (Some c) t u h = IsUtf8-past_char (chars_rest s) (chars_rest t) c u h.0

pub next_is_none : (s : Chars) (r : Option ℕ) (t : Chars) → chars_steps s r t → IfNone r (chars (chars_rest s) ≡ [])
next_is_none s None t h = ap chars (nil_from_length (chars_rest s) h.0.0) ∙ chars-nil
next_is_none s (Some c) t h = tt

pub next_is_some : (s : Chars) (r : Option ℕ) (t : Chars) → IsUtf8 (chars_rest s) → chars_steps s r t → IfSome r (λ c. chars (chars_rest s) ≡ c ∷ chars (chars_rest t))
next_is_some s None t u h = tt
next_is_some s (Some c) t u h = chars_past_char (chars_rest s) (chars_rest t) c u h.0

-- a string is empty exactly where it has no characters
pub empty_string : {Z : Type 0} (s : String Z) (b : Bool) → b ≡ nat_eq (length (string_bytes s)) 0 → (IsTrue b → chars (string_bytes s) ≡ []) × (chars (string_bytes s) ≡ [] → IsTrue b)
empty_string s b e = (
  λ t. ap chars (nil_from_length (string_bytes s) (eqb_yes (subst (λ (x : Bool). T x) (sym t ∙ e) tt))) ∙ chars-nil,
  λ n. e ∙ ap (λ bs. nat_eq (length bs) 0) (no_chars s n) ∙ refl,
)

pub ruleset string_rules = (chars-encodes, encodes_string, scalars_string, chars_push, chars_push_bytes, chars-nil, no_chars, same_strings)
