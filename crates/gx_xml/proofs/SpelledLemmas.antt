-- Parts of texts and their characters.
use Rattle.std.proofs.Common.{◌≡◌, ℕ, ◌≤◌, ◌+◌, ◌-◌, Bool, true, List, [], ◌∷◌, ◌++◌, length, take, length-append, refl, sym, ap, ◌∙◌, subst, arith}
use Rattle.std.specs.Prelude.{bytes_eq, encode_utf8_all, IsTrue, Option, Some, None, IfSome}
use Rattle.std.specs.Str.{chars, all_scalars, IsUtf8, IsCharBoundary}
use Rattle.std.specs.Bool.{one_answer}
use Rattle.std.specs.Borrow.{Bor}
use Rattle.std.specs.Option.{MatchOption}
use Rattle.std.specs.Str.Pattern.{FindsTextPrefix, StripsPrefix}
use Rattle.std.specs.Cmp.Lexicographic.{bytes_decides}
use Rattle.std.proofs.lemmas.Bool.{and_parts, and_from}
use Rattle.std.proofs.lemmas.List.{take-append-le, take_all}
use Rattle.std.proofs.lemmas.Str.{chars-append, encodes-append, encodes-chars, scalars-chars, chars-encodes, IsCharBoundary-at_seam}
use Rattle.gx_tree.specs.Binding.{xml, xmlns, xml_uri, xmlns_uri}

scalars_front : (x y : List ℕ) → all_scalars (x ++ y) ≡ true → all_scalars x ≡ true
scalars_front [] y e = refl
scalars_front (c ∷ x) y e = let both = and_parts _ _ e in and_from _ _ both.0 (scalars_front x y both.1)

-- a text whose last part is this one is cut in front of it
pub record Cut (text behind : List ℕ) (n : ℕ) : Type 0 where
  pub within : length behind ≤ length text
  pub boundary : IsCharBoundary text (length text - length behind)
  pub front : chars (take (length text - length behind) text) ≡ take n (chars text)

pub cut_is : (text behind : List ℕ) (n : ℕ) → IsUtf8 text → IsUtf8 behind → chars text ≡ take n (chars text) ++ chars behind → Cut text behind n
cut_is text behind n u v e =
    let front = take n (chars text) in
    let scalars : all_scalars front ≡ true = scalars_front front (chars behind) (ap all_scalars (sym e) ∙ scalars-chars text u) in
    let whole : text ≡ encode_utf8_all front ++ behind =
    sym (encodes-chars text u) ∙ ap encode_utf8_all e ∙ encodes-append front (chars behind) ∙ ap (λ b. encode_utf8_all front ++ b) (encodes-chars behind v) in
    let long : length text ≡ length (encode_utf8_all front) + length behind = ap length whole ∙ length-append (encode_utf8_all front) behind in
    let at : length text - length behind ≡ length (encode_utf8_all front) = omega (arith, long) in
    record {
      within = omega (arith, long);
      boundary = subst (λ k. IsCharBoundary text k) (sym at) (IsCharBoundary-at_seam text (encode_utf8_all front) behind whole v);
      front = ap (λ k. chars (take k text)) at ∙ ap (λ t. chars (take (length (encode_utf8_all front)) t)) whole
          ∙ ap chars (take-append-le (length (encode_utf8_all front)) (encode_utf8_all front) behind (omega arith) ∙ take_all (length (encode_utf8_all front)) (encode_utf8_all front) (omega arith)) ∙ chars-encodes front scalars;
    }

same_bytes : (text name : List ℕ) → IsUtf8 text → (bytes : List ℕ) → chars bytes ≡ name → encode_utf8_all name ≡ bytes → bytes_eq text bytes ≡ bytes_eq (chars text) name
same_bytes text name u bytes e f =
    let by_bytes = bytes_decides text bytes in
    let by_text = bytes_decides (chars text) name in
    one_answer {P = text ≡ bytes} _ _ by_bytes (λ h. sym (encodes-chars text u) ∙ ap encode_utf8_all (by_text.0 h) ∙ f, λ h. by_text.1 (ap chars h ∙ e))

pub xml_bytes : (text : List ℕ) → IsUtf8 text → bytes_eq text xml ≡ bytes_eq (chars text) xml
unfolding chars lib.Utf8.encode
xml_bytes text u = same_bytes text xml u xml refl refl

pub xmlns_bytes : (text : List ℕ) → IsUtf8 text → bytes_eq text xmlns ≡ bytes_eq (chars text) xmlns
unfolding chars lib.Utf8.encode
xmlns_bytes text u = same_bytes text xmlns u xmlns refl refl

pub xml_uri_bytes : (text : List ℕ) → IsUtf8 text → bytes_eq text xml_uri ≡ bytes_eq (chars text) xml_uri
unfolding chars lib.Utf8.encode
xml_uri_bytes text u = same_bytes text xml_uri u xml_uri refl refl

pub xmlns_uri_bytes : (text : List ℕ) → IsUtf8 text → bytes_eq text xmlns_uri ≡ bytes_eq (chars text) xmlns_uri
unfolding chars lib.Utf8.encode
xmlns_uri_bytes text u = same_bytes text xmlns_uri u xmlns_uri refl refl

pub no_bytes : (text : List ℕ) → IsUtf8 text → bytes_eq text [] ≡ bytes_eq (chars text) []
unfolding chars lib.Utf8.encode
no_bytes text u = same_bytes text [] u [] refl refl

-- a text has these characters where its bytes are these
pub text_is : (text bytes : List ℕ) (b : Bool) → all_scalars text ≡ true → IsUtf8 bytes → b ≡ bytes_eq (encode_utf8_all text) bytes → (IsTrue b → text ≡ chars bytes) × (text ≡ chars bytes → IsTrue b)
text_is text bytes b s u e =
    let by = bytes_decides (encode_utf8_all text) bytes in
    (λ t. sym (chars-encodes text s) ∙ ap chars (by.0 (subst IsTrue e t)), λ h. subst IsTrue (sym e) (by.1 (ap encode_utf8_all h ∙ encodes-chars bytes u)))

-- what is behind the front of a text has the characters behind those of the front
pub behind_front : (front text : List ℕ) (r : Option (Bor (List ℕ))) → IsUtf8 front → MatchOption r (FindsTextPrefix front text None) (λ x. StripsPrefix (FindsTextPrefix front) text x.now)
    → IfSome r (λ behind. chars text ≡ chars front ++ chars behind.now)
behind_front front text None u h = tt
behind_front front text (Some behind) u h = ap chars (h.1.1 ∙ ap (λ b. front ++ b) (sym h.2)) ∙ chars-append front behind.now u
