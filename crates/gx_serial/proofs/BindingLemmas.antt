-- Look-ups among bindings.
use Rattle.std.proofs.Common.{◌≡◌, ℕ, zero, suc, ◌+◌, ◌<◌, List, ◌-◌, ◌^◌, Bool, true, false, cond, refl, sym, ap, ◌∙◌, arith}
use Rattle.std.specs.Prelude.{Option, Some, bytes_eq, codes, decimal}
use Rattle.std.specs.Str.{chars, all_scalars, encode_utf8_all, IsAscii}
use Rattle.std.proofs.lemmas.Str.{chars-IsAscii, IsAscii-append}
use Rattle.std.proofs.lemmas.Fmt.{IsAscii-decimal}
use Rattle.std.specs.Bool.{one_answer}
use Rattle.std.specs.Cmp.Lexicographic.{bytes_decides}
use Rattle.gx_serial.specs.Binding.{last_of, xml, is_prefix_among, numbered_prefix, free_number}
use Rattle.gx_serial.proofs.TextLemmas.{chars_of_text}

pub last_of-cond : (b : Bool) (first rest : Option (List ℕ)) (uri : List ℕ) → last_of first (cond b (Some uri) rest) ≡ cond b (Some uri) (last_of first rest)
last_of-cond true first rest uri = refl
last_of-cond false first rest uri = refl

-- a text is xml where its bytes are
pub is_xml : (text : List ℕ) → all_scalars text ≡ true → bytes_eq (encode_utf8_all text) xml ≡ bytes_eq text xml
unfolding lib.Utf8.encode
is_xml text scalars =
    let by_bytes = bytes_decides (encode_utf8_all text) xml in
    let by_text = bytes_decides text xml in
    let back = λ (e : encode_utf8_all text ≡ xml). sym (chars_of_text text (encode_utf8_all text) scalars refl) ∙ ap chars e ∙ chars_of_text xml xml refl refl in
    one_answer {P = encode_utf8_all text ≡ xml} _ _ by_bytes (λ h. ap encode_utf8_all (by_text.0 h), λ e. by_text.1 (back e))

-- a free number is the first one
pub free_here : (used : List (List ℕ)) (spare k : ℕ) → is_prefix_among used (numbered_prefix k) ≡ false → free_number used spare k ≡ k
unfolding free_number
free_here used zero k free = refl
free_here used (suc spare) k free = rw free refl

-- a number that is not free is passed over
pub free_next : (used : List (List ℕ)) (n i : ℕ) → i < n → is_prefix_among used (numbered_prefix (i + 1)) ≡ true
    → free_number used (n - i) (i + 1) ≡ free_number used (n - (i + 1)) (i + 1 + 1)
unfolding free_number
free_next used n i below taken =
    let e : n - i ≡ suc (n - (i + 1)) = omega arith in
    rw (e, taken) refl

pub free_end : (used : List (List ℕ)) (n i : ℕ) → n ≡ i → free_number used (n - i) (i + 1) ≡ i + 1
unfolding free_number
free_end used n i e = let z : n - i ≡ 0 = omega arith in rw z refl

pub chars-numbered_prefix : (k : ℕ) → k < 2 ^ 64 → chars (numbered_prefix k) ≡ numbered_prefix k
chars-numbered_prefix k small =
    chars-IsAscii (numbered_prefix k) (IsAscii-append (codes "ns") (decimal k) ns_is_ascii (IsAscii-decimal k small))
  where
    ns_is_ascii : IsAscii (codes "ns")
    ns_is_ascii zero = omega arith
    ns_is_ascii (suc zero) = omega arith
    ns_is_ascii (suc (suc i)) = omega arith
