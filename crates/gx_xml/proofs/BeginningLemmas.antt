-- The bytes with which characters begin.
use Rattle.std.proofs.Common.{◌≡◌, ℕ, ◌+◌, ◌/◌, ◌%◌, ◌<◌, ◌≤◌, Bool, true, false, cond, List, [], ◌∷◌, ◌++◌, length, refl, sym, ap, ◌∙◌, arith}
use Rattle.std.specs.Prelude.{encode_utf8_all, ltb}
use Rattle.std.specs.List.{count_by}
use Rattle.std.specs.Str.{chars, IsUtf8}
use Rattle.std.proofs.Math.Utf8.{encode}
use Rattle.std.proofs.lemmas.Bool.Decides.{nat_tests}
use Rattle.std.proofs.lemmas.List.Sums.{sum_by-cons}
use Rattle.std.proofs.lemmas.Str.{encodes-chars}
use Rattle.gx_xml.specs.Beginnings.{begins_character}

-- how much a byte counts
abbrev counts : ℕ → ℕ
counts byte = cond (begins_character byte) 1 0

begins_low : (b : ℕ) → b < 128 → begins_character b ≡ true
begins_low b h = grind (arith, nat_tests)

begins_high : (b : ℕ) → 192 ≤ b → begins_character b ≡ true
begins_high b h = grind (arith, nat_tests)

goes_on : (b : ℕ) → 128 ≤ b → b < 192 → begins_character b ≡ false
goes_on b h k = grind (arith, nat_tests)

first_counts : (b : ℕ) (rest : List ℕ) → begins_character b ≡ true → count_by begins_character (b ∷ rest) ≡ 1 + count_by begins_character rest
first_counts b rest h = sum_by-cons counts b rest ∙ ap (λ t. cond t 1 0 + count_by begins_character rest) h

other_counts : (b : ℕ) (rest : List ℕ) → begins_character b ≡ false → count_by begins_character (b ∷ rest) ≡ count_by begins_character rest
other_counts b rest h = let e = sum_by-cons counts b rest ∙ ap (λ t. cond t 1 0 + count_by begins_character rest) h in omega (arith, e)

next_counts : (bits : ℕ) (rest : List ℕ) → count_by begins_character ((128 + bits % 64) ∷ rest) ≡ count_by begins_character rest
next_counts bits rest = let h : bits % 64 < 64 = omega arith in other_counts (128 + bits % 64) rest (goes_on (128 + bits % 64) (omega arith) (omega arith))

-- of the bytes of a character one begins it
one_counts : (c : ℕ) (rest : List ℕ) → count_by begins_character (encode c ++ rest) ≡ 1 + count_by begins_character rest
unfolding lib.Utf8.encode
one_counts c rest = of_one (ltb c 128) refl
  where
    of_four : (d : Bool) → ltb c 65536 ≡ d
        → count_by begins_character (cond d ((224 + c / 4096) ∷ (128 + c / 64 % 64) ∷ (128 + c % 64) ∷ []) ((240 + c / 262144) ∷ (128 + c / 4096 % 64) ∷ (128 + c / 64 % 64) ∷ (128 + c % 64) ∷ []) ++ rest)
        ≡ 1 + count_by begins_character rest
    of_four true e =
        first_counts (224 + c / 4096) ((128 + c / 64 % 64) ∷ (128 + c % 64) ∷ rest) (begins_high (224 + c / 4096) (omega arith))
        ∙ ap (λ n. 1 + n) (next_counts (c / 64) ((128 + c % 64) ∷ rest) ∙ next_counts c rest)
    of_four false e =
        first_counts (240 + c / 262144) ((128 + c / 4096 % 64) ∷ (128 + c / 64 % 64) ∷ (128 + c % 64) ∷ rest) (begins_high (240 + c / 262144) (omega arith))
        ∙ ap (λ n. 1 + n) (next_counts (c / 4096) ((128 + c / 64 % 64) ∷ (128 + c % 64) ∷ rest) ∙ next_counts (c / 64) ((128 + c % 64) ∷ rest) ∙ next_counts c rest)

    of_two : (d : Bool) → ltb c 2048 ≡ d
        → count_by begins_character (cond d ((192 + c / 64) ∷ (128 + c % 64) ∷ []) (cond (ltb c 65536) ((224 + c / 4096) ∷ (128 + c / 64 % 64) ∷ (128 + c % 64) ∷ []) ((240 + c / 262144) ∷ (128 + c / 4096 % 64) ∷ (128 + c / 64 % 64) ∷ (128 + c % 64) ∷ [])) ++ rest)
        ≡ 1 + count_by begins_character rest
    of_two true e =
        first_counts (192 + c / 64) ((128 + c % 64) ∷ rest) (begins_high (192 + c / 64) (omega arith)) ∙ ap (λ n. 1 + n) (next_counts c rest)
    of_two false e = of_four (ltb c 65536) refl

    of_one : (d : Bool) → ltb c 128 ≡ d
        → count_by begins_character (cond d (c ∷ []) (cond (ltb c 2048) ((192 + c / 64) ∷ (128 + c % 64) ∷ []) (cond (ltb c 65536) ((224 + c / 4096) ∷ (128 + c / 64 % 64) ∷ (128 + c % 64) ∷ []) ((240 + c / 262144) ∷ (128 + c / 4096 % 64) ∷ (128 + c / 64 % 64) ∷ (128 + c % 64) ∷ []))) ++ rest)
        ≡ 1 + count_by begins_character rest
    of_one true e = first_counts c rest (begins_low c (grind (arith, nat_tests)))
    of_one false e = of_two (ltb c 2048) refl

all_count : (cs : List ℕ) → count_by begins_character (encode_utf8_all cs) ≡ length cs
all_count [] = refl
all_count (c ∷ cs) = let h = all_count cs in let e = one_counts c (encode_utf8_all cs) in omega (arith, e, h)

pub beginnings_counted : (text : List ℕ) → IsUtf8 text → count_by begins_character text ≡ length (chars text)
beginnings_counted text u = ap (count_by begins_character) (sym (encodes-chars text u)) ∙ all_count (chars text)
