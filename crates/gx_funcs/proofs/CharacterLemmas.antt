-- Which integers are the code points of characters.
use Rattle.std.proofs.Common.{◌≡◌, ℕ, ◌≤◌, ◌<◌, Bool, true, false, None, Some, refl, sym, ap, arith, ℤ, pos, negsuc, inl, inr}
use Rattle.std.specs.Prelude.{◌⊎◌, ◌||◌, ◌^◌, ◌==◌, nat_le, unsigned_abs, if◌then◌else◌}
use Rattle.std.specs.Int.{FitsUnsigned, w32}
use Rattle.std.specs.Char.{OutOfScalarRange}
use Rattle.std.proofs.lemmas.Bool.{leb-true, eqb-true}
use Rattle.std.specs.Cmp.{first_so, second_so}
use Rattle.std.proofs.lemmas.Int.{ints}
use Rattle.gx_base.specs.NameCharacters.{is_xml_character, lies_between}
use Rattle.gx_funcs.specs.Strings.{character_with_code}

either : (a b : Bool) → a || b ≡ true → (a ≡ true) ⊎ (b ≡ true)
either true b h = inl refl
either false b h = inr h

lies : (low high c : ℕ) → lies_between low high c ≡ true → (low ≤ c) × (c ≤ high)
lies low high c h = (leb-true low c (first_so (nat_le low c) (nat_le c high) h), leb-true c high (second_so (nat_le low c) (nat_le c high) h))

-- a character of XML is no surrogate, and not above the last code point
abbrev InPlanes : ℕ → Type 0
InPlanes c = (c ≤ 55295) ⊎ ((57344 ≤ c) × (c ≤ 1114111))

in_planes : (c : ℕ) → is_xml_character c ≡ true → InPlanes c
unfolding is_xml_character
in_planes c h = first (either (lies_between 32 55295 c) tab h)
  where
    above : Bool
    above = lies_between 65536 1114111 c

    high : Bool
    high = lies_between 57344 65533 c || above

    turn : Bool
    turn = c == 13 || high

    feed : Bool
    feed = c == 10 || turn

    tab : Bool
    tab = c == 9 || feed

    last : (lies_between 57344 65533 c ≡ true) ⊎ (above ≡ true) → InPlanes c
    last (inl e) = let k = lies 57344 65533 c e in let a = k.0 in let b = k.1 in inr (a, omega arith)
    last (inr e) = let k = lies 65536 1114111 c e in let a = k.0 in let b = k.1 in inr (omega arith, b)

    fourth : (c == 13 ≡ true) ⊎ (high ≡ true) → InPlanes c
    fourth (inl e) = let k = eqb-true c 13 e in inl (omega arith)
    fourth (inr e) = last (either (lies_between 57344 65533 c) above e)

    third : (c == 10 ≡ true) ⊎ (turn ≡ true) → InPlanes c
    third (inl e) = let k = eqb-true c 10 e in inl (omega arith)
    third (inr e) = fourth (either (c == 13) high e)

    second : (c == 9 ≡ true) ⊎ (feed ≡ true) → InPlanes c
    second (inl e) = let k = eqb-true c 9 e in inl (omega arith)
    second (inr e) = third (either (c == 10) turn e)

    first : (lies_between 32 55295 c ≡ true) ⊎ (tab ≡ true) → InPlanes c
    first (inl e) = inl (lies 32 55295 c e).1
    first (inr e) = second (either (c == 9) feed e)

planes_fit : (c : ℕ) → InPlanes c → c < 2 ^ 32
planes_fit c (inl h) = omega arith
planes_fit c (inr h) = let k = h.1 in omega arith

no_xml_character : (c : ℕ) → (is_xml_character c ≡ true → ⊥) → character_with_code (pos c) ≡ None
no_xml_character c never = by (is_xml_character c) refl
  where
    by : (b : Bool) → is_xml_character c ≡ b → (if b then Some c else None) ≡ None
    by true e = absurd (never e)
    by false e = refl

pub no_code : (i : ℤ) → ¬ FitsUnsigned w32 i → character_with_code i ≡ None
no_code (pos c) h = no_xml_character c (λ e. let k = planes_fit c (in_planes c e) in h (omega (arith, ints), omega (arith, ints)))
no_code (negsuc n) h = refl

pub no_scalar : (i : ℤ) (c : ℕ) → FitsUnsigned w32 i → c ≡ unsigned_abs i → OutOfScalarRange c → character_with_code i ≡ None
no_scalar (pos d) c fits e out = no_xml_character d (λ x. apart (in_planes d x) out)
  where
    apart : InPlanes d → OutOfScalarRange c → ⊥
    apart (inl h) (inl k) = let a = k.0 in omega arith
    apart (inl h) (inr k) = omega arith
    apart (inr h) (inl k) = let a = k.1 in let b = h.0 in omega arith
    apart (inr h) (inr k) = let b = h.1 in omega arith
no_scalar (negsuc n) c fits e out = refl

pub code_is : (i : ℤ) (c : ℕ) → FitsUnsigned w32 i → c ≡ unsigned_abs i → character_with_code i ≡ (if is_xml_character c then Some c else None)
code_is (pos d) c fits e = ap (λ n. if is_xml_character n then Some n else None) (sym e)
code_is (negsuc n) c fits e = absurd (omega (arith, ints, fits.0))
