-- Decimal places without their trailing zeros.
use Rattle.std.proofs.Common.{◌≡◌, ◌≢◌, ℕ, zero, suc, ◌+◌, ◌<◌, ◌≤◌, Bool, true, false, cond, ◌&&◌, List, [], ◌∷◌, ◌++◌, length, take, get_or, refl, ap, sym, ◌∙◌, arith, ◌==◌}
use Rattle.std.proofs.lemmas.List.{take_more}
use Rattle.std.specs.List.{list_all}
use Rattle.std.specs.Char.{is_ascii_digit}
use Rattle.std.proofs.lemmas.Bool.Decides.{nat_tests}
use Rattle.gx_num.specs.Lexical.{without_trailing_zeros, before_kept}

-- a zero at the end goes
pub trailing_zero : (ds : List ℕ) → without_trailing_zeros (ds ++ 48 ∷ []) ≡ without_trailing_zeros ds
trailing_zero [] = refl
trailing_zero (d ∷ ds) = ap (before_kept d) (trailing_zero ds)

before_kept_push : (d c : ℕ) (ds : List ℕ) → before_kept d (ds ++ c ∷ []) ≡ d ∷ (ds ++ c ∷ [])
before_kept_push d c [] = refl
before_kept_push d c (e ∷ ds) = refl

last_kept : (c : ℕ) → c ≢ 48 → before_kept c [] ≡ c ∷ []
last_kept c h = grind (arith, nat_tests)

-- another digit at the end keeps all
pub no_trailing_zero : (ds : List ℕ) (c : ℕ) → c ≢ 48 → without_trailing_zeros (ds ++ c ∷ []) ≡ ds ++ c ∷ []
no_trailing_zero [] c h = last_kept c h
no_trailing_zero (d ∷ ds) c h = ap (before_kept d) (no_trailing_zero ds c h) ∙ before_kept_push d c ds

before_kept_digits : (c : ℕ) (ds : List ℕ) → is_ascii_digit c ≡ true → list_all is_ascii_digit ds ≡ true → list_all is_ascii_digit (before_kept c ds) ≡ true
before_kept_digits c [] one all = elim (c == 48) as (λ b. list_all is_ascii_digit (cond b [] (c ∷ [])) ≡ true) [ true ↦ refl | false ↦ rw one refl ]
before_kept_digits c (d ∷ ds) one all = rw one all

both : (a b : Bool) → (a && b) ≡ true → (a ≡ true) × (b ≡ true)
both true b e = (refl, e)
both false b e = absurd (cc)

pub digits_kept : (ds : List ℕ) → list_all is_ascii_digit ds ≡ true → list_all is_ascii_digit (without_trailing_zeros ds) ≡ true
digits_kept [] all = refl
digits_kept (d ∷ ds) all =
    let parts = both (is_ascii_digit d) (list_all is_ascii_digit ds) all in
    before_kept_digits d (without_trailing_zeros ds) parts.0 (digits_kept ds parts.1)

-- an end that goes
pub trailing_zero_at : (ds : List ℕ) (i n : ℕ) → n ≡ i + 1 → n ≤ length ds → get_or ds i 0 ≡ 48 → without_trailing_zeros (take i ds) ≡ without_trailing_zeros (take n ds)
trailing_zero_at ds i n step within e =
    let h : i < length ds = omega arith in
    let more : take n ds ≡ take i ds ++ (48 ∷ []) = rw step (take_more ds i 0 h ∙ ap (λ c. take i ds ++ (c ∷ [])) e) in
    rw more (sym (trailing_zero (take i ds)))

-- an end that stays
pub no_trailing_zero_at : (ds : List ℕ) (i n : ℕ) → n ≡ i + 1 → n ≤ length ds → get_or ds i 0 ≢ 48 → without_trailing_zeros (take n ds) ≡ take n ds
no_trailing_zero_at ds i n step within ne =
    let h : i < length ds = omega arith in
    let more : take n ds ≡ take i ds ++ (get_or ds i 0 ∷ []) = rw step (take_more ds i 0 h) in
    rw more (no_trailing_zero (take i ds) (get_or ds i 0) ne)

pub none_left : (ds : List ℕ) (n : ℕ) → n ≤ 0 → without_trailing_zeros (take n ds) ≡ take n ds
none_left ds zero h = refl
none_left ds (suc n) h = absurd (omega arith)
