-- Tables of numbers by places.
use Rattle.std.proofs.Common.{◌≡◌, ℕ, zero, suc, ◌<◌, Bool, true, false, List, [], ◌∷◌, ◌++◌, Some, refl, sym, ◌∙◌, ap, length, slice_get, nat_eq, if◌then◌else◌}
use Rattle.std.specs.Prelude.{Vec, slice_set}
use Rattle.std.proofs.lemmas.Bool.{eqb-true, eq-eqb, false≢true}
use Rattle.std.proofs.lemmas.List.{append-nil}
use Rattle.gx_include_letters.specs.ItemIndex.{numbers_found, numbers_at}
use Rattle.gx_include_letters.proofs.Columns.{get_set_here, get_set_other}

pub number_more : {A : Type 0} (xs : List (Vec ℕ A)) (place p number : ℕ) (here after : Vec ℕ A) → place < length xs → slice_get xs place ≡ Some here → after.items ≡ here.items ++ number ∷ []
    → numbers_at (slice_set xs place after) p ≡ numbers_at xs p ++ (if nat_eq place p then number ∷ [] else [])
number_more xs place p number here after within at grown = by_test (nat_eq place p) refl
  where
    by_test : (b : Bool) → nat_eq place p ≡ b → numbers_at (slice_set xs place after) p ≡ numbers_at xs p ++ (if b then number ∷ [] else [])
    by_test true e =
        let same : place ≡ p = eqb-true place p e in
        ap (numbers_at (slice_set xs place after)) (sym same) ∙ ap numbers_found (get_set_here xs place after within) ∙ grown
        ∙ ap (λ ns. ns ++ number ∷ []) (sym (ap numbers_found at) ∙ ap (numbers_at xs) same)
    by_test false e =
        let apart : p ≡ place → ⊥ = λ f. false≢true (sym e ∙ eq-eqb place p (sym f)) in
        ap numbers_found (get_set_other xs place p after apart) ∙ sym (append-nil (numbers_at xs p))

pub no_number_more : {A : Type 0} (xs : List (Vec ℕ A)) (v : Vec ℕ A) (p : ℕ) → v.items ≡ [] → numbers_at (xs ++ v ∷ []) p ≡ numbers_at xs p
no_number_more [] v zero e = e
no_number_more [] v (suc p) e = refl
no_number_more (x ∷ xs) v zero e = refl
no_number_more (x ∷ xs) v (suc p) e = no_number_more xs v p e
