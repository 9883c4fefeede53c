-- The numbers in scope behind the body of a function are those in front of its parameters.
use Rattle.std.proofs.Common.{◌≡◌, ℕ, zero, suc, ◌+◌, List, [], ◌∷◌, length, drop, refl, ◌∙◌, ap, arith}
use Rattle.gx_resolved.specs.declared.tree.BoundName.{BoundName}
use Rattle.gx_normal.specs.Clauses.{Numbers}
use Rattle.gx_normal.specs.Signatures.{inside_parameters}

pub drop_next : {A : Type 0} (n : ℕ) (l : List A) → drop (n + 1) l ≡ drop 1 (drop n l)
drop_next n l = ap (λ (k : ℕ). drop k l) (of_next n) ∙ next n l
  where
    of_next : (n : ℕ) → n + 1 ≡ suc n
    of_next n = omega arith

    next : {A : Type 0} (n : ℕ) (l : List A) → drop (suc n) l ≡ drop 1 (drop n l)
    next zero l = refl
    next (suc n) [] = refl
    next (suc n) (x ∷ l) = next n l

pub behind_parameters : (parameters : List BoundName) (free : ℕ) (numbers : Numbers) → drop (length parameters) (inside_parameters parameters free numbers) ≡ numbers
behind_parameters [] free numbers = refl
behind_parameters (p ∷ parameters) free numbers =
    let one_more : length (p ∷ parameters) ≡ length parameters + 1 = omega arith in
    ap (λ (k : ℕ). drop k (inside_parameters parameters (free + 1) ((p.place, free) ∷ numbers))) one_more
    ∙ drop_next (length parameters) (inside_parameters parameters (free + 1) ((p.place, free) ∷ numbers))
    ∙ ap (λ (l : Numbers). drop 1 l) (behind_parameters parameters (free + 1) ((p.place, free) ∷ numbers))
