-- The last item of a list is the first from behind.
use Rattle.std.proofs.Common.{◌≡◌, ℕ, ◌-◌, List, [], ◌∷◌, length, reverse, slice_get, get_or, refl, sym, ap, subst, ◌∙◌, arith}
use Rattle.std.proofs.lemmas.List.{length-reverse, get_or-reverse, reverse-reverse}
use Rattle.std.proofs.lemmas.Option.{slice_get_read}
use Rattle.gx_base.specs.Stacked.{first}

from_behind : {T : Type 0} (items : List T) → slice_get (reverse items) (length (reverse items) - 1) ≡ first items
from_behind [] = refl
from_behind {T} (x ∷ xs) =
    let size : length (reverse (x ∷ xs)) ≡ length (x ∷ xs) = length-reverse (x ∷ xs) in
    let there : get_or (reverse (x ∷ xs)) (length (reverse (x ∷ xs)) - 1) x ≡ x =
    get_or-reverse (x ∷ xs) (length (reverse (x ∷ xs)) - 1) x (omega (arith, size))
    ∙ ap (λ (k : ℕ). get_or (x ∷ xs) k x) (let e : length (x ∷ xs) - 1 - (length (reverse (x ∷ xs)) - 1) ≡ 0 = omega (arith, size) in e) in
    slice_get_read (reverse (x ∷ xs)) (length (reverse (x ∷ xs))) (length (reverse (x ∷ xs)) - 1) x refl (omega (arith, size)) (sym there)

pub last_is_first : {T : Type 0} (items : List T) → slice_get items (length items - 1) ≡ first (reverse items)
last_is_first {T} items =
    subst (λ (l : List T). slice_get l (length l - 1) ≡ first (reverse items)) (reverse-reverse items) (from_behind (reverse items))
