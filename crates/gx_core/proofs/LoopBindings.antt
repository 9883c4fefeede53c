-- What is bound to the variable of a position.
use Rattle.std.proofs.Common.{◌≡◌, ◌≢◌, ℕ, zero, suc, [], ◌∷◌, refl}
use Rattle.gx_core.specs.Bindings.{position_bound}

pub position_is_bound : {A : Type 0} (position : ℕ) (bound : A) → position ≢ 0 → position_bound position bound ≡ (position, bound) ∷ []
position_is_bound zero bound h = absurd (h refl)
position_is_bound (suc number) bound h = refl
