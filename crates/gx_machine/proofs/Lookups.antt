-- A variable is looked up among those of an expression first, and then among the globals.
use Rattle.std.proofs.Common.{◌≡◌, ℕ, nat_eq, Bool, true, false, if◌then◌else◌, List, [], ◌∷◌, ◌++◌, Option, None, Some, refl}
use Rattle.gx_core.specs.Bindings.{look_up}

-- the test of the first binding
found_first : {A : Type 0} (same : Bool) (here bound : A) (others more : Option A) → (Some bound ≡ others → Some bound ≡ more)
    → Some bound ≡ (if same then Some here else others) → Some bound ≡ (if same then Some here else more)
found_first true here bound others more h e = e
found_first false here bound others more h e = h e

none_first : {A : Type 0} (same : Bool) (here : A) (others behind more : Option A) → (None ≡ others → behind ≡ more)
    → None ≡ (if same then Some here else others) → behind ≡ (if same then Some here else more)
none_first true here others behind more h e = absurd (cc)
none_first false here others behind more h e = h e

pub found_in_front : {A : Type 0} (own globals : List (ℕ × A)) (number : ℕ) (bound : A) → Some bound ≡ look_up own number → Some bound ≡ look_up (own ++ globals) number
found_in_front [] globals number bound e = absurd (cc)
found_in_front (b ∷ own) globals number bound e =
    found_first (nat_eq b.0 number) b.1 bound (look_up own number) (look_up (own ++ globals) number) (found_in_front own globals number bound) e

pub none_in_front : {A : Type 0} (own globals : List (ℕ × A)) (number : ℕ) → None ≡ look_up own number → look_up globals number ≡ look_up (own ++ globals) number
none_in_front [] globals number e = refl
none_in_front (b ∷ own) globals number e =
    none_first (nat_eq b.0 number) b.1 (look_up own number) (look_up globals number) (look_up (own ++ globals) number) (none_in_front own globals number) e
