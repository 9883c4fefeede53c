-- Declarations that are part of themselves.
use Rattle.std.specs.Prelude.{ℕ, zero, suc, Bool, false, ◌&&◌, ◌||◌, ◌==◌, List, length, nat_lt}
use Rattle.std.specs.List.{Contains, list_any}
use Rattle.gx_references.specs.References.{named_by}

-- a declaration names another one, or names one that refers to it
pub data RefersTo {B : Type 0} (references : B → List ℕ) (bodies : List B) : ℕ → ℕ → Type 0 where
  directly : {from to : ℕ} → Contains (named_by references bodies from) to → RefersTo references bodies from to
  through : {from between to : ℕ} → Contains (named_by references bodies from) between → RefersTo references bodies between to → RefersTo references bodies from to

-- a declaration is part of itself
abbrev pub IsPartOfItself : {B : Type 0} → (B → List ℕ) → List B → ℕ → Type 0
IsPartOfItself references bodies number = RefersTo references bodies number number

-- a way of so many steps at most leads from a declaration to another
abbrev pub refers_within : {B : Type 0} → (B → List ℕ) → List B → (steps from to : ℕ) → Bool
refers_within references bodies zero from to = false
refers_within references bodies (suc steps) from to = list_any (λ next. (next == to) || refers_within references bodies steps next to) (named_by references bodies from)

-- a declaration is part of itself, by a way of no more steps than there are declarations
abbrev pub is_circular_among : {B : Type 0} → (B → List ℕ) → List B → ℕ → Bool
is_circular_among references bodies number = nat_lt number (length bodies) && refers_within references bodies (length bodies) number number
