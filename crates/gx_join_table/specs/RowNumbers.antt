-- Ascending numbers.
use Rattle.std.specs.Prelude.{ℕ, suc, ◌≤◌, ◌-◌, Bool, false, List, [], ◌∷◌, ◌++◌, if◌then◌else◌, nat_eq, length, slice_get}
use Rattle.std.specs.Option.{option_map_or}

-- each is above the one before, and the first is at least this number
abbrev pub AscendFrom : ℕ → List ℕ → Type 0
AscendFrom least [] = Unit {0}
AscendFrom least (n ∷ ns) = (least ≤ n) × AscendFrom (suc n) ns

-- whether a number is the last one of a list
abbrev pub is_last : ℕ → List ℕ → Bool
is_last n ns = option_map_or (λ m. nat_eq m n) (slice_get ns (length ns - 1)) false

-- with a number at the end
abbrev pub with_last : List ℕ → ℕ → List ℕ
with_last ns n = if is_last n ns then ns else ns ++ n ∷ []
