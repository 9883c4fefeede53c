-- What a put owes.
use Rattle.std.specs.Prelude.{◌≡◌, ℕ, ◌≤◌, List, ◌++◌, length, take, Option, None, Some}

-- what a sink tells has grown by these bytes; a sink that tells nothing still tells nothing
abbrev pub GrowsBy : Option (List ℕ) → Option (List ℕ) → List ℕ → Type 0
GrowsBy None now bytes = now ≡ None
GrowsBy (Some before) now bytes = now ≡ Some (before ++ bytes)

-- it has grown by the first n of these bytes, for some n
abbrev pub GrowsByPrefix : Option (List ℕ) → Option (List ℕ) → List ℕ → Type 0
GrowsByPrefix before now bytes = (n : ℕ) × (n ≤ length bytes) × GrowsBy before now (take n bytes)
