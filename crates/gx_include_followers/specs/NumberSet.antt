-- Sets of numbers below a count, as ascending members and as flags.
use Rattle.std.specs.Prelude.{ℕ, suc, ◌≤◌, ◌-◌, Bool, true, false, List, [], ◌∷◌, ◌++◌, replicate}

-- numbers ascend, from one number on and below another one
abbrev pub AscendWithin : (from end : ℕ) → List ℕ → Type 0
AscendWithin from end [] = from ≤ end
AscendWithin from end (n ∷ ns) = (from ≤ n) × AscendWithin (suc n) end ns

-- flags for the numbers from one number on and below another one, of which those of ascending numbers are set
abbrev pub flags_within : (from end : ℕ) → List ℕ → List Bool
flags_within from end [] = replicate (end - from) false
flags_within from end (n ∷ ns) = replicate (n - from) false ++ true ∷ flags_within (suc n) end ns

-- the numbers of the flags that are set, where the first flag has this number
abbrev pub flagged_from : ℕ → List Bool → List ℕ
flagged_from first [] = []
flagged_from first (true ∷ flags) = first ∷ flagged_from (suc first) flags
flagged_from first (false ∷ flags) = flagged_from (suc first) flags

abbrev pub flagged : List Bool → List ℕ
flagged flags = flagged_from 0 flags
