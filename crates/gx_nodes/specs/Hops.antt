-- Numbers up to an end, some left out behind each.
use Rattle.std.specs.Prelude.{ℕ, zero, suc, ◌+◌, ◌-◌, nat_lt, List, [], ◌∷◌, if◌then◌else◌}

abbrev pub hops_within : (turns : ℕ) → (ℕ → ℕ) → ℕ → ℕ → List ℕ
hops_within zero left_out n end = []
hops_within (suc turns) left_out n end = if nat_lt n end then n ∷ hops_within turns left_out (suc (n + left_out n)) end else []

-- a number, and so on behind those that it leaves out
abbrev pub hops : (left_out : ℕ → ℕ) (n : ℕ) (end : ℕ) → List ℕ
hops left_out n end = hops_within (end - n) left_out n end
