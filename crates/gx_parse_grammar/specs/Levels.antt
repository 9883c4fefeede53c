-- How deep readings may go.
use Rattle.std.specs.Prelude.{ℕ, zero, suc}

-- so many more
abbrev pub more_than : (n k : ℕ) → ℕ
more_than n zero = n
more_than n (suc k) = suc (more_than n k)
