-- Sets of numbers as bits, 64 to a word.
use Rattle.std.specs.Prelude.{ℕ, Bool, List, slice_index_or, ◌/◌, ◌%◌, ◌==◌}
use Rattle.std.specs.Int.{bit_at}

-- a number is in a set: its bit is set
abbrev pub has_bit : List ℕ → ℕ → Bool
has_bit words number = bit_at (slice_index_or words (number / 64) 0) (number % 64) == 1
