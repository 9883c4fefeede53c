-- What is taken from a reader.
use Rattle.std.specs.Prelude.{ℕ, ◌≤◌, List, length, Option}
use Rattle.std.specs.Io.KnownBytes.{Consumes}

-- at most so many bytes were taken from what the reader had left
abbrev pub ConsumesAtMost : ℕ → Option (List ℕ) → Option (List ℕ) → Type 0
ConsumesAtMost most before now = (bytes : List ℕ) × (length bytes ≤ most) × Consumes before now bytes
