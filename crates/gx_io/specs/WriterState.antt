-- A sink over a writer.
use Rattle.std.specs.Prelude.{ℕ, ◌≤◌, List, length, take, Option}
use Rattle.std.specs.Io.KnownBytes.{Appends}

-- the writer, and how many puts failed
pub record WriterState (Writer : Type 0) : Type 0 where
  pub writer : Writer
  pub faults : ℕ

-- a prefix of these bytes went to a writer
abbrev pub AppendsPrefix : Option (List ℕ) → Option (List ℕ) → List ℕ → Type 0
AppendsPrefix before now bytes = (n : ℕ) × (n ≤ length bytes) × Appends before now (take n bytes)
