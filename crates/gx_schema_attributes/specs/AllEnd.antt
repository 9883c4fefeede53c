-- Meanings that are seen only where all references come to an end.
use Rattle.std.specs.Prelude.{ℕ, zero, suc, Bool, true, ◌&&◌, List, length, if◌then◌else◌}
use Rattle.gx_references.specs.References.{ends, meaning_of}

-- a test passes each number below one
abbrev pub passes_below : (ℕ → Bool) → ℕ → Bool
passes_below passes zero = true
passes_below passes (suc number) = passes number && passes_below passes number

-- the references of each declaration come to an end
abbrev pub every_number_ends : {B : Type 0} → (B → List ℕ) → List B → Bool
every_number_ends references bodies = passes_below (ends references bodies) (length bodies)

abbrev pub meaning_if_all_end : {B M : Type 0} → (B → List ℕ) → ((ℕ → M) → B → M) → M → List B → ℕ → M
meaning_if_all_end references meant nothing bodies number = if every_number_ends references bodies then meaning_of meant nothing bodies number else nothing
