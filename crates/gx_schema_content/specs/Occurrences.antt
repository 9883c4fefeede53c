-- A content as often as a particle occurs (XML Schema 1.0 part 1, section 3.9).
use Rattle.std.specs.Prelude.{ℕ, zero, suc, ◌+◌, ◌-◌, ◌*◌, Option, None, Some, min}
use Rattle.gx_types.specs.SequenceType.{SequenceType, nothing}
use Rattle.gx_types.specs.TypeRules.{joined_types}
use Rattle.gx_types.specs.Indicator.{optional_of, star_of}
use Rattle.gx_schema_components.specs.declared.component.Bounds.{Bounds}

-- so many copies of a content, one behind another
abbrev pub copies : ℕ → SequenceType → SequenceType
copies zero t = nothing
copies (suc count) t = joined_types (copies count t) t

-- at most so many copies of a content, each inside the one before it
abbrev pub optional_copies : ℕ → SequenceType → SequenceType
optional_copies zero t = nothing
optional_copies (suc count) t = optional_of (joined_types t (optional_copies count t))

-- what may stand behind the least number of copies
abbrev pub further_copies : (least : ℕ) (greatest : Option ℕ) → SequenceType → SequenceType
further_copies least None t = star_of t
further_copies least (Some greatest) t = optional_copies (greatest - least) t

-- the least number of copies, where no more than the greatest number are allowed
abbrev pub least_copies : (least : ℕ) (greatest : Option ℕ) → ℕ
least_copies least None = least
least_copies least (Some greatest) = min least greatest

-- a content as often as bounds say
abbrev pub bounded : Bounds → SequenceType → SequenceType
bounded bounds t = joined_types (copies (least_copies bounds.least bounds.greatest) t) (further_copies bounds.least bounds.greatest t)

-- how many positions stand where so many stand in one copy
abbrev pub times_counted : (least : ℕ) (greatest : Option ℕ) → ℕ → ℕ
times_counted least None count = count * (least + 1)
times_counted least (Some greatest) count = count * greatest
