-- How many items the values of a type have (Formal Semantics, section 8.4).
use Rattle.std.specs.Prelude.{ℕ, ◌+◌, min, max}
use Rattle.gx_types.specs.Occurs.{Occurs}
use Rattle.gx_types.specs.SequenceType.{SequenceType, never, nothing, item, both, either, optional, star, plus}

abbrev pub occurs : ℕ → ℕ → Occurs
occurs least greatest = record { least = least; greatest = greatest }

-- the least and the greatest number of items; a greatest of 2 stands for any number
abbrev pub occurrence_of : SequenceType → Occurs
occurrence_of never = occurs 1 1
occurrence_of nothing = occurs 0 0
occurrence_of (item kind) = occurs 1 1
occurrence_of (both first second) =
    occurs (max (occurrence_of first).least (occurrence_of second).least) (min 2 ((occurrence_of first).greatest + (occurrence_of second).greatest))
occurrence_of (either first second) =
    occurs (min (occurrence_of first).least (occurrence_of second).least) (max (occurrence_of first).greatest (occurrence_of second).greatest)
occurrence_of (optional part) = occurs 0 (occurrence_of part).greatest
occurrence_of (star part) = occurs 0 2
occurrence_of (plus part) = occurs (occurrence_of part).least 2
