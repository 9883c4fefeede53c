-- Indicators on a type (Formal Semantics, section 8.4): two of one kind are one, and two of different kinds are a star.
use Rattle.std.specs.Prelude.{ℕ, zero, suc}
use Rattle.gx_types.specs.SequenceType.{SequenceType, never, nothing, item, both, either, optional, star, plus}

abbrev pub optional_of : SequenceType → SequenceType
optional_of never = nothing
optional_of nothing = nothing
optional_of (item kind) = optional (item kind)
optional_of (both first second) = optional (both first second)
optional_of (either first second) = optional (either first second)
optional_of (optional part) = optional part
optional_of (star part) = star part
optional_of (plus part) = star part

abbrev pub star_of : SequenceType → SequenceType
star_of never = nothing
star_of nothing = nothing
star_of (item kind) = star (item kind)
star_of (both first second) = star (both first second)
star_of (either first second) = star (either first second)
star_of (optional part) = star part
star_of (star part) = star part
star_of (plus part) = star part

abbrev pub plus_of : SequenceType → SequenceType
plus_of never = never
plus_of nothing = nothing
plus_of (item kind) = plus (item kind)
plus_of (both first second) = plus (both first second)
plus_of (either first second) = plus (either first second)
plus_of (optional part) = star part
plus_of (star part) = star part
plus_of (plus part) = plus part

-- a type as often as an occurrence says, however long it is
abbrev pub times_by : SequenceType → (least greatest : ℕ) → SequenceType
times_by t zero zero = nothing
times_by t zero (suc zero) = optional_of t
times_by t zero (suc (suc more)) = star_of t
times_by t (suc least) zero = nothing
times_by t (suc least) (suc zero) = t
times_by t (suc least) (suc (suc more)) = plus_of t
