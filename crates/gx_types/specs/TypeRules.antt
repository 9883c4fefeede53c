-- How types are made of types (Formal Semantics, section 8.4).
use Rattle.std.specs.Prelude.{ℕ, ◌+◌, nat_le, [], ◌∷◌, if◌then◌else◌}
use Rattle.gx_types.specs.Occurs.{Occurs}
use Rattle.gx_types.specs.Occurrence.{occurrence_of}
use Rattle.gx_types.specs.SequenceType.{SequenceType, never, nothing, item, both, either, optional, star, plus}
use Rattle.gx_types.specs.Indicator.{times_by}
use Rattle.gx_types.specs.Choice.{choice_among}
use Rattle.gx_types.specs.Prime.{prime_of}
use Rattle.gx_base.specs.declared.limits.TheConstants.{TYPE_POSITIONS}

-- how many item types stand in a type
abbrev pub positions_of : SequenceType → ℕ
positions_of never = 0
positions_of nothing = 0
positions_of (item kind) = 1
positions_of (both first second) = positions_of first + positions_of second
positions_of (either first second) = positions_of first + positions_of second
positions_of (optional part) = positions_of part
positions_of (star part) = positions_of part
positions_of (plus part) = positions_of part

-- the prime type of a type, as often as the type occurs
abbrev pub factored : SequenceType → SequenceType
factored t = times_by (prime_of t) (occurrence_of t).least (occurrence_of t).greatest

-- a type of more positions than the limit becomes its prime type, as often as it occurs
abbrev pub limited : SequenceType → SequenceType
limited t = if nat_le (positions_of t) TYPE_POSITIONS then t else factored t

-- one type and then another: no value in either is none in both, and the empty sequence vanishes
abbrev pub followed_by : SequenceType → SequenceType → SequenceType
followed_by first never = never
followed_by first nothing = first
followed_by first (item kind) = both first (item kind)
followed_by first (both second third) = both first (both second third)
followed_by first (either second third) = both first (either second third)
followed_by first (optional part) = both first (optional part)
followed_by first (star part) = both first (star part)
followed_by first (plus part) = both first (plus part)

-- the sequence of two types, however long it is
abbrev pub joined_types : SequenceType → SequenceType → SequenceType
joined_types never second = never
joined_types nothing second = second
joined_types (item kind) second = followed_by (item kind) second
joined_types (both first third) second = followed_by (both first third) second
joined_types (either first third) second = followed_by (either first third) second
joined_types (optional part) second = followed_by (optional part) second
joined_types (star part) second = followed_by (star part) second
joined_types (plus part) second = followed_by (plus part) second

-- the rules, each within the limit on positions
abbrev pub sequence_of : SequenceType → SequenceType → SequenceType
sequence_of first second = limited (joined_types first second)

abbrev pub choice_of : SequenceType → SequenceType → SequenceType
choice_of first second = limited (choice_among (first ∷ second ∷ []))

abbrev pub times_of : SequenceType → Occurs → SequenceType
times_of t occurrence = limited (times_by t occurrence.least occurrence.greatest)
