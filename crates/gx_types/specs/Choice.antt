-- Choices: flat, without `none`, without the empty sequence, and without later equal members.
use Rattle.std.specs.Prelude.{◌≡◌, Bool, true, false, ◌||◌, List, ◌∷◌, [], ◌++◌, fold, if◌then◌else◌}
use Rattle.std.specs.List.{AllPairs, list_any}
use Rattle.gx_types.specs.SequenceType.{SequenceType, never, nothing, item, both, either, optional, star, plus}
use Rattle.gx_types.specs.SameType.{same_type}
use Rattle.gx_types.specs.Indicator.{optional_of}

-- a member of a choice is equal to a type
abbrev pub is_member_of : SequenceType → SequenceType → Bool
is_member_of member (either first second) = is_member_of member first || is_member_of member second
is_member_of member never = same_type never member
is_member_of member nothing = same_type nothing member
is_member_of member (item kind) = same_type (item kind) member
is_member_of member (both first second) = same_type (both first second) member
is_member_of member (optional part) = same_type (optional part) member
is_member_of member (star part) = same_type (star part) member
is_member_of member (plus part) = same_type (plus part) member

-- one more alternative behind those of a choice
abbrev pub choice_with : SequenceType → SequenceType → SequenceType
choice_with never member = member
choice_with nothing member = either nothing member
choice_with (item kind) member = either (item kind) member
choice_with (both first second) member = either (both first second) member
choice_with (either first second) member = either (either first second) member
choice_with (optional part) member = either (optional part) member
choice_with (star part) member = either (star part) member
choice_with (plus part) member = either (plus part) member

-- a choice with one more member, unless an equal one is there
abbrev pub with_member : SequenceType → SequenceType → SequenceType
with_member choice member = if is_member_of member choice then choice else choice_with choice member

-- a choice with the members of a type behind its own
abbrev pub with_members : SequenceType → SequenceType → SequenceType
with_members choice never = choice
with_members choice nothing = choice
with_members choice (item kind) = with_member choice (item kind)
with_members choice (both first second) = with_member choice (both first second)
with_members choice (either first second) = with_members (with_members choice first) second
with_members choice (optional part) = with_member choice (optional part)
with_members choice (star part) = with_member choice (star part)
with_members choice (plus part) = with_member choice (plus part)

-- a member of a choice is the empty sequence
abbrev pub has_empty : SequenceType → Bool
has_empty never = false
has_empty nothing = true
has_empty (item kind) = false
has_empty (both first second) = false
has_empty (either first second) = has_empty first || has_empty second
has_empty (optional part) = false
has_empty (star part) = false
has_empty (plus part) = false

-- a choice with the members of all types of a list, the empty sequence apart
abbrev pub gathered : List SequenceType → SequenceType
gathered types = fold with_members never types

-- the choice of all types of a list, made at once: a member of the empty sequence makes the rest optional
abbrev pub choice_among : List SequenceType → SequenceType
choice_among types = if list_any has_empty types then optional_of (gathered types) else gathered types

-- the members of a choice; any other type is its own one member
abbrev pub members_of : SequenceType → List SequenceType
members_of never = never ∷ []
members_of nothing = nothing ∷ []
members_of (item kind) = item kind ∷ []
members_of (both first second) = both first second ∷ []
members_of (either first second) = members_of first ++ members_of second
members_of (optional part) = optional part ∷ []
members_of (star part) = star part ∷ []
members_of (plus part) = plus part ∷ []

-- no two types of a list are equal
abbrev pub AreDistinctTypes : List SequenceType → Type 0
AreDistinctTypes types = AllPairs (λ t u. same_type t u ≡ false) types
