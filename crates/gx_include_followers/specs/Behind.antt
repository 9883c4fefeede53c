-- The positions that may come first in a type, and those that may come next behind each of its positions.
use Rattle.std.specs.Prelude.{ℕ, ◌+◌, Bool, true, false, ◌&&◌, List, [], ◌∷◌, ◌++◌, if◌then◌else◌}
use Rattle.gx_types.specs.SequenceType.{SequenceType, never, nothing, item, both, either, optional, star, plus}
use Rattle.gx_types.specs.TypeRules.{positions_of}
use Rattle.gx_include_positions.specs.Positions.{is_nullable}

-- the positions at which a list of a type may begin, where its first position has this number
abbrev pub firsts_from : ℕ → SequenceType → List ℕ
firsts_from first never = []
firsts_from first nothing = []
firsts_from first (item kind) = first ∷ []
firsts_from first (both one other) = firsts_from first one ++ (if is_nullable one then firsts_from (first + positions_of one) other else [])
firsts_from first (either one other) = firsts_from first one ++ firsts_from (first + positions_of one) other
firsts_from first (optional part) = firsts_from first part
firsts_from first (star part) = firsts_from first part
firsts_from first (plus part) = firsts_from first part

-- for each position those that may come next behind it, where these may come next behind the whole
abbrev pub behind_each : ℕ → SequenceType → (after : List ℕ) → List (List ℕ)
behind_each first never after = []
behind_each first nothing after = []
behind_each first (item kind) after = after ∷ []
behind_each first (both one other) after =
    behind_each first one (firsts_from (first + positions_of one) other ++ (if is_nullable other then after else []))
    ++ behind_each (first + positions_of one) other after
behind_each first (either one other) after = behind_each first one after ++ behind_each (first + positions_of one) other after
behind_each first (optional part) after = behind_each first part after
behind_each first (star part) after = behind_each first part (firsts_from first part ++ after)
behind_each first (plus part) after = behind_each first part (firsts_from first part ++ after)

-- for each position whether a list may end there, where one may end behind the whole or not
abbrev pub ends_of : SequenceType → (end : Bool) → List Bool
ends_of never end = []
ends_of nothing end = []
ends_of (item kind) end = end ∷ []
ends_of (both one other) end = ends_of one (end && is_nullable other) ++ ends_of other end
ends_of (either one other) end = ends_of one end ++ ends_of other end
ends_of (optional part) end = ends_of part end
ends_of (star part) end = ends_of part end
ends_of (plus part) end = ends_of part end
