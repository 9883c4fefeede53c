-- No rule adds positions.
use Rattle.std.proofs.Common.{ℕ, zero, suc, ◌+◌, ◌≤◌, Bool, true, false, List, [], ◌∷◌, fold, arith, if◌then◌else◌}
use Rattle.std.specs.List.{list_any}
use Rattle.gx_types.specs.Occurrence.{occurrence_of}
use Rattle.gx_types.specs.SequenceType.{SequenceType, never, nothing, item, both, either, optional, star, plus}
use Rattle.gx_types.specs.Indicator.{optional_of, star_of, plus_of, times_by}
use Rattle.gx_types.specs.Choice.{is_member_of, choice_with, with_member, with_members, has_empty, gathered, choice_among}
use Rattle.gx_types.specs.Prime.{with_items, prime_of}
use Rattle.gx_types.specs.TypeRules.{positions_of, factored, followed_by, joined_types}
use Rattle.gx_type_laws.specs.Laws.{all_positions}

-- ---- sequences

followed_positions : (t u : SequenceType) → positions_of (followed_by t u) ≤ positions_of t + positions_of u
followed_positions t never = omega arith
followed_positions t nothing = omega arith
followed_positions t (item kind) = omega arith
followed_positions t (both a b) = omega arith
followed_positions t (either a b) = omega arith
followed_positions t (optional a) = omega arith
followed_positions t (star a) = omega arith
followed_positions t (plus a) = omega arith

pub joined_positions : (t u : SequenceType) → positions_of (joined_types t u) ≤ positions_of t + positions_of u
joined_positions never u = omega arith
joined_positions nothing u = omega arith
joined_positions (item kind) u = followed_positions (item kind) u
joined_positions (both a b) u = followed_positions (both a b) u
joined_positions (either a b) u = followed_positions (either a b) u
joined_positions (optional a) u = followed_positions (optional a) u
joined_positions (star a) u = followed_positions (star a) u
joined_positions (plus a) u = followed_positions (plus a) u

-- ---- indicators

pub optional_positions : (t : SequenceType) → positions_of (optional_of t) ≤ positions_of t
optional_positions never = omega arith
optional_positions nothing = omega arith
optional_positions (item kind) = omega arith
optional_positions (both a b) = omega arith
optional_positions (either a b) = omega arith
optional_positions (optional a) = omega arith
optional_positions (star a) = omega arith
optional_positions (plus a) = omega arith

pub star_positions : (t : SequenceType) → positions_of (star_of t) ≤ positions_of t
star_positions never = omega arith
star_positions nothing = omega arith
star_positions (item kind) = omega arith
star_positions (both a b) = omega arith
star_positions (either a b) = omega arith
star_positions (optional a) = omega arith
star_positions (star a) = omega arith
star_positions (plus a) = omega arith

pub plus_positions : (t : SequenceType) → positions_of (plus_of t) ≤ positions_of t
plus_positions never = omega arith
plus_positions nothing = omega arith
plus_positions (item kind) = omega arith
plus_positions (both a b) = omega arith
plus_positions (either a b) = omega arith
plus_positions (optional a) = omega arith
plus_positions (star a) = omega arith
plus_positions (plus a) = omega arith

pub repeated_positions : (t : SequenceType) (least greatest : ℕ) → positions_of (times_by t least greatest) ≤ positions_of t
repeated_positions t zero zero = omega arith
repeated_positions t zero (suc zero) = optional_positions t
repeated_positions t zero (suc (suc more)) = star_positions t
repeated_positions t (suc least) zero = omega arith
repeated_positions t (suc least) (suc zero) = omega arith
repeated_positions t (suc least) (suc (suc more)) = plus_positions t

-- ---- choices

choice_with_positions : (choice t : SequenceType) → positions_of (choice_with choice t) ≤ positions_of choice + positions_of t
choice_with_positions never t = omega arith
choice_with_positions nothing t = omega arith
choice_with_positions (item kind) t = omega arith
choice_with_positions (both a b) t = omega arith
choice_with_positions (either a b) t = omega arith
choice_with_positions (optional a) t = omega arith
choice_with_positions (star a) t = omega arith
choice_with_positions (plus a) t = omega arith

one_more : (is_there : Bool) (choice t : SequenceType) → positions_of (if is_there then choice else choice_with choice t) ≤ positions_of choice + positions_of t
one_more true choice t = omega arith
one_more false choice t = choice_with_positions choice t

member_positions : (choice t : SequenceType) → positions_of (with_member choice t) ≤ positions_of choice + positions_of t
member_positions choice t = one_more (is_member_of t choice) choice t

pub members_positions : (choice t : SequenceType) → positions_of (with_members choice t) ≤ positions_of choice + positions_of t
members_positions choice never = omega arith
members_positions choice nothing = omega arith
members_positions choice (item kind) = member_positions choice (item kind)
members_positions choice (both a b) = member_positions choice (both a b)
members_positions choice (either a b) = let f = members_positions choice a in let g = members_positions (with_members choice a) b in omega (arith, f, g)
members_positions choice (optional a) = member_positions choice (optional a)
members_positions choice (star a) = member_positions choice (star a)
members_positions choice (plus a) = member_positions choice (plus a)

gathered_positions : (choice : SequenceType) (types : List SequenceType) → positions_of (fold with_members choice types) ≤ positions_of choice + all_positions types
gathered_positions choice [] = omega arith
gathered_positions choice (t ∷ types) = let f = gathered_positions (with_members choice t) types in let g = members_positions choice t in omega (arith, f, g)

perhaps_optional : (with_empty : Bool) (t : SequenceType) → positions_of (if with_empty then optional_of t else t) ≤ positions_of t
perhaps_optional true t = optional_positions t
perhaps_optional false t = omega arith

pub choice_positions : (types : List SequenceType) → positions_of (choice_among types) ≤ all_positions types
choice_positions types = omega (arith, perhaps_optional (list_any has_empty types) (gathered types), gathered_positions never types)

-- ---- prime types

items_positions : (choice t : SequenceType) → positions_of (with_items choice t) ≤ positions_of choice + positions_of t
items_positions choice never = omega arith
items_positions choice nothing = omega arith
items_positions choice (item kind) = member_positions choice (item kind)
items_positions choice (both a b) = let f = items_positions choice a in let g = items_positions (with_items choice a) b in omega (arith, f, g)
items_positions choice (either a b) = let f = items_positions choice a in let g = items_positions (with_items choice a) b in omega (arith, f, g)
items_positions choice (optional a) = items_positions choice a
items_positions choice (star a) = items_positions choice a
items_positions choice (plus a) = items_positions choice a

pub prime_positions : (t : SequenceType) → positions_of (prime_of t) ≤ positions_of t
prime_positions t = omega (arith, items_positions never t)

pub factored_positions : (t : SequenceType) → positions_of (factored t) ≤ positions_of t
factored_positions t = omega (arith, repeated_positions (prime_of t) (occurrence_of t).least (occurrence_of t).greatest, prime_positions t)
