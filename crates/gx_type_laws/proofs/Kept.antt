-- What holds of types holds of what the rules make of them.
use Rattle.std.proofs.Common.{◌≡◌, ℕ, zero, suc, Bool, true, false, List, [], ◌∷◌, ◌⊎◌, inl, inr, fold, nat_le, refl, sym, subst, if◌then◌else◌}
use Rattle.std.specs.List.{list_any}
use Rattle.gx_base.specs.declared.limits.TheConstants.{TYPE_POSITIONS}
use Rattle.gx_types.specs.Occurs.{Occurs}
use Rattle.gx_types.specs.Occurrence.{occurrence_of}
use Rattle.gx_types.specs.SchemaInvariant.{HoldsOfEach}
use Rattle.gx_types.specs.SequenceType.{SequenceType, never, nothing, item, both, either, optional, star, plus}
use Rattle.gx_types.specs.Indicator.{optional_of, star_of, plus_of, times_by}
use Rattle.gx_types.specs.Choice.{is_member_of, choice_with, with_member, with_members, has_empty, gathered, choice_among}
use Rattle.gx_types.specs.Prime.{with_items, prime_of}
use Rattle.gx_types.specs.TypeRules.{positions_of, factored, limited, followed_by, joined_types, sequence_of, choice_of, times_of}
use Rattle.gx_type_laws.specs.Kept.{IsSomething, RulesKeep, HoldsOfParts}

module _ {Fact OfPart : SequenceType → Type 0} (kept : RulesKeep Fact OfPart) where
  -- ---- sequences

  pair : (t u : SequenceType) → IsSomething u → OfPart t → Fact u → Fact (both t u)
  pair t u is h k = kept.of_whole (both t u) (kept.in_both t u h (kept.of_part u is k))

  followed : (t u : SequenceType) → OfPart t → Fact u → Fact (followed_by t u)
  followed t never h k = kept.of_none
  followed t nothing h k = kept.of_whole t h
  followed t (item kind) h k = pair t (item kind) tt h k
  followed t (both a b) h k = pair t (both a b) tt h k
  followed t (either a b) h k = pair t (either a b) tt h k
  followed t (optional a) h k = pair t (optional a) tt h k
  followed t (star a) h k = pair t (star a) tt h k
  followed t (plus a) h k = pair t (plus a) tt h k

  some_followed : (t u : SequenceType) → IsSomething t → Fact t → Fact u → Fact (followed_by t u)
  some_followed t u is h k = followed t u (kept.of_part t is h) k

  pub joined_keeps : (t u : SequenceType) → Fact t → Fact u → Fact (joined_types t u)
  joined_keeps never u h k = kept.of_none
  joined_keeps nothing u h k = k
  joined_keeps (item kind) u h k = some_followed (item kind) u tt h k
  joined_keeps (both a b) u h k = some_followed (both a b) u tt h k
  joined_keeps (either a b) u h k = some_followed (either a b) u tt h k
  joined_keeps (optional a) u h k = some_followed (optional a) u tt h k
  joined_keeps (star a) u h k = some_followed (star a) u tt h k
  joined_keeps (plus a) u h k = some_followed (plus a) u tt h k

  -- ---- indicators

  once : (t : SequenceType) → IsSomething t → Fact t → Fact (optional t)
  once t is h = kept.of_whole (optional t) (kept.in_optional t (kept.of_part t is h))

  many : (t : SequenceType) → IsSomething t → Fact t → Fact (star t)
  many t is h = kept.of_whole (star t) (kept.in_star t (kept.of_part t is h))

  some : (t : SequenceType) → IsSomething t → Fact t → Fact (plus t)
  some t is h = kept.of_whole (plus t) (kept.in_plus t (kept.of_part t is h))

  many_of_optional : (a : SequenceType) → Fact (optional a) → Fact (star a)
  many_of_optional a h = kept.of_whole (star a) (kept.optional_as_star a (kept.of_part (optional a) tt h))

  many_of_plus : (a : SequenceType) → Fact (plus a) → Fact (star a)
  many_of_plus a h = kept.of_whole (star a) (kept.plus_as_star a (kept.of_part (plus a) tt h))

  pub optional_keeps : (t : SequenceType) → Fact t → Fact (optional_of t)
  optional_keeps never h = kept.of_empty
  optional_keeps nothing h = kept.of_empty
  optional_keeps (item kind) h = once (item kind) tt h
  optional_keeps (both a b) h = once (both a b) tt h
  optional_keeps (either a b) h = once (either a b) tt h
  optional_keeps (optional a) h = h
  optional_keeps (star a) h = h
  optional_keeps (plus a) h = many_of_plus a h

  pub star_keeps : (t : SequenceType) → Fact t → Fact (star_of t)
  star_keeps never h = kept.of_empty
  star_keeps nothing h = kept.of_empty
  star_keeps (item kind) h = many (item kind) tt h
  star_keeps (both a b) h = many (both a b) tt h
  star_keeps (either a b) h = many (either a b) tt h
  star_keeps (optional a) h = many_of_optional a h
  star_keeps (star a) h = h
  star_keeps (plus a) h = many_of_plus a h

  pub plus_keeps : (t : SequenceType) → Fact t → Fact (plus_of t)
  plus_keeps never h = kept.of_none
  plus_keeps nothing h = kept.of_empty
  plus_keeps (item kind) h = some (item kind) tt h
  plus_keeps (both a b) h = some (both a b) tt h
  plus_keeps (either a b) h = some (either a b) tt h
  plus_keeps (optional a) h = many_of_optional a h
  plus_keeps (star a) h = h
  plus_keeps (plus a) h = h

  pub repeated_keeps : (t : SequenceType) (least greatest : ℕ) → Fact t → Fact (times_by t least greatest)
  repeated_keeps t zero zero h = kept.of_empty
  repeated_keeps t zero (suc zero) h = optional_keeps t h
  repeated_keeps t zero (suc (suc more)) h = star_keeps t h
  repeated_keeps t (suc least) zero h = kept.of_empty
  repeated_keeps t (suc least) (suc zero) h = h
  repeated_keeps t (suc least) (suc (suc more)) h = plus_keeps t h

  -- ---- choices

  -- a choice as far as it is made: `none` so far, or such that the fact of a part holds
  abbrev pub IsBegun : SequenceType → Type 0
  IsBegun choice = (choice ≡ never) ⊎ OfPart choice

  pub begun_is_kept : (choice : SequenceType) → IsBegun choice → Fact choice
  begun_is_kept choice (inl none) = subst Fact (sym none) kept.of_none
  begun_is_kept choice (inr some) = kept.of_whole choice some

  choice_with_part : (choice t : SequenceType) → OfPart choice → OfPart t → OfPart (choice_with choice t)
  choice_with_part never t h k = k
  choice_with_part nothing t h k = kept.in_either nothing t h k
  choice_with_part (item kind) t h k = kept.in_either (item kind) t h k
  choice_with_part (both a b) t h k = kept.in_either (both a b) t h k
  choice_with_part (either a b) t h k = kept.in_either (either a b) t h k
  choice_with_part (optional a) t h k = kept.in_either (optional a) t h k
  choice_with_part (star a) t h k = kept.in_either (star a) t h k
  choice_with_part (plus a) t h k = kept.in_either (plus a) t h k

  one_more : (is_there : Bool) (choice t : SequenceType) → IsBegun choice → OfPart t → IsBegun (if is_there then choice else choice_with choice t)
  one_more true choice t h k = h
  one_more false choice t (inl none) k = inr (subst (λ (c : SequenceType). OfPart (choice_with c t)) (sym none) k)
  one_more false choice t (inr some) k = inr (choice_with_part choice t some k)

  pub member_keeps : (choice t : SequenceType) → IsBegun choice → OfPart t → IsBegun (with_member choice t)
  member_keeps choice t h k = one_more (is_member_of t choice) choice t h k

  members_of_part : (choice t : SequenceType) → IsBegun choice → OfPart t → IsBegun (with_members choice t)
  members_of_part choice never h k = h
  members_of_part choice nothing h k = h
  members_of_part choice (item kind) h k = member_keeps choice (item kind) h k
  members_of_part choice (both a b) h k = member_keeps choice (both a b) h k
  members_of_part choice (either a b) h k =
      let parts = kept.of_alternatives a b k in members_of_part (with_members choice a) b (members_of_part choice a h parts.0) parts.1
  members_of_part choice (optional a) h k = member_keeps choice (optional a) h k
  members_of_part choice (star a) h k = member_keeps choice (star a) h k
  members_of_part choice (plus a) h k = member_keeps choice (plus a) h k

  some_members : (choice t : SequenceType) → IsSomething t → IsBegun choice → Fact t → IsBegun (with_members choice t)
  some_members choice t is h k = members_of_part choice t h (kept.of_part t is k)

  pub members_keep : (choice t : SequenceType) → IsBegun choice → Fact t → IsBegun (with_members choice t)
  members_keep choice never h k = h
  members_keep choice nothing h k = h
  members_keep choice (item kind) h k = some_members choice (item kind) tt h k
  members_keep choice (both a b) h k = some_members choice (both a b) tt h k
  members_keep choice (either a b) h k = some_members choice (either a b) tt h k
  members_keep choice (optional a) h k = some_members choice (optional a) tt h k
  members_keep choice (star a) h k = some_members choice (star a) tt h k
  members_keep choice (plus a) h k = some_members choice (plus a) tt h k

  pub gathered_onto : (choice : SequenceType) (types : List SequenceType) → IsBegun choice → HoldsOfEach Fact types → IsBegun (fold with_members choice types)
  gathered_onto choice [] h k = h
  gathered_onto choice (t ∷ types) h k = gathered_onto (with_members choice t) types (members_keep choice t h k.0) k.1

  perhaps_optional : (with_empty : Bool) (t : SequenceType) → Fact t → Fact (if with_empty then optional_of t else t)
  perhaps_optional true t h = optional_keeps t h
  perhaps_optional false t h = h

  pub choice_keeps : (types : List SequenceType) → HoldsOfEach Fact types → Fact (choice_among types)
  choice_keeps types h = perhaps_optional (list_any has_empty types) (gathered types) (begun_is_kept (gathered types) (gathered_onto never types (inl refl) h))

  -- ---- prime types, and the limit on positions

  module _ (parts : HoldsOfParts OfPart) where
    items_of_part : (choice t : SequenceType) → IsBegun choice → OfPart t → IsBegun (with_items choice t)
    items_of_part choice never h k = h
    items_of_part choice nothing h k = h
    items_of_part choice (item kind) h k = member_keeps choice (item kind) h k
    items_of_part choice (both a b) h k = let p = parts.of_both a b k in items_of_part (with_items choice a) b (items_of_part choice a h p.0) p.1
    items_of_part choice (either a b) h k = let p = parts.of_either a b k in items_of_part (with_items choice a) b (items_of_part choice a h p.0) p.1
    items_of_part choice (optional a) h k = items_of_part choice a h (parts.of_optional a k)
    items_of_part choice (star a) h k = items_of_part choice a h (parts.of_star a k)
    items_of_part choice (plus a) h k = items_of_part choice a h (parts.of_plus a k)

    some_prime : (t : SequenceType) → IsSomething t → Fact t → Fact (prime_of t)
    some_prime t is h = begun_is_kept (prime_of t) (items_of_part never t (inl refl) (kept.of_part t is h))

    pub prime_keeps : (t : SequenceType) → Fact t → Fact (prime_of t)
    prime_keeps never h = kept.of_none
    prime_keeps nothing h = kept.of_none
    prime_keeps (item kind) h = some_prime (item kind) tt h
    prime_keeps (both a b) h = some_prime (both a b) tt h
    prime_keeps (either a b) h = some_prime (either a b) tt h
    prime_keeps (optional a) h = some_prime (optional a) tt h
    prime_keeps (star a) h = some_prime (star a) tt h
    prime_keeps (plus a) h = some_prime (plus a) tt h

    pub factored_keeps : (t : SequenceType) → Fact t → Fact (factored t)
    factored_keeps t h = repeated_keeps (prime_of t) (occurrence_of t).least (occurrence_of t).greatest (prime_keeps t h)

    within_limit : (is_short : Bool) (t : SequenceType) → Fact t → Fact (if is_short then t else factored t)
    within_limit true t h = h
    within_limit false t h = factored_keeps t h

    pub limited_keeps : (t : SequenceType) → Fact t → Fact (limited t)
    limited_keeps t h = within_limit (nat_le (positions_of t) TYPE_POSITIONS) t h

    pub sequence_keeps : (t u : SequenceType) → Fact t → Fact u → Fact (sequence_of t u)
    sequence_keeps t u h k = limited_keeps (joined_types t u) (joined_keeps t u h k)

    pub choice_of_two_keeps : (t u : SequenceType) → Fact t → Fact u → Fact (choice_of t u)
    choice_of_two_keeps t u h k = limited_keeps (choice_among (t ∷ u ∷ [])) (choice_keeps (t ∷ u ∷ []) (h, (k, tt)))

    pub times_keeps : (t : SequenceType) (o : Occurs) → Fact t → Fact (times_of t o)
    times_keeps t o h = limited_keeps (times_by t o.least o.greatest) (repeated_keeps t o.least o.greatest h)
