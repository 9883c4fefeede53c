-- What the rules that make types of types take.
use Rattle.std.proofs.Common.{◌≡◌, ℕ, zero, suc, ◌+◌, ◌≤◌, min, max, Bool, true, false, ◌||◌, List, [], ◌∷◌, ◌++◌, ◌⊎◌, inl, inr, length, refl, sym, ◌∙◌, ap, subst, arith, append_assoc, length-append, nat_le, fold, if◌then◌else◌}
use Rattle.std.specs.List.{list_any}
use Rattle.std.proofs.lemmas.Bool.{le-leb, or_cases}
use Rattle.gx_types.specs.declared.item_type.ItemType.{ItemType}
use Rattle.gx_types.specs.declared.shape.Shape.{Shape}
use Rattle.gx_types.specs.SchemaSet.{SchemaSet}
use Rattle.gx_types.specs.Occurs.{Occurs}
use Rattle.gx_types.specs.Occurrence.{occurs, occurrence_of}
use Rattle.gx_types.specs.SequenceType.{SequenceType, never, nothing, item, both, either, optional, star, plus}
use Rattle.gx_types.specs.Indicator.{optional_of, star_of, plus_of, times_by}
use Rattle.gx_types.specs.Choice.{is_member_of, choice_with, with_member, with_members, has_empty, gathered, choice_among}
use Rattle.gx_types.specs.Prime.{with_items, prime_of, items_of}
use Rattle.gx_types.specs.TypeRules.{positions_of, factored, followed_by, joined_types}
use Rattle.gx_types.specs.Takes.{Takes, Each, EachShape, SomeTakes, SomeItemTakes, all_joined}
use Rattle.gx_types.specs.Laws.{Allows, OccurrenceBoundsLength, JoinedTypesAreASequence, SequenceTakesParts, SequenceTakesNoMore, ChoiceTakesSome, ChoiceTakesMembers, ChoiceTakesNoMore, TimesTakesJoined, PrimeIsAChoiceOfItems, ItemsTakeEachShape, FactoredTakesType, PrimeTakesType, LimitedTakesType, ShortTypesStay}
use Rattle.gx_types.proofs.EqualTypes.{equal_takes}
use Rattle.gx_types.proofs.Joined.{MadeOf, joined_append, each_append, made_of_made, made_of_one, made_of_none, nothing_joined, singles, singles_joined, singles_length}

-- occurrence

within_both : (o p : Occurs) (m n : ℕ) → Allows o m → Allows p n → Allows (occurs (max o.least p.least) (min 2 (o.greatest + p.greatest))) (m + n)
within_both o p m n a b = record { least = omega (arith, a.least, b.least); greatest = λ h. omega (arith, a.greatest, b.greatest) }

pub takes_within : OccurrenceBoundsLength
takes_within s never ss h = absurd h
takes_within s nothing ss h = subst (λ (xs : List Shape). Allows (occurs 0 0) (length xs)) (sym h) (record { least = omega arith; greatest = λ _. omega arith })
takes_within s (item kind) ss h = subst (λ (xs : List Shape). Allows (occurs 1 1) (length xs)) (sym h.1) (record { least = omega arith; greatest = λ _. omega arith })
takes_within s (both a b) ss h =
    subst (λ (xs : List Shape). Allows (occurrence_of (both a b)) (length xs)) (sym h.2)
    (subst (λ (n : ℕ). Allows (occurrence_of (both a b)) n) (sym (length-append h.0 h.1))
    (within_both (occurrence_of a) (occurrence_of b) (length h.0) (length h.1) (takes_within s a h.0 h.3) (takes_within s b h.1 h.4)))
takes_within s (either a b) ss (inl h) =
    let w = takes_within s a ss h in record { least = omega (arith, w.least); greatest = λ g. omega (arith, w.greatest (omega arith)) }
takes_within s (either a b) ss (inr h) =
    let w = takes_within s b ss h in record { least = omega (arith, w.least); greatest = λ g. omega (arith, w.greatest (omega arith)) }
takes_within s (optional a) ss (inl e) = subst (λ (xs : List Shape). Allows (occurrence_of (optional a)) (length xs)) (sym e) (record { least = omega arith; greatest = λ _. omega arith })
takes_within s (optional a) ss (inr h) = record { least = omega arith; greatest = (takes_within s a ss h).greatest }
takes_within s (star a) ss h = record { least = omega arith; greatest = λ l. absurd (omega arith) }
takes_within s (plus a) ss h =
    let l = (takes_within s a h.0 h.3).least in
    record { least = subst (λ (xs : List Shape). (occurrence_of a).least ≤ length xs) (sym h.2) (omega (arith, l, length-append h.0 (all_joined h.1))); greatest = λ g. absurd (omega arith) }

-- indicators

pub optional_takes : (s : SchemaSet) (t : SequenceType) (ss : List Shape) → ((ss ≡ []) ⊎ Takes s t ss) → Takes s (optional_of t) ss
optional_takes s never ss (inl e) = e
optional_takes s never ss (inr h) = absurd h
optional_takes s nothing ss (inl e) = e
optional_takes s nothing ss (inr h) = h
optional_takes s (item kind) ss h = h
optional_takes s (both a b) ss h = h
optional_takes s (either a b) ss h = h
optional_takes s (optional a) ss (inl e) = inl e
optional_takes s (optional a) ss (inr h) = h
optional_takes s (star a) ss (inl e) = ([], e, tt)
optional_takes s (star a) ss (inr h) = h
optional_takes s (plus a) ss (inl e) = ([], e, tt)
optional_takes s (plus a) ss (inr h) = (h.0 ∷ h.1, h.2, (h.3, h.4))

pub optional_takes_no_more : (s : SchemaSet) (t : SequenceType) (ss : List Shape) → Takes s (optional_of t) ss → (ss ≡ []) ⊎ Takes s t ss
optional_takes_no_more s never ss h = inl h
optional_takes_no_more s nothing ss h = inl h
optional_takes_no_more s (item kind) ss h = h
optional_takes_no_more s (both a b) ss h = h
optional_takes_no_more s (either a b) ss h = h
optional_takes_no_more s (optional a) ss h = inr h
optional_takes_no_more s (star a) ss h = inr h
optional_takes_no_more s (plus a) ss ([], e, f) = inl e
optional_takes_no_more s (plus a) ss (part ∷ parts, e, f) = inr (part, parts, e, f.0, f.1)

-- lists of a plus are made of lists of its part, and so are those of an optional
plus_made : (s : SchemaSet) (a : SequenceType) (ss : List Shape) → Takes s (plus a) ss → MadeOf (Takes s a) ss
plus_made s a ss h = (h.0 ∷ h.1, h.2, (h.3, h.4))

optional_made : (s : SchemaSet) (a : SequenceType) (ss : List Shape) → Takes s (optional a) ss → MadeOf (Takes s a) ss
optional_made s a ss (inl e) = made_of_none (Takes s a) ss e
optional_made s a ss (inr h) = made_of_one (Takes s a) ss h

never_parts : (s : SchemaSet) (parts : List (List Shape)) → Each (Takes s never) parts → all_joined parts ≡ []
never_parts s [] e = refl
never_parts s (part ∷ parts) e = absurd e.0

pub star_takes : (s : SchemaSet) (t : SequenceType) (parts : List (List Shape)) → Each (Takes s t) parts → Takes s (star_of t) (all_joined parts)
star_takes s never parts e = never_parts s parts e
star_takes s nothing parts e = nothing_joined parts e
star_takes s (item kind) parts e = (parts, refl, e)
star_takes s (both a b) parts e = (parts, refl, e)
star_takes s (either a b) parts e = (parts, refl, e)
star_takes s (optional a) parts e = made_of_made (Takes s (optional a)) (Takes s a) (optional_made s a) parts e
star_takes s (star a) parts e = made_of_made (Takes s (star a)) (Takes s a) (λ xs h. h) parts e
star_takes s (plus a) parts e = made_of_made (Takes s (plus a)) (Takes s a) (plus_made s a) parts e

pub plus_takes : (s : SchemaSet) (t : SequenceType) (part : List Shape) (parts : List (List Shape)) → Takes s t part → Each (Takes s t) parts → Takes s (plus_of t) (part ++ all_joined parts)
plus_takes s never part parts h e = absurd h
plus_takes s nothing part parts h e = nothing_joined (part ∷ parts) (h, e)
plus_takes s (item kind) part parts h e = (part, parts, refl, h, e)
plus_takes s (both a b) part parts h e = (part, parts, refl, h, e)
plus_takes s (either a b) part parts h e = (part, parts, refl, h, e)
plus_takes s (optional a) part parts h e = star_takes s (optional a) (part ∷ parts) (h, e)
plus_takes s (star a) part parts h e = star_takes s (star a) (part ∷ parts) (h, e)
plus_takes s (plus a) part parts h e =
    let m = made_of_made (Takes s (plus a)) (Takes s a) (plus_made s a) parts e in (
      h.0,
      h.1 ++ m.0,
      ap (λ xs. xs ++ all_joined parts) h.2 ∙ append_assoc h.0 (all_joined h.1) (all_joined parts)
          ∙ ap (λ xs. h.0 ++ xs) (ap (λ xs. all_joined h.1 ++ xs) m.1 ∙ sym (joined_append h.1 m.0)),
      h.3,
      each_append (Takes s a) h.1 m.0 h.4 m.2,
    )

-- times

append_nil : (xs : List Shape) → xs ≡ xs ++ []
append_nil [] = refl
append_nil (x ∷ xs) = ap (λ zs. x ∷ zs) (append_nil xs)

pub repeated_takes : (s : SchemaSet) (t : SequenceType) (least greatest : ℕ) (parts : List (List Shape)) → Each (Takes s t) parts → Allows (occurs least greatest) (length parts) → Takes s (times_by t least greatest) (all_joined parts)
repeated_takes s t zero zero [] e w = refl
repeated_takes s t zero zero (part ∷ parts) e w = absurd (omega (arith, w.greatest (omega arith)))
repeated_takes s t zero (suc zero) [] e w = optional_takes s t [] (inl refl)
repeated_takes s t zero (suc zero) (part ∷ []) e w = subst (Takes s (optional_of t)) (append_nil part) (optional_takes s t part (inr e.0))
repeated_takes s t zero (suc zero) (part ∷ other ∷ parts) e w = absurd (omega (arith, w.greatest (omega arith)))
repeated_takes s t zero (suc (suc more)) parts e w = star_takes s t parts e
repeated_takes s t (suc least) zero parts e w = absurd (omega (arith, w.least, w.greatest (omega arith)))
repeated_takes s t (suc least) (suc zero) [] e w = absurd (omega (arith, w.least))
repeated_takes s t (suc least) (suc zero) (part ∷ []) e w = subst (Takes s t) (append_nil part) e.0
repeated_takes s t (suc least) (suc zero) (part ∷ other ∷ parts) e w = absurd (omega (arith, w.greatest (omega arith)))
repeated_takes s t (suc least) (suc (suc more)) [] e w = absurd (omega (arith, w.least))
repeated_takes s t (suc least) (suc (suc more)) (part ∷ parts) e w = plus_takes s t part parts e.0 e.1

-- choices

or_else_first : (s : SchemaSet) (c m : SequenceType) (ss : List Shape) → Takes s c ss → Takes s (choice_with c m) ss
or_else_first s never m ss h = absurd h
or_else_first s nothing m ss h = inl h
or_else_first s (item kind) m ss h = inl h
or_else_first s (both a b) m ss h = inl h
or_else_first s (either a b) m ss h = inl h
or_else_first s (optional a) m ss h = inl h
or_else_first s (star a) m ss h = inl h
or_else_first s (plus a) m ss h = inl h

or_else_second : (s : SchemaSet) (c m : SequenceType) (ss : List Shape) → Takes s m ss → Takes s (choice_with c m) ss
or_else_second s never m ss h = h
or_else_second s nothing m ss h = inr h
or_else_second s (item kind) m ss h = inr h
or_else_second s (both a b) m ss h = inr h
or_else_second s (either a b) m ss h = inr h
or_else_second s (optional a) m ss h = inr h
or_else_second s (star a) m ss h = inr h
or_else_second s (plus a) m ss h = inr h

or_else_only : (s : SchemaSet) (c m : SequenceType) (ss : List Shape) → Takes s (choice_with c m) ss → Takes s c ss ⊎ Takes s m ss
or_else_only s never m ss h = inr h
or_else_only s nothing m ss h = h
or_else_only s (item kind) m ss h = h
or_else_only s (both a b) m ss h = h
or_else_only s (either a b) m ss h = h
or_else_only s (optional a) m ss h = h
or_else_only s (star a) m ss h = h
or_else_only s (plus a) m ss h = h

-- a choice that has a member takes what the member takes
among_takes : (s : SchemaSet) (m c : SequenceType) (ss : List Shape) → is_member_of m c ≡ true → Takes s m ss → Takes s c ss
among_takes s m (either a b) ss h k = elim (or_cases (is_member_of m a) (is_member_of m b) h) [
  | inl g ↦ inl (among_takes s m a ss g k)
  | inr g ↦ inr (among_takes s m b ss g k)
]
among_takes s m never ss h k = equal_takes s never m ss h k
among_takes s m nothing ss h k = equal_takes s nothing m ss h k
among_takes s m (item kind) ss h k = equal_takes s (item kind) m ss h k
among_takes s m (both a b) ss h k = equal_takes s (both a b) m ss h k
among_takes s m (optional a) ss h k = equal_takes s (optional a) m ss h k
among_takes s m (star a) ss h k = equal_takes s (star a) m ss h k
among_takes s m (plus a) ss h k = equal_takes s (plus a) m ss h k

member_first : (s : SchemaSet) (c m : SequenceType) (ss : List Shape) → Takes s c ss → Takes s (with_member c m) ss
member_first s c m ss h = elim (is_member_of m c) as (λ (b : Bool). Takes s (if b then c else choice_with c m) ss) [ true ↦ h | false ↦ or_else_first s c m ss h ]

member_second : (s : SchemaSet) (c m : SequenceType) (ss : List Shape) → Takes s m ss → Takes s (with_member c m) ss
member_second s c m ss h =
    elim (is_member_of m c) as (λ (b : Bool). is_member_of m c ≡ b → Takes s (if b then c else choice_with c m) ss) [ true ↦ λ e. among_takes s m c ss e h | false ↦ λ _. or_else_second s c m ss h ] refl

member_only : (s : SchemaSet) (c m : SequenceType) (ss : List Shape) → Takes s (with_member c m) ss → Takes s c ss ⊎ Takes s m ss
member_only s c m ss =
    elim (is_member_of m c) as (λ (b : Bool). Takes s (if b then c else choice_with c m) ss → Takes s c ss ⊎ Takes s m ss) [ true ↦ λ h. inl h | false ↦ λ h. or_else_only s c m ss h ]

pub members_first : (s : SchemaSet) (c t : SequenceType) (ss : List Shape) → Takes s c ss → Takes s (with_members c t) ss
members_first s c never ss h = h
members_first s c nothing ss h = h
members_first s c (item kind) ss h = member_first s c (item kind) ss h
members_first s c (both a b) ss h = member_first s c (both a b) ss h
members_first s c (either a b) ss h = members_first s (with_members c a) b ss (members_first s c a ss h)
members_first s c (optional a) ss h = member_first s c (optional a) ss h
members_first s c (star a) ss h = member_first s c (star a) ss h
members_first s c (plus a) ss h = member_first s c (plus a) ss h

-- a list that a member takes, the empty sequence apart
abbrev EmptyMember : SequenceType → List Shape → Type 0
EmptyMember t ss = (has_empty t ≡ true) × (ss ≡ [])

left_or : (a b : Bool) → a ≡ true → a || b ≡ true
left_or true b h = refl
left_or false b h = absurd (cc)

right_or : (a b : Bool) → b ≡ true → a || b ≡ true
right_or true b h = refl
right_or false b h = h

pub members_second : (s : SchemaSet) (c t : SequenceType) (ss : List Shape) → Takes s t ss → Takes s (with_members c t) ss ⊎ EmptyMember t ss
members_second s c never ss h = absurd h
members_second s c nothing ss h = inr (refl, h)
members_second s c (item kind) ss h = inl (member_second s c (item kind) ss h)
members_second s c (both a b) ss h = inl (member_second s c (both a b) ss h)
members_second s c (either a b) ss (inl h) = elim (members_second s c a ss h) [
  | inl k ↦ inl (members_first s (with_members c a) b ss k)
  | inr k ↦ inr (left_or (has_empty a) (has_empty b) k.0, k.1)
]
members_second s c (either a b) ss (inr h) = elim (members_second s (with_members c a) b ss h) [
  | inl k ↦ inl k
  | inr k ↦ inr (right_or (has_empty a) (has_empty b) k.0, k.1)
]
members_second s c (optional a) ss h = inl (member_second s c (optional a) ss h)
members_second s c (star a) ss h = inl (member_second s c (star a) ss h)
members_second s c (plus a) ss h = inl (member_second s c (plus a) ss h)

members_only : (s : SchemaSet) (c t : SequenceType) (ss : List Shape) → Takes s (with_members c t) ss → Takes s c ss ⊎ Takes s t ss
members_only s c never ss h = inl h
members_only s c nothing ss h = inl h
members_only s c (item kind) ss h = member_only s c (item kind) ss h
members_only s c (both a b) ss h = member_only s c (both a b) ss h
members_only s c (either a b) ss h = elim (members_only s (with_members c a) b ss h) [
  | inl k ↦ elim (members_only s c a ss k) [ inl g ↦ inl g | inr g ↦ inr (inl g) ]
  | inr k ↦ inr (inr k)
]
members_only s c (optional a) ss h = member_only s c (optional a) ss h
members_only s c (star a) ss h = member_only s c (star a) ss h
members_only s c (plus a) ss h = member_only s c (plus a) ss h

-- a choice with an empty member takes the empty list
empty_member_takes : (s : SchemaSet) (t : SequenceType) (ss : List Shape) → has_empty t ≡ true → ss ≡ [] → Takes s t ss
empty_member_takes s nothing ss h e = e
empty_member_takes s (either a b) ss h e = elim (or_cases (has_empty a) (has_empty b) h) [
  | inl g ↦ inl (empty_member_takes s a ss g e)
  | inr g ↦ inr (empty_member_takes s b ss g e)
]
empty_member_takes s never ss h e = absurd (cc)
empty_member_takes s (item kind) ss h e = absurd (cc)
empty_member_takes s (both a b) ss h e = absurd (cc)
empty_member_takes s (optional a) ss h e = absurd (cc)
empty_member_takes s (star a) ss h e = absurd (cc)
empty_member_takes s (plus a) ss h e = absurd (cc)

-- choices of lists of types

gathered_first : (s : SchemaSet) (c : SequenceType) (ts : List SequenceType) (ss : List Shape) → Takes s c ss → Takes s (fold with_members c ts) ss
gathered_first s c [] ss h = h
gathered_first s c (t ∷ ts) ss h = gathered_first s (with_members c t) ts ss (members_first s c t ss h)

gathered_some : (s : SchemaSet) (c : SequenceType) (ts : List SequenceType) (ss : List Shape) → SomeTakes s ts ss → Takes s (fold with_members c ts) ss ⊎ ((list_any has_empty ts ≡ true) × (ss ≡ []))
gathered_some s c [] ss h = absurd h
gathered_some s c (t ∷ ts) ss (inl h) = elim (members_second s c t ss h) [
  | inl k ↦ inl (gathered_first s (with_members c t) ts ss k)
  | inr k ↦ inr (left_or (has_empty t) (list_any has_empty ts) k.0, k.1)
]
gathered_some s c (t ∷ ts) ss (inr h) = elim (gathered_some s (with_members c t) ts ss h) [
  | inl k ↦ inl k
  | inr k ↦ inr (right_or (has_empty t) (list_any has_empty ts) k.0, k.1)
]

gathered_only : (s : SchemaSet) (c : SequenceType) (ts : List SequenceType) (ss : List Shape) → Takes s (fold with_members c ts) ss → Takes s c ss ⊎ SomeTakes s ts ss
gathered_only s c [] ss h = inl h
gathered_only s c (t ∷ ts) ss h = elim (gathered_only s (with_members c t) ts ss h) [
  | inl k ↦ elim (members_only s c t ss k) [ inl g ↦ inl g | inr g ↦ inr (inl g) ]
  | inr k ↦ inr (inr k)
]

-- a list of types with an empty member takes the empty list
empty_among_takes : (s : SchemaSet) (ts : List SequenceType) (ss : List Shape) → list_any has_empty ts ≡ true → ss ≡ [] → SomeTakes s ts ss
empty_among_takes s [] ss h e = absurd (cc)
empty_among_takes s (t ∷ ts) ss h e = elim (or_cases (has_empty t) (list_any has_empty ts) h) [
  | inl g ↦ inl (empty_member_takes s t ss g e)
  | inr g ↦ inr (empty_among_takes s ts ss g e)
]

gathered_is_theirs : (s : SchemaSet) (ts : List SequenceType) (ss : List Shape) → Takes s (gathered ts) ss → SomeTakes s ts ss
gathered_is_theirs s ts ss h = elim (gathered_only s never ts ss h) [ inl k ↦ absurd k | inr k ↦ k ]

chosen_takes : (s : SchemaSet) (ts : List SequenceType) (ss : List Shape) → SomeTakes s ts ss → Takes s (choice_among ts) ss
chosen_takes s ts ss h =
    elim (list_any has_empty ts) as (λ (b : Bool). (Takes s (gathered ts) ss ⊎ ((b ≡ true) × (ss ≡ []))) → Takes s (if b then optional_of (gathered ts) else gathered ts) ss) [
      | true ↦ λ m. elim m [ inl k ↦ optional_takes s (gathered ts) ss (inr k) | inr k ↦ optional_takes s (gathered ts) ss (inl k.1) ]
      | false ↦ λ m. elim m [ inl k ↦ k | inr k ↦ absurd (cc k.0) ]
    ] (gathered_some s never ts ss h)

chosen_takes_no_more : (s : SchemaSet) (ts : List SequenceType) (ss : List Shape) → Takes s (choice_among ts) ss → SomeTakes s ts ss
chosen_takes_no_more s ts ss =
    elim (list_any has_empty ts) as (λ (b : Bool). list_any has_empty ts ≡ b → Takes s (if b then optional_of (gathered ts) else gathered ts) ss → SomeTakes s ts ss) [
      | true ↦ λ e h. elim (optional_takes_no_more s (gathered ts) ss h) [ inl n ↦ empty_among_takes s ts ss e n | inr k ↦ gathered_is_theirs s ts ss k ]
      | false ↦ λ _ h. gathered_is_theirs s ts ss h
    ] refl

pub choice_takes_some : ChoiceTakesSome
choice_takes_some s ts ss = (chosen_takes s ts ss, chosen_takes_no_more s ts ss)

-- prime types

items_first : (s : SchemaSet) (c t : SequenceType) (ss : List Shape) → Takes s c ss → Takes s (with_items c t) ss
items_first s c never ss h = h
items_first s c nothing ss h = h
items_first s c (item kind) ss h = member_first s c (item kind) ss h
items_first s c (both a b) ss h = items_first s (with_items c a) b ss (items_first s c a ss h)
items_first s c (either a b) ss h = items_first s (with_items c a) b ss (items_first s c a ss h)
items_first s c (optional a) ss h = items_first s c a ss h
items_first s c (star a) ss h = items_first s c a ss h
items_first s c (plus a) ss h = items_first s c a ss h

-- a prime type takes single shapes, and each by an item type

some_item_left : (s : SchemaSet) (is js : List ItemType) (x : Shape) → SomeItemTakes s is x → SomeItemTakes s (is ++ js) x
some_item_left s [] js x h = absurd h
some_item_left s (i ∷ is) js x (inl h) = inl h
some_item_left s (i ∷ is) js x (inr h) = inr (some_item_left s is js x h)

some_item_right : (s : SchemaSet) (is js : List ItemType) (x : Shape) → SomeItemTakes s js x → SomeItemTakes s (is ++ js) x
some_item_right s [] js x h = h
some_item_right s (i ∷ is) js x h = inr (some_item_right s is js x h)

some_item_split : (s : SchemaSet) (is js : List ItemType) (x : Shape) → SomeItemTakes s (is ++ js) x → SomeItemTakes s is x ⊎ SomeItemTakes s js x
some_item_split s [] js x h = inr h
some_item_split s (i ∷ is) js x (inl h) = inl (inl h)
some_item_split s (i ∷ is) js x (inr h) = elim (some_item_split s is js x h) [ inl k ↦ inl (inr k) | inr k ↦ inr k ]

-- what a choice takes, or an item type of a type
abbrev OrItem : SchemaSet → SequenceType → List ItemType → List Shape → Type 0
OrItem s c is ss = Takes s c ss ⊎ ((x : Shape) × (ss ≡ x ∷ []) × SomeItemTakes s is x)

or_item_joined : (s : SchemaSet) (c : SequenceType) (is js : List ItemType) (ss : List Shape) → OrItem s c is ss ⊎ ((x : Shape) × (ss ≡ x ∷ []) × SomeItemTakes s js x) → OrItem s c (is ++ js) ss
or_item_joined s c is js ss (inl (inl h)) = inl h
or_item_joined s c is js ss (inl (inr h)) = inr (h.0, h.1, some_item_left s is js h.0 h.2)
or_item_joined s c is js ss (inr h) = inr (h.0, h.1, some_item_right s is js h.0 h.2)

items_only : (s : SchemaSet) (c t : SequenceType) (ss : List Shape) → Takes s (with_items c t) ss → OrItem s c (items_of t) ss
items_only s c never ss h = inl h
items_only s c nothing ss h = inl h
items_only s c (item kind) ss h = elim (member_only s c (item kind) ss h) [ inl k ↦ inl k | inr k ↦ inr (k.0, k.1, inl k.2) ]
items_only s c (both a b) ss h = elim (items_only s (with_items c a) b ss h) [
  | inl k ↦ or_item_joined s c (items_of a) (items_of b) ss (inl (items_only s c a ss k))
  | inr k ↦ or_item_joined s c (items_of a) (items_of b) ss (inr k)
]
items_only s c (either a b) ss h = elim (items_only s (with_items c a) b ss h) [
  | inl k ↦ or_item_joined s c (items_of a) (items_of b) ss (inl (items_only s c a ss k))
  | inr k ↦ or_item_joined s c (items_of a) (items_of b) ss (inr k)
]
items_only s c (optional a) ss h = items_only s c a ss h
items_only s c (star a) ss h = items_only s c a ss h
items_only s c (plus a) ss h = items_only s c a ss h

items_second : (s : SchemaSet) (c t : SequenceType) (x : Shape) → SomeItemTakes s (items_of t) x → Takes s (with_items c t) (x ∷ [])
items_second s c never x h = absurd h
items_second s c nothing x h = absurd h
items_second s c (item kind) x (inl h) = member_second s c (item kind) (x ∷ []) (x, refl, h)
items_second s c (item kind) x (inr h) = absurd h
items_second s c (both a b) x h = elim (some_item_split s (items_of a) (items_of b) x h) [
  | inl k ↦ items_first s (with_items c a) b (x ∷ []) (items_second s c a x k)
  | inr k ↦ items_second s (with_items c a) b x k
]
items_second s c (either a b) x h = elim (some_item_split s (items_of a) (items_of b) x h) [
  | inl k ↦ items_first s (with_items c a) b (x ∷ []) (items_second s c a x k)
  | inr k ↦ items_second s (with_items c a) b x k
]
items_second s c (optional a) x h = items_second s c a x h
items_second s c (star a) x h = items_second s c a x h
items_second s c (plus a) x h = items_second s c a x h

pub prime_is_a_choice_of_items : PrimeIsAChoiceOfItems
prime_is_a_choice_of_items s t ss = (
  λ h. elim (items_only s never t ss h) [ inl k ↦ absurd k | inr k ↦ record { shape = k.0; alone = k.1; taken = k.2 } ],
  λ p. subst (Takes s (prime_of t)) (sym p.alone) (items_second s never t p.shape p.taken),
)

-- each shape of a list is taken by an item type

each_shape_append : (P : Shape → Type 0) (xs ys : List Shape) → EachShape P xs → EachShape P ys → EachShape P (xs ++ ys)
each_shape_append P [] ys e f = f
each_shape_append P (x ∷ xs) ys e f = (e.0, each_shape_append P xs ys e.1 f)

each_shape_implies : (P Q : Shape → Type 0) → ((x : Shape) → P x → Q x) → (xs : List Shape) → EachShape P xs → EachShape Q xs
each_shape_implies P Q f [] e = tt
each_shape_implies P Q f (x ∷ xs) e = (f x e.0, each_shape_implies P Q f xs e.1)

each_shape_joined : (P : Shape → Type 0) (Q : List Shape → Type 0) → ((ss : List Shape) → Q ss → EachShape P ss) → (parts : List (List Shape)) → Each Q parts → EachShape P (all_joined parts)
each_shape_joined P Q f [] e = tt
each_shape_joined P Q f (part ∷ parts) e = each_shape_append P part (all_joined parts) (f part e.0) (each_shape_joined P Q f parts e.1)

abbrev ByItems : SchemaSet → SequenceType → List Shape → Type 0
ByItems s t ss = EachShape (SomeItemTakes s (items_of t)) ss

by_left : (s : SchemaSet) (a b : SequenceType) (ss : List Shape) → ByItems s a ss → EachShape (SomeItemTakes s (items_of a ++ items_of b)) ss
by_left s a b ss e = each_shape_implies (SomeItemTakes s (items_of a)) (SomeItemTakes s (items_of a ++ items_of b)) (some_item_left s (items_of a) (items_of b)) ss e

by_right : (s : SchemaSet) (a b : SequenceType) (ss : List Shape) → ByItems s b ss → EachShape (SomeItemTakes s (items_of a ++ items_of b)) ss
by_right s a b ss e = each_shape_implies (SomeItemTakes s (items_of b)) (SomeItemTakes s (items_of a ++ items_of b)) (some_item_right s (items_of a) (items_of b)) ss e

pub items_take_each_shape : ItemsTakeEachShape
items_take_each_shape s never ss h = absurd h
items_take_each_shape s nothing ss h = subst (ByItems s nothing) (sym h) tt
items_take_each_shape s (item kind) ss h = subst (ByItems s (item kind)) (sym h.1) (inl h.2, tt)
items_take_each_shape s (both a b) ss h =
    subst (ByItems s (both a b)) (sym h.2)
    (each_shape_append (SomeItemTakes s (items_of a ++ items_of b)) h.0 h.1 (by_left s a b h.0 (items_take_each_shape s a h.0 h.3)) (by_right s a b h.1 (items_take_each_shape s b h.1 h.4)))
items_take_each_shape s (either a b) ss (inl h) = by_left s a b ss (items_take_each_shape s a ss h)
items_take_each_shape s (either a b) ss (inr h) = by_right s a b ss (items_take_each_shape s b ss h)
items_take_each_shape s (optional a) ss (inl e) = subst (ByItems s a) (sym e) tt
items_take_each_shape s (optional a) ss (inr h) = items_take_each_shape s a ss h
items_take_each_shape s (star a) ss h = subst (ByItems s a) (sym h.1) (each_shape_joined (SomeItemTakes s (items_of a)) (Takes s a) (items_take_each_shape s a) h.0 h.2)
items_take_each_shape s (plus a) ss h =
    subst (ByItems s a) (sym h.2)
    (each_shape_append (SomeItemTakes s (items_of a)) h.0 (all_joined h.1) (items_take_each_shape s a h.0 h.3) (each_shape_joined (SomeItemTakes s (items_of a)) (Takes s a) (items_take_each_shape s a) h.1 h.4))

-- so each is taken by the prime type alone
singles_by_items : (s : SchemaSet) (t : SequenceType) (ss : List Shape) → ByItems s t ss → Each (Takes s (prime_of t)) (singles ss)
singles_by_items s t [] e = tt
singles_by_items s t (x ∷ xs) e = (items_second s never t x e.0, singles_by_items s t xs e.1)

pub factored_takes : FactoredTakesType
factored_takes s t ss h =
    let w = subst (λ (n : ℕ). Allows (occurrence_of t) n) (sym (singles_length ss)) (takes_within s t ss h) in
    subst (Takes s (factored t)) (sym (singles_joined ss))
    (repeated_takes s (prime_of t) (occurrence_of t).least (occurrence_of t).greatest (singles ss) (singles_by_items s t ss (items_take_each_shape s t ss h)) (record { least = w.least; greatest = w.greatest }))

-- types of at most 64 positions, and longer ones

pub limited_takes : LimitedTakesType
limited_takes s t ss h =
    elim (nat_le (positions_of t) 64) as (λ (b : Bool). Takes s (if b then t else factored t) ss) [
      | true ↦ h
      | false ↦ factored_takes s t ss h
    ]

pub short_is_kept : ShortTypesStay
short_is_kept t h = ap (λ (b : Bool). if b then t else factored t) (le-leb (positions_of t) 64 h)

-- the laws

pub times_takes_joined : TimesTakesJoined
times_takes_joined s t o parts e w =
    limited_takes s (times_by t o.least o.greatest) (all_joined parts) (repeated_takes s t o.least o.greatest parts e (record { least = w.least; greatest = w.greatest }))

pub prime_takes_type : PrimeTakesType
prime_takes_type s t ss h = limited_takes s (factored t) ss (factored_takes s t ss h)

followed_takes : (s : SchemaSet) (a b : SequenceType) (xs ys : List Shape) → Takes s a xs → Takes s b ys → Takes s (followed_by a b) (xs ++ ys)
followed_takes s a never xs ys h k = absurd k
followed_takes s a nothing xs ys h k = subst (Takes s a) (append_nil xs ∙ ap (λ zs. xs ++ zs) (sym k)) h
followed_takes s a (item kind) xs ys h k = (xs, ys, refl, h, k)
followed_takes s a (both c d) xs ys h k = (xs, ys, refl, h, k)
followed_takes s a (either c d) xs ys h k = (xs, ys, refl, h, k)
followed_takes s a (optional c) xs ys h k = (xs, ys, refl, h, k)
followed_takes s a (star c) xs ys h k = (xs, ys, refl, h, k)
followed_takes s a (plus c) xs ys h k = (xs, ys, refl, h, k)

joined_takes : (s : SchemaSet) (a b : SequenceType) (xs ys : List Shape) → Takes s a xs → Takes s b ys → Takes s (joined_types a b) (xs ++ ys)
joined_takes s never b xs ys h k = absurd h
joined_takes s nothing b xs ys h k = subst (λ (zs : List Shape). Takes s b (zs ++ ys)) (sym h) k
joined_takes s (item kind) b xs ys h k = followed_takes s (item kind) b xs ys h k
joined_takes s (both c d) b xs ys h k = followed_takes s (both c d) b xs ys h k
joined_takes s (either c d) b xs ys h k = followed_takes s (either c d) b xs ys h k
joined_takes s (optional c) b xs ys h k = followed_takes s (optional c) b xs ys h k
joined_takes s (star c) b xs ys h k = followed_takes s (star c) b xs ys h k
joined_takes s (plus c) b xs ys h k = followed_takes s (plus c) b xs ys h k

followed_takes_no_more : (s : SchemaSet) (a b : SequenceType) (ss : List Shape) → Takes s (followed_by a b) ss → Takes s (both a b) ss
followed_takes_no_more s a never ss h = absurd h
followed_takes_no_more s a nothing ss h = (ss, [], append_nil ss, h, refl)
followed_takes_no_more s a (item kind) ss h = h
followed_takes_no_more s a (both c d) ss h = h
followed_takes_no_more s a (either c d) ss h = h
followed_takes_no_more s a (optional c) ss h = h
followed_takes_no_more s a (star c) ss h = h
followed_takes_no_more s a (plus c) ss h = h

joined_takes_no_more : (s : SchemaSet) (a b : SequenceType) (ss : List Shape) → Takes s (joined_types a b) ss → Takes s (both a b) ss
joined_takes_no_more s never b ss h = absurd h
joined_takes_no_more s nothing b ss h = ([], ss, refl, refl, h)
joined_takes_no_more s (item kind) b ss h = followed_takes_no_more s (item kind) b ss h
joined_takes_no_more s (both c d) b ss h = followed_takes_no_more s (both c d) b ss h
joined_takes_no_more s (either c d) b ss h = followed_takes_no_more s (either c d) b ss h
joined_takes_no_more s (optional c) b ss h = followed_takes_no_more s (optional c) b ss h
joined_takes_no_more s (star c) b ss h = followed_takes_no_more s (star c) b ss h
joined_takes_no_more s (plus c) b ss h = followed_takes_no_more s (plus c) b ss h

pub sequence_takes : SequenceTakesParts
sequence_takes s t u xs ys h k = limited_takes s (joined_types t u) (xs ++ ys) (joined_takes s t u xs ys h k)

pub sequence_takes_no_more : SequenceTakesNoMore
sequence_takes_no_more s t u ss short h = joined_takes_no_more s t u ss (subst (λ (v : SequenceType). Takes s v ss) (short_is_kept (joined_types t u) short) h)

one_of_two : (s : SchemaSet) (t u : SequenceType) (ss : List Shape) → Takes s t ss ⊎ Takes s u ss → SomeTakes s (t ∷ u ∷ []) ss
one_of_two s t u ss (inl h) = inl h
one_of_two s t u ss (inr h) = inr (inl h)

some_of_two : (s : SchemaSet) (t u : SequenceType) (ss : List Shape) → SomeTakes s (t ∷ u ∷ []) ss → Takes s t ss ⊎ Takes s u ss
some_of_two s t u ss (inl h) = inl h
some_of_two s t u ss (inr (inl h)) = inr h
some_of_two s t u ss (inr (inr h)) = absurd h

pub joined_types_are_a_sequence : JoinedTypesAreASequence
joined_types_are_a_sequence s t u ss = (λ h. subst (Takes s (joined_types t u)) (sym h.2) (joined_takes s t u h.0 h.1 h.3 h.4), joined_takes_no_more s t u ss)

pub choice_takes : ChoiceTakesMembers
choice_takes s t u ss h = limited_takes s (choice_among (t ∷ u ∷ [])) ss (chosen_takes s (t ∷ u ∷ []) ss (one_of_two s t u ss h))

pub choice_takes_no_more : ChoiceTakesNoMore
choice_takes_no_more s t u ss short h =
    some_of_two s t u ss (chosen_takes_no_more s (t ∷ u ∷ []) ss (subst (λ (v : SequenceType). Takes s v ss) (short_is_kept (choice_among (t ∷ u ∷ [])) short) h))
