-- Choices and prime types are made of the lists of their alternatives.
use Rattle.std.proofs.Common.{◌≡◌, Bool, true, false, ◌||◌, List, [], ◌∷◌, ◌++◌, refl, sym, ◌∙◌, ap, subst, fold, map, if◌then◌else◌}
use Rattle.std.specs.List.{list_any}
use Rattle.std.proofs.lemmas.List.{map-append}
use Rattle.std.proofs.lemmas.List.Folds.{list_any-append}
use Rattle.std.proofs.lemmas.List.Sums.{fold-append}
use Rattle.indexmap.specs.IndexSet.{insert_key}
use Rattle.gx_types.specs.SequenceType.{SequenceType, never, nothing, item, both, either, optional, star, plus}
use Rattle.gx_types.specs.SameType.{same_type}
use Rattle.gx_types.specs.Choice.{is_member_of, choice_with, with_member, with_members, gathered}
use Rattle.gx_types.specs.Prime.{with_items, prime_of, items_of}
use Rattle.gx_types.specs.Alternatives.{alternatives_of, with_types, with_alternatives, alternatives_among, item_alternatives, choice_from}
use Rattle.gx_types.specs.TypeEquality.{types_are_equivalent}

-- a type that is one alternative
abbrev IsOne : SequenceType → Type 0
IsOne never = ⊥
IsOne nothing = ⊥
IsOne (item kind) = Unit {0}
IsOne (both a b) = Unit {0}
IsOne (either a b) = ⊥
IsOne (optional a) = Unit {0}
IsOne (star a) = Unit {0}
IsOne (plus a) = Unit {0}

differs_from_never : (m : SequenceType) → IsOne m → same_type never m ≡ false
differs_from_never (item kind) o = refl
differs_from_never (both a b) o = refl
differs_from_never (optional a) o = refl
differs_from_never (star a) o = refl
differs_from_never (plus a) o = refl
differs_from_never _ o = absurd o

is_its_own_member : (m t : SequenceType) → IsOne t → is_member_of m t ≡ same_type t m
is_its_own_member m (item kind) o = refl
is_its_own_member m (both a b) o = refl
is_its_own_member m (optional a) o = refl
is_its_own_member m (star a) o = refl
is_its_own_member m (plus a) o = refl
is_its_own_member m _ o = absurd o

-- a member of a choice with one more alternative
member_with : (m choice t : SequenceType) → IsOne m → is_member_of m (choice_with choice t) ≡ is_member_of m choice || is_member_of m t
member_with m never t o = ap (λ (b : Bool). b || is_member_of m t) (sym (differs_from_never m o))
member_with m nothing t o = refl
member_with m (item kind) t o = refl
member_with m (both a b) t o = refl
member_with m (either a b) t o = refl
member_with m (optional a) t o = refl
member_with m (star a) t o = refl
member_with m (plus a) t o = refl

-- the members of the choice from a list are those of the list
record HasMembers (found : List SequenceType) : Type 0 where
  are : (m : SequenceType) → IsOne m → is_member_of m (choice_from found) ≡ list_any (same_type m) found

none_has_members : HasMembers []
none_has_members = record { are = λ m o. differs_from_never m o }

choice_from_more : (found : List SequenceType) (t : SequenceType) → choice_from (found ++ t ∷ []) ≡ choice_with (choice_from found) t
choice_from_more found t = fold-append choice_with never found (t ∷ [])

one_more : (m t : SequenceType) (found : List SequenceType) → list_any (same_type m) (found ++ t ∷ []) ≡ list_any (same_type m) found || (same_type m t || false)
one_more m t found = list_any-append (same_type m) found (t ∷ [])

or_false : (a : Bool) → a || false ≡ a
or_false true = refl
or_false false = refl

more_has_members : (found : List SequenceType) (t : SequenceType) → IsOne t → HasMembers found → HasMembers (found ++ t ∷ [])
more_has_members found t o h =
    record {
      are =
          λ m p.
          ap (is_member_of m) (choice_from_more found t) ∙ member_with m (choice_from found) t p
          ∙ ap (λ (b : Bool). b || is_member_of m t) (h.are m p)
          ∙ ap (λ (b : Bool). list_any (same_type m) found || b) (is_its_own_member m t o ∙ types_are_equivalent.symm t m ∙ sym (or_false (same_type m t)))
          ∙ sym (one_more m t found);
    }

-- a choice from a list stays one, and the list keeps the members
record GoesAlong (choice : SequenceType) (found : List SequenceType) : Type 0 where
  same : choice ≡ choice_from found
  members : HasMembers found

inserted : (found : List SequenceType) (t : SequenceType) → IsOne t → HasMembers found → GoesAlong (with_member (choice_from found) t) (insert_key same_type found t)
inserted found t o h =
    subst (λ (b : Bool). GoesAlong (if b then choice_from found else choice_with (choice_from found) t) (insert_key same_type found t)) (sym (h.are t o)) (by (list_any (same_type t) found))
  where
    by : (b : Bool) → GoesAlong (if b then choice_from found else choice_with (choice_from found) t) (if b then found else found ++ t ∷ [])
    by true = record { same = refl; members = h }
    by false = record { same = sym (choice_from_more found t); members = more_has_members found t o h }

one_inserted : (choice : SequenceType) (found : List SequenceType) (t : SequenceType) → IsOne t → GoesAlong choice found → GoesAlong (with_member choice t) (insert_key same_type found t)
one_inserted choice found t o g =
    subst (λ (c : SequenceType). GoesAlong (with_member c t) (insert_key same_type found t)) (sym g.same) (inserted found t o g.members)

two_inserted : (choice : SequenceType) (found first second : List SequenceType) → GoesAlong choice (with_types (with_types found first) second) → GoesAlong choice (with_types found (first ++ second))
two_inserted choice found first second g = subst (GoesAlong choice) (sym (fold-append (insert_key same_type) found first second)) g

alternatives_inserted : (choice : SequenceType) (found : List SequenceType) (t : SequenceType) → GoesAlong choice found → GoesAlong (with_members choice t) (with_alternatives found t)
alternatives_inserted choice found never g = g
alternatives_inserted choice found nothing g = g
alternatives_inserted choice found (item kind) g = one_inserted choice found (item kind) tt g
alternatives_inserted choice found (both a b) g = one_inserted choice found (both a b) tt g
alternatives_inserted choice found (either a b) g =
    two_inserted (with_members (with_members choice a) b) found (alternatives_of a) (alternatives_of b)
    (alternatives_inserted (with_members choice a) (with_alternatives found a) b (alternatives_inserted choice found a g))
alternatives_inserted choice found (optional a) g = one_inserted choice found (optional a) tt g
alternatives_inserted choice found (star a) g = one_inserted choice found (star a) tt g
alternatives_inserted choice found (plus a) g = one_inserted choice found (plus a) tt g

all_inserted : (choice : SequenceType) (found types : List SequenceType) → GoesAlong choice found → GoesAlong (fold with_members choice types) (fold with_alternatives found types)
all_inserted choice found [] g = g
all_inserted choice found (t ∷ types) g = all_inserted (with_members choice t) (with_alternatives found t) types (alternatives_inserted choice found t g)

-- the choice of all types of a list is that from their alternatives
pub gathered_from : (types : List SequenceType) → gathered types ≡ choice_from (alternatives_among types)
gathered_from types = (all_inserted never [] types (record { same = refl; members = none_has_members })).same

both_inserted : (choice : SequenceType) (found : List SequenceType) (a b : SequenceType)
    → GoesAlong (with_items (with_items choice a) b) (with_types (with_types found (map item (items_of a))) (map item (items_of b)))
    → GoesAlong (with_items (with_items choice a) b) (with_types found (map item (items_of a ++ items_of b)))
both_inserted choice found a b g =
    subst (λ (ts : List SequenceType). GoesAlong (with_items (with_items choice a) b) (with_types found ts)) (sym (map-append item (items_of a) (items_of b)))
    (two_inserted (with_items (with_items choice a) b) found (map item (items_of a)) (map item (items_of b)) g)

items_inserted : (choice : SequenceType) (found : List SequenceType) (t : SequenceType) → GoesAlong choice found → GoesAlong (with_items choice t) (with_types found (map item (items_of t)))
items_inserted choice found never g = g
items_inserted choice found nothing g = g
items_inserted choice found (item kind) g = one_inserted choice found (item kind) tt g
items_inserted choice found (both a b) g = both_inserted choice found a b (items_inserted (with_items choice a) (with_types found (map item (items_of a))) b (items_inserted choice found a g))
items_inserted choice found (either a b) g = both_inserted choice found a b (items_inserted (with_items choice a) (with_types found (map item (items_of a))) b (items_inserted choice found a g))
items_inserted choice found (optional a) g = items_inserted choice found a g
items_inserted choice found (star a) g = items_inserted choice found a g
items_inserted choice found (plus a) g = items_inserted choice found a g

-- the prime type is the choice from the item types
pub prime_from : (t : SequenceType) → prime_of t ≡ choice_from (item_alternatives t)
prime_from t = (items_inserted never [] t (record { same = refl; members = none_has_members })).same
