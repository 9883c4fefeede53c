-- The members of a choice that is made of types are distinct.
use Rattle.std.proofs.Common.{◌≡◌, zero, suc, Bool, true, false, ◌||◌, List, [], ◌∷◌, ◌++◌, refl, sym, subst, arith, fold, if◌then◌else◌}
use Rattle.std.specs.List.{All}
use Rattle.std.proofs.lemmas.List.Elements.{All-append}
use Rattle.std.proofs.lemmas.List.Quantifiers.{all_pairs_push}
use Rattle.gx_types.specs.SequenceType.{SequenceType, never, nothing, item, both, either, optional, star, plus}
use Rattle.gx_types.specs.SameType.{same_type}
use Rattle.gx_types.specs.Choice.{is_member_of, choice_with, with_member, with_members, members_of, AreDistinctTypes}
use Rattle.gx_types.specs.Prime.{with_items}
use Rattle.gx_types.specs.Laws.{MembersAreDistinct}

abbrev Differ : SequenceType → SequenceType → Type 0
Differ t u = same_type t u ≡ false

all_of_one : (P : SequenceType → Type 0) (t : SequenceType) → P t → All P (t ∷ [])
all_of_one P t h zero d l = h
all_of_one P t h (suc k) d l = absurd (omega arith)

one_is_distinct : (t : SequenceType) → AreDistinctTypes (t ∷ [])
one_is_distinct t i j d l m = absurd (omega arith)

left_false : (a b : Bool) → a || b ≡ false → a ≡ false
left_false false b h = refl
left_false true b h = absurd (cc)

right_false : (a b : Bool) → a || b ≡ false → b ≡ false
right_false false b h = h
right_false true b h = absurd (cc)

-- a type that is no member differs from each member
differs_from_each : (m c : SequenceType) → is_member_of m c ≡ false → All (λ t. Differ t m) (members_of c)
differs_from_each m (either a b) h =
    All-append (λ t. Differ t m) (members_of a) (members_of b)
    (differs_from_each m a (left_false (is_member_of m a) (is_member_of m b) h)) (differs_from_each m b (right_false (is_member_of m a) (is_member_of m b) h))
differs_from_each m never h = all_of_one (λ t. Differ t m) never h
differs_from_each m nothing h = all_of_one (λ t. Differ t m) nothing h
differs_from_each m (item kind) h = all_of_one (λ t. Differ t m) (item kind) h
differs_from_each m (both a b) h = all_of_one (λ t. Differ t m) (both a b) h
differs_from_each m (optional a) h = all_of_one (λ t. Differ t m) (optional a) h
differs_from_each m (star a) h = all_of_one (λ t. Differ t m) (star a) h
differs_from_each m (plus a) h = all_of_one (λ t. Differ t m) (plus a) h

abbrev IsDistinctChoice : SequenceType → Type 0
IsDistinctChoice c = AreDistinctTypes (members_of c)

-- one more member, which is no choice itself
pushed_is_distinct : (c m : SequenceType) → is_member_of m c ≡ false → IsDistinctChoice c → AreDistinctTypes (members_of c ++ m ∷ [])
pushed_is_distinct c m e d = all_pairs_push Differ (members_of c) m d (differs_from_each m c e)

or_else_is_distinct : (c m : SequenceType) → members_of m ≡ m ∷ [] → is_member_of m c ≡ false → IsDistinctChoice c → IsDistinctChoice (choice_with c m)
or_else_is_distinct never m l e d = subst AreDistinctTypes (sym l) (one_is_distinct m)
or_else_is_distinct nothing m l e d = subst (λ (ts : List SequenceType). AreDistinctTypes (members_of nothing ++ ts)) (sym l) (pushed_is_distinct nothing m e d)
or_else_is_distinct (item k) m l e d = subst (λ (ts : List SequenceType). AreDistinctTypes (members_of (item k) ++ ts)) (sym l) (pushed_is_distinct (item k) m e d)
or_else_is_distinct (both a b) m l e d = subst (λ (ts : List SequenceType). AreDistinctTypes (members_of (both a b) ++ ts)) (sym l) (pushed_is_distinct (both a b) m e d)
or_else_is_distinct (either a b) m l e d = subst (λ (ts : List SequenceType). AreDistinctTypes (members_of (either a b) ++ ts)) (sym l) (pushed_is_distinct (either a b) m e d)
or_else_is_distinct (optional a) m l e d = subst (λ (ts : List SequenceType). AreDistinctTypes (members_of (optional a) ++ ts)) (sym l) (pushed_is_distinct (optional a) m e d)
or_else_is_distinct (star a) m l e d = subst (λ (ts : List SequenceType). AreDistinctTypes (members_of (star a) ++ ts)) (sym l) (pushed_is_distinct (star a) m e d)
or_else_is_distinct (plus a) m l e d = subst (λ (ts : List SequenceType). AreDistinctTypes (members_of (plus a) ++ ts)) (sym l) (pushed_is_distinct (plus a) m e d)

member_is_distinct : (c m : SequenceType) → members_of m ≡ m ∷ [] → IsDistinctChoice c → IsDistinctChoice (with_member c m)
member_is_distinct c m l d =
    elim (is_member_of m c) as (λ (b : Bool). is_member_of m c ≡ b → IsDistinctChoice (if b then c else choice_with c m)) [ true ↦ λ _. d | false ↦ λ e. or_else_is_distinct c m l e d ] refl

members_are_distinct : (c t : SequenceType) → IsDistinctChoice c → IsDistinctChoice (with_members c t)
members_are_distinct c never d = d
members_are_distinct c nothing d = d
members_are_distinct c (item k) d = member_is_distinct c (item k) refl d
members_are_distinct c (both a b) d = member_is_distinct c (both a b) refl d
members_are_distinct c (either a b) d = members_are_distinct (with_members c a) b (members_are_distinct c a d)
members_are_distinct c (optional a) d = member_is_distinct c (optional a) refl d
members_are_distinct c (star a) d = member_is_distinct c (star a) refl d
members_are_distinct c (plus a) d = member_is_distinct c (plus a) refl d

gathered_is_distinct : (c : SequenceType) (ts : List SequenceType) → IsDistinctChoice c → IsDistinctChoice (fold with_members c ts)
gathered_is_distinct c [] d = d
gathered_is_distinct c (t ∷ ts) d = gathered_is_distinct (with_members c t) ts (members_are_distinct c t d)

items_are_distinct : (c t : SequenceType) → IsDistinctChoice c → IsDistinctChoice (with_items c t)
items_are_distinct c never d = d
items_are_distinct c nothing d = d
items_are_distinct c (item k) d = member_is_distinct c (item k) refl d
items_are_distinct c (both a b) d = items_are_distinct (with_items c a) b (items_are_distinct c a d)
items_are_distinct c (either a b) d = items_are_distinct (with_items c a) b (items_are_distinct c a d)
items_are_distinct c (optional a) d = items_are_distinct c a d
items_are_distinct c (star a) d = items_are_distinct c a d
items_are_distinct c (plus a) d = items_are_distinct c a d

pub all_members_are_distinct : MembersAreDistinct
all_members_are_distinct =
    record { choice = λ ts. gathered_is_distinct never ts (one_is_distinct never); prime = λ t. items_are_distinct never t (one_is_distinct never) }
