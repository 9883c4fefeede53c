-- The item of a number, and the last one, keep their types.
use Rattle.std.proofs.Common.{◌≡◌, ◌≤◌, ◌<◌, min, not, ℕ, zero, suc, ℤ, pos, Bool, true, false, [], ◌∷◌, length, take, drop, refl, sym, arith}
use Rattle.std.proofs.lemmas.List.{append-nil, length-reverse}
use mathlib.Core.List.{reverse_aux}
use Rattle.gx_types.specs.SchemaSet.{SchemaSet}
use Rattle.gx_types.specs.Occurs.{Occurs}
use Rattle.gx_types.specs.Occurrence.{occurrence_of, occurs}
use Rattle.gx_types.specs.SequenceType.{SequenceType}
use Rattle.gx_types.specs.Prime.{prime_of}
use Rattle.gx_types.specs.TypeRules.{times_of}
use Rattle.gx_types.specs.Laws.{Allows}
use Rattle.gx_model.specs.Forest.{Forest}
use Rattle.gx_model.specs.Item.{Item, Items}
use Rattle.gx_model.specs.Belongs.{Belongs}
use Rattle.gx_model.specs.Honest.{IsHonest}
use Rattle.gx_core.specs.Filtering.{counted_so, item_numbered, nth_in}
use Rattle.gx_core.specs.Outcome.{gives}
use Rattle.gx_core.specs.Soundness.{typed_setting, Keeps}
use Rattle.gx_core.specs.declared.operator.Operator.TheVariants as operators
use Rattle.gx_static.specs.Rule.{one_of_type, is_first}
use Rattle.gx_static.specs.Laws.{NthKeepsType, FinalKeepsType}
use Rattle.gx_static.proofs.ItemLemmas.{belongs_within}
use Rattle.gx_static.proofs.Keeping.{ruled, single_keeps, value_keeps}
use Rattle.gx_static.proofs.Loops.{EachBelongs, items_belong, joined_belongs_times}
use Rattle.gx_static.proofs.Orders.{least_is_small}

-- ---- at most one of some items

-- each of those that are picked is one of a type, and there is at most one, and none where there is no item
pub record ArePicked (s : SchemaSet) (forest : Forest) (t : SequenceType) (xs picked : Items) : Type 0 where
  pub each : EachBelongs s forest t picked
  pub one : length picked ≤ 1
  pub fewer : length picked ≤ length xs

nothing_picked : (s : SchemaSet) (forest : Forest) (t : SequenceType) (xs : Items) → ArePicked s forest t xs []
nothing_picked s forest t xs = record { each = tt; one = omega arith; fewer = omega arith }

first_picked : (s : SchemaSet) (forest : Forest) (t : SequenceType) (xs ys : Items) → EachBelongs s forest t ys → length ys ≤ length xs → ArePicked s forest t xs (take 1 ys)
first_picked s forest t xs [] h k = nothing_picked s forest t xs
first_picked s forest t xs (y ∷ ys) h k = record { each = (h.0, tt); one = omega arith; fewer = omega (arith, k) }

each_behind : (s : SchemaSet) (forest : Forest) (t : SequenceType) (n : ℕ) (xs : Items) → EachBelongs s forest t xs → EachBelongs s forest t (drop n xs)
each_behind s forest t zero xs h = h
each_behind s forest t (suc n) [] h = tt
each_behind s forest t (suc n) (x ∷ xs) h = each_behind s forest t n xs h.1

fewer_behind : (n : ℕ) (xs : Items) → length (drop n xs) ≤ length xs
fewer_behind zero xs = omega arith
fewer_behind (suc n) [] = omega arith
fewer_behind (suc n) (x ∷ xs) = omega (arith, fewer_behind n xs)

pub each_turned : (s : SchemaSet) (forest : Forest) (t : SequenceType) (xs ys : Items) → EachBelongs s forest t xs → EachBelongs s forest t ys → EachBelongs s forest t (reverse_aux xs ys)
each_turned s forest t [] ys h k = k
each_turned s forest t (x ∷ xs) ys h k = each_turned s forest t xs (x ∷ ys) h.1 (h.0, k)

each_counted : (s : SchemaSet) (forest : Forest) (t : SequenceType) (backwards : Bool) (xs : Items) → EachBelongs s forest t xs → EachBelongs s forest t (counted_so backwards xs)
each_counted s forest t true xs h = each_turned s forest t xs [] h tt
each_counted s forest t false xs h = h

counted_count : (backwards : Bool) (xs : Items) → length (counted_so backwards xs) ≡ length xs
counted_count true xs = length-reverse xs
counted_count false xs = refl

numbered_picked : (s : SchemaSet) (forest : Forest) (t : SequenceType) (n : ℕ) (xs ys : Items) → EachBelongs s forest t ys → length ys ≤ length xs → ArePicked s forest t xs (item_numbered n ys)
numbered_picked s forest t zero xs ys h k = nothing_picked s forest t xs
numbered_picked s forest t (suc n) xs ys h k = let l = fewer_behind n ys in first_picked s forest t xs (drop n ys) (each_behind s forest t n ys h) (omega (arith, k, l))

-- ---- they belong

one_allowed : (greatest count : ℕ) → (greatest < 2 → count ≤ greatest) → 1 ≤ count → 1 ≤ min 1 greatest
one_allowed zero count h k = absurd (omega (arith, h (omega arith), k))
one_allowed (suc n) count h k = omega arith

-- where one is picked for certain, there is one as soon as there is an item
abbrev pub IsCertain : Bool → (xs picked : Items) → Type 0
IsCertain certain xs picked = certain ≡ true → 1 ≤ length xs → 1 ≤ length picked

pub one_belongs : (s : SchemaSet) (forest : Forest) (t : SequenceType) (o : Occurs) (x : Item) → Allows o 1 → Belongs s forest (x ∷ []) t → Belongs s forest (x ∷ []) (times_of t o)
one_belongs s forest t o x a b = joined_belongs_times s forest t o 1 (x ∷ []) b.seen a b.shaped (record { parts = b.seen ∷ []; joined = sym (append-nil b.seen); each = (b.taken, tt); count = refl })

none_belongs : (s : SchemaSet) (forest : Forest) (t : SequenceType) (o : Occurs) → Allows o 0 → Belongs s forest [] (times_of t o)
none_belongs s forest t o a = joined_belongs_times s forest t o 0 [] [] a tt (record { parts = []; joined = refl; each = tt; count = refl })

pub picked_belongs : (s : SchemaSet) (forest : Forest) (t : SequenceType) (certain : Bool) (xs picked : Items) → Allows (occurrence_of t) (length xs) → ArePicked s forest (prime_of t) xs picked → IsCertain certain xs picked
    → Belongs s forest picked (one_of_type certain t)
picked_belongs s forest t true [] [] a p c = none_belongs s forest (prime_of t) (occurs (occurrence_of t).least (min 1 (occurrence_of t).greatest)) (record { least = a.least; greatest = λ g. omega arith })
picked_belongs s forest t true (x ∷ xs) [] a p c = absurd (omega (arith, c refl (omega arith)))
picked_belongs s forest t false xs [] a p c = none_belongs s forest (prime_of t) (occurs 0 (min 1 (occurrence_of t).greatest)) (record { least = omega arith; greatest = λ g. omega arith })
picked_belongs s forest t true xs (y ∷ []) a p c =
    one_belongs s forest (prime_of t) (occurs (occurrence_of t).least (min 1 (occurrence_of t).greatest)) y (record { least = least_is_small t; greatest = λ h. one_allowed (occurrence_of t).greatest (length xs) a.greatest p.fewer }) p.each.0
picked_belongs s forest t false xs (y ∷ []) a p c =
    one_belongs s forest (prime_of t) (occurs 0 (min 1 (occurrence_of t).greatest)) y (record { least = omega arith; greatest = λ h. one_allowed (occurrence_of t).greatest (length xs) a.greatest p.fewer }) p.each.0
picked_belongs s forest t certain xs (y ∷ z ∷ picked) a p c = absurd (omega (arith, p.one))

picked_keeps : (s : SchemaSet) (forest : Forest) (a t : SequenceType) (certain : Bool) (xs picked : Items) → one_of_type certain a ≡ t → IsHonest s forest → Belongs s forest xs a
    → ArePicked s forest (prime_of a) xs picked → IsCertain certain xs picked → Keeps (typed_setting s) forest t (gives picked forest)
picked_keeps s forest a t certain xs picked e honest b p c =
    value_keeps s (one_of_type certain a) t forest picked e honest (picked_belongs s forest a certain xs picked (belongs_within s forest a xs b) p c)

-- ---- the laws

-- where the first is asked for, there is one
first_is_certain : (number : ℤ) (xs ys : Items) → length ys ≡ length xs → IsCertain (is_first number) xs (nth_in number ys)
first_is_certain (pos zero) xs ys e f h = absurd (cc)
first_is_certain (pos (suc zero)) xs [] e f h = omega (arith, e, h)
first_is_certain (pos (suc zero)) xs (y ∷ ys) e f h = omega arith
first_is_certain (pos (suc (suc n))) xs ys e f h = absurd (cc)
first_is_certain _ xs ys e f h = absurd (cc)

nth_picked : (s : SchemaSet) (forest : Forest) (t : SequenceType) (number : ℤ) (xs ys : Items) → EachBelongs s forest t ys → length ys ≤ length xs → ArePicked s forest t xs (nth_in number ys)
nth_picked s forest t (pos n) xs ys h k = numbered_picked s forest t n xs ys h k
nth_picked s forest t _ xs ys h k = nothing_picked s forest t xs

pub nth_keeps : NthKeepsType
nth_keeps s number backwards =
    single_keeps s (operators.Nth number backwards)
    (λ a t forest xs e honest b.
    let ys : Items = counted_so backwards xs in
    let same = counted_count backwards xs in
    picked_keeps s forest a t (is_first number) xs (nth_in number ys) (ruled (one_of_type (is_first number) a) t e) honest b
    (nth_picked s forest (prime_of a) number xs ys (each_counted s forest (prime_of a) backwards xs (items_belong s forest a xs b)) (omega (arith, same))) (first_is_certain number xs ys same))
    (λ t e. cc) (λ a b t ps e. cc)

some_first : (xs ys : Items) → length ys ≡ length xs → IsCertain true xs (take 1 ys)
some_first xs [] e f h = omega (arith, e, h)
some_first xs (y ∷ ys) e f h = omega arith

pub final_keeps : FinalKeepsType
final_keeps s backwards =
    single_keeps s (operators.Final backwards)
    (λ a t forest xs e honest b.
    let ys : Items = counted_so (not backwards) xs in
    let same = counted_count (not backwards) xs in
    picked_keeps s forest a t true xs (take 1 ys) (ruled (one_of_type true a) t e) honest b
    (first_picked s forest (prime_of a) xs ys (each_counted s forest (prime_of a) (not backwards) xs (items_belong s forest a xs b)) (omega (arith, same))) (some_first xs ys same))
    (λ t e. cc) (λ a b t ps e. cc)
