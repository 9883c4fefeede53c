-- Comparisons keep their types.
use Rattle.std.proofs.Common.{◌≡◌, Bool, true, false, ◌&&◌, ◌||◌, inl, inr, List, [], ◌∷◌, map, Option, None, Some, Ok, Err, refl, sym, ◌∙◌, ap, subst, if◌then◌else◌}
use Rattle.std.specs.Prelude.{All, IsSome}
use Rattle.std.specs.Option.{option_map}
use Rattle.std.specs.declared.cmp.Ordering.{Ordering}
use Rattle.std.proofs.lemmas.Bool.{and_parts}
use Rattle.std.proofs.lemmas.List.Elements.{All-nil, All-cons, All-append}
use Rattle.gx_base.specs.declared.type_name.Builtin.TheVariants.{UntypedAtomic, Boolean}
use Rattle.gx_base.specs.declared.type_name.TypeName.TheVariants as names
use Rattle.gx_facets.specs.declared.Atomic.{Atomic}
use Rattle.gx_facets.specs.declared.AtomValue.{AtomValue}
use Rattle.gx_facets.specs.declared.AtomValue.TheVariants.{Untyped, Str, Truth, Num}
use Rattle.gx_facets.specs.Value.{order_of}
use Rattle.gx_types.specs.declared.item_type.ItemType.{ItemType}
use Rattle.gx_types.specs.declared.shape.Shape.{Shape}
use Rattle.gx_types.specs.SchemaSet.{SchemaSet}
use Rattle.gx_types.specs.Occurs.{Occurs}
use Rattle.gx_types.specs.SequenceType.{SequenceType, never}
use Rattle.gx_types.specs.SameType.{same_type}
use Rattle.gx_types.specs.TypeRules.{times_of}
use Rattle.gx_types.specs.Laws.{Allows}
use Rattle.gx_types.proofs.PublicLaws.{equal_types_take_the_same}
use Rattle.gx_atomic.specs.declared.comparison.Op.{Op}
use Rattle.gx_atomic.specs.declared.casting.CastError.{CastError}
use Rattle.gx_atomic.specs.Comparison.{Decision, holds, pairs_of, general_comparison}
use Rattle.gx_atomic.specs.Laws.{are_comparable}
use Rattle.gx_atomic.proofs.PublicLaws.{values_are_comparable_by_families, comparisons_fail_in_one_way}
use Rattle.gx_funcs.specs.Function.{truth_atom}
use Rattle.gx_model.specs.Forest.{Forest}
use Rattle.gx_model.specs.Honest.{IsHonest}
use Rattle.gx_model.specs.Item.{Item, atom, Items, atoms}
use Rattle.gx_model.specs.Belongs.{Belongs}
use Rattle.gx_core.specs.declared.expression.BinaryClass.TheVariants as classes
use Rattle.gx_core.specs.Meaning.{binary_meaning}
use Rattle.gx_core.specs.Outcome.{gives, given}
use Rattle.gx_core.specs.Comparing.{truth_value, compared_items, decided, cast_failure, atoms_among, generally_compared}
use Rattle.gx_core.specs.Soundness.{typed_setting, IsOfType, Keeps}
use Rattle.gx_core.proofs.KeptFacts.{fact_at_once}
use Rattle.gx_static.specs.declared.comparison.Family.{Family}
use Rattle.gx_static.specs.declared.comparison.Family.TheVariants as families
use Rattle.gx_static.specs.Rule.{atomic, all_items, is_at_most_one, is_atomic_in, is_of_family, are_of_family, are_of_one_family, value_comparison_type, are_comparable_items, are_comparable_types}
use Rattle.gx_static.specs.Laws.{ValueComparisonKeepsType, GeneralComparisonKeepsType}
use Rattle.gx_static.proofs.ItemLemmas.{EachItem, each_so, the_item, Meets, items_meet}
use Rattle.gx_static.proofs.Families.{either_true, is_value_of, is_untyped, IsAtomSo, IsTakenBy, untyped_item, family_item, family_met}
use Rattle.gx_static.proofs.Keeping.{type_so, pair_keeps}
use Rattle.gx_static.proofs.Singles.{atom_belongs, one_atom_belongs, two_compared}

-- ---- value comparisons

-- values of one family have an order
families_compare : (family : Family) (v w : AtomValue) → is_value_of family v ≡ true → is_value_of family w ≡ true → (order : Ordering) × (order_of v w ≡ Some order)
families_compare families.Number (Num m) (Num n) p q = (_, refl)
families_compare families.Truth (Truth b) (Truth c) p q = (_, refl)
families_compare families.Text (Untyped t) (Untyped u) p q = (_, refl)
families_compare families.Text (Untyped t) (Str u) p q = (_, refl)
families_compare families.Text (Str t) (Untyped u) p q = (_, refl)
families_compare families.Text (Str t) (Str u) p q = (_, refl)
families_compare _ _ _ p q = absurd (cc)

compared_keep : (s : SchemaSet) (forest : Forest) (op : Op) (family : Family) (o : Occurs) (x y : Item) → IsHonest s forest → IsAtomSo (is_value_of family) x → IsAtomSo (is_value_of family) y → Allows o 1
    → Keeps (typed_setting s) forest (times_of (atomic Boolean) o) (compared_items op x y forest)
compared_keep s forest op family o x y honest p q w =
    let c = families_compare family p.value.value q.value.value p.passes q.passes in
    subst (λ (z : Item). Keeps (typed_setting s) forest (times_of (atomic Boolean) o) (compared_items op z y forest)) (sym p.is)
    (subst (λ (z : Item). Keeps (typed_setting s) forest (times_of (atomic Boolean) o) (compared_items op (atom p.value) z forest)) (sym q.is)
    (subst (λ (found : Option Ordering). Keeps (typed_setting s) forest (times_of (atomic Boolean) o) (given (option_map (holds op) found) (λ truth. gives (truth_value truth) forest))) (sym c.1)
    (fact_at_once (typed_setting s) forest (IsOfType s (times_of (atomic Boolean) o)) (truth_value (holds op c.0)) honest
    (atom_belongs s forest (names.Builtin Boolean) o (truth_atom (holds op c.0)) (0, refl) (0, refl) w))))

one_family : (s : SchemaSet) (a b : SequenceType) → are_of_one_family s a b ≡ true → (family : Family) × (are_of_family s a b family ≡ true)
one_family s a b e =
    elim (either_true (are_of_family s a b families.Number || are_of_family s a b families.Text) (are_of_family s a b families.Truth) e) as (λ _. (family : Family) × (are_of_family s a b family ≡ true)) [
      | inl h ↦ elim (either_true (are_of_family s a b families.Number) (are_of_family s a b families.Text) h) as (λ _. (family : Family) × (are_of_family s a b family ≡ true)) [
        | inl h ↦ (families.Number, h)
        | inr h ↦ (families.Text, h)
      ]
      | inr h ↦ (families.Truth, h)
    ]

pub value_comparison_keeps : ValueComparisonKeepsType
value_comparison_keeps op s operator class = pair_keeps s operator (classes.Value op) class (λ a b t forest xs ys e honest h k.
    let r = type_so (is_at_most_one a && is_at_most_one b && are_of_one_family s a b) (value_comparison_type a b) t e in
    let p = and_parts (is_at_most_one a && is_at_most_one b) (are_of_one_family s a b) r.0 in
    let q = and_parts (is_at_most_one a) (is_at_most_one b) p.0 in
    let f = one_family s a b p.1 in
    let both = and_parts (all_items (is_of_family s f.0) a) (all_items (is_of_family s f.0) b) f.1 in
    subst (λ (u : SequenceType). Keeps (typed_setting s) forest u (binary_meaning (classes.Value op) xs ys forest)) r.1
    (two_compared s forest a b (atomic Boolean) (compared_items op) xs ys honest q.0 q.1 h k
    (λ x y o i j w. compared_keep s forest op f.0 o x y honest
    (family_met s forest f.0 x (the_item (Meets s forest (is_of_family s f.0)) xs x i (items_meet s forest (is_of_family s f.0) xs a both.0 h)))
    (family_met s forest f.0 y (the_item (Meets s forest (is_of_family s f.0)) ys y j (items_meet s forest (is_of_family s f.0) ys b both.1 k))) w)))

-- ---- general comparisons

-- two items that are atomic values which can be compared
record AreComparable (x y : Item) : Type 0 where
  first : Atomic
  second : Atomic
  first_is : x ≡ atom first
  second_is : y ≡ atom second
  compare : are_comparable first.value second.value ≡ true

family_comparable : (family : Family) (v w : AtomValue) → is_value_of family v ≡ true → is_value_of family w ≡ true → are_comparable v w ≡ true
family_comparable families.Number (Num m) (Num n) p q = refl
family_comparable families.Truth (Truth b) (Truth c) p q = refl
family_comparable families.Text (Untyped t) (Untyped u) p q = refl
family_comparable families.Text (Untyped t) (Str u) p q = refl
family_comparable families.Text (Str t) (Untyped u) p q = refl
family_comparable families.Text (Str t) (Str u) p q = refl
family_comparable _ _ _ p q = absurd (cc)

untyped_first : (v w : AtomValue) → is_untyped v ≡ true → is_value_of families.Truth w ≡ true → are_comparable v w ≡ true
untyped_first (Untyped t) (Truth b) p q = refl
untyped_first _ _ p q = absurd (cc)

untyped_second : (v w : AtomValue) → is_value_of families.Truth v ≡ true → is_untyped w ≡ true → are_comparable v w ≡ true
untyped_second (Truth b) (Untyped t) p q = refl
untyped_second _ _ p q = absurd (cc)

so_comparable : (f g : AtomValue → Bool) (x y : Item) → ((v w : AtomValue) → f v ≡ true → g w ≡ true → are_comparable v w ≡ true) → IsAtomSo f x → IsAtomSo g y → AreComparable x y
so_comparable f g x y h p q = record { first = p.value; second = q.value; first_is = p.is; second_is = q.is; compare = h p.value.value q.value.value p.passes q.passes }

of_family_comparable : (s : SchemaSet) (forest : Forest) (family : Family) (k l : ItemType) (a b : Shape) (x y : Item) → (is_of_family s family k && is_of_family s family l) ≡ true → IsTakenBy s forest k a x → IsTakenBy s forest l b y → AreComparable x y
of_family_comparable s forest family k l a b x y e t u =
    let both = and_parts (is_of_family s family k) (is_of_family s family l) e in
    so_comparable (is_value_of family) (is_value_of family) x y (family_comparable family) (family_item s forest family x a k both.0 t) (family_item s forest family y b l both.1 u)

untyped_comparable : (s : SchemaSet) (forest : Forest) (k l : ItemType) (a b : Shape) (x y : Item)
    → ((is_atomic_in s UntypedAtomic k && is_of_family s families.Truth l) || (is_of_family s families.Truth k && is_atomic_in s UntypedAtomic l)) ≡ true → IsTakenBy s forest k a x → IsTakenBy s forest l b y → AreComparable x y
untyped_comparable s forest k l a b x y e t u =
    elim (either_true (is_atomic_in s UntypedAtomic k && is_of_family s families.Truth l) (is_of_family s families.Truth k && is_atomic_in s UntypedAtomic l) e) as (λ _. AreComparable x y) [
      | inl h ↦ let both = and_parts (is_atomic_in s UntypedAtomic k) (is_of_family s families.Truth l) h in
          so_comparable is_untyped (is_value_of families.Truth) x y untyped_first (untyped_item s forest x a k both.0 t) (family_item s forest families.Truth y b l both.1 u)
      | inr h ↦ let both = and_parts (is_of_family s families.Truth k) (is_atomic_in s UntypedAtomic l) h in
          so_comparable (is_value_of families.Truth) is_untyped x y untyped_second (family_item s forest families.Truth x a k both.0 t) (untyped_item s forest y b l both.1 u)
    ]

items_comparable : (s : SchemaSet) (forest : Forest) (k l : ItemType) (a b : Shape) (x y : Item) → are_comparable_items s k l ≡ true → IsTakenBy s forest k a x → IsTakenBy s forest l b y → AreComparable x y
items_comparable s forest k l a b x y e t u =
    let f = λ (family : Family). is_of_family s family k && is_of_family s family l in
    let first = is_atomic_in s UntypedAtomic k && is_of_family s families.Truth l in
    let second = is_of_family s families.Truth k && is_atomic_in s UntypedAtomic l in
    elim (either_true (f families.Number || f families.Text || f families.Truth || first) second e) as (λ _. AreComparable x y) [
      | inr h ↦ untyped_comparable s forest k l a b x y (true_second first second h) t u
      | inl h ↦ elim (either_true (f families.Number || f families.Text || f families.Truth) first h) as (λ _. AreComparable x y) [
        | inr h ↦ untyped_comparable s forest k l a b x y (true_first first second h) t u
        | inl h ↦ elim (either_true (f families.Number || f families.Text) (f families.Truth) h) as (λ _. AreComparable x y) [
          | inr h ↦ of_family_comparable s forest families.Truth k l a b x y h t u
          | inl h ↦ elim (either_true (f families.Number) (f families.Text) h) as (λ _. AreComparable x y) [
            | inl h ↦ of_family_comparable s forest families.Number k l a b x y h t u
            | inr h ↦ of_family_comparable s forest families.Text k l a b x y h t u
          ]
        ]
      ]
    ]
  where
    true_first : (p q : Bool) → p ≡ true → (p || q) ≡ true
    true_first true q h = refl
    true_first false q h = absurd (cc)

    true_second : (p q : Bool) → q ≡ true → (p || q) ≡ true
    true_second true q h = refl
    true_second false q h = h

-- all pairs of two values
all_comparable : (s : SchemaSet) (forest : Forest) (t u : SequenceType) (xs ys : Items) → are_comparable_types s t u ≡ true → Belongs s forest xs t → Belongs s forest ys u → EachItem (λ x. EachItem (AreComparable x) ys) xs
all_comparable s forest t u xs ys e b c =
    each_so (Meets s forest (λ k. all_items (are_comparable_items s k) u)) (λ x. EachItem (AreComparable x) ys) xs
    (λ x m. each_so (Meets s forest (are_comparable_items s m.kind)) (AreComparable x) ys
    (λ y n. items_comparable s forest m.kind n.kind m.shape n.shape x y n.passes (m.takes, m.shown, m.fits) (n.takes, n.shown, n.fits))
    (items_meet s forest (are_comparable_items s m.kind) ys u m.passes c))
    (items_meet s forest (λ k. all_items (are_comparable_items s k) u) xs t e b)

record AreAtoms (xs : Items) : Type 0 where
  list : List Atomic
  is : xs ≡ atoms list

firsts : (y : Item) (ys xs : Items) → EachItem (λ x. EachItem (AreComparable x) (y ∷ ys)) xs → AreAtoms xs
firsts y ys [] h = record { list = []; is = refl }
firsts y ys (x ∷ xs) h =
    let rest = firsts y ys xs h.1 in
    record { list = h.0.0.first ∷ rest.list; is = ap (λ (z : Item). z ∷ xs) h.0.0.first_is ∙ ap (λ (zs : Items). atom h.0.0.first ∷ zs) rest.is }

seconds : (x : Item) (ys : Items) → EachItem (AreComparable x) ys → AreAtoms ys
seconds x [] h = record { list = []; is = refl }
seconds x (y ∷ ys) h =
    let rest = seconds x ys h.1 in
    record { list = h.0.second ∷ rest.list; is = ap (λ (z : Item). z ∷ ys) h.0.second_is ∙ ap (λ (zs : Items). atom h.0.second ∷ zs) rest.is }

abbrev ComparePair : Atomic × Atomic → Type 0
ComparePair pair = are_comparable pair.0.value pair.1.value ≡ true

with_each : (a : Atomic) (bs : List Atomic) → EachItem (AreComparable (atom a)) (atoms bs) → All ComparePair (map (λ b. (a, b)) bs)
with_each a [] h = All-nil ComparePair
with_each a (b ∷ bs) h =
    let first : a ≡ h.0.first = cc in
    let second : b ≡ h.0.second = cc in
    All-cons ComparePair (a, b) (map (λ c. (a, c)) bs)
    (subst (λ (c : Atomic). are_comparable c.value b.value ≡ true) (sym first) (subst (λ (c : Atomic). are_comparable h.0.first.value c.value ≡ true) (sym second) h.0.compare)) (with_each a bs h.1)

each_with_each : (as' bs : List Atomic) → EachItem (λ x. EachItem (AreComparable x) (atoms bs)) (atoms as') → All ComparePair (pairs_of as' bs)
each_with_each [] bs h = All-nil ComparePair
each_with_each (a ∷ as') bs h = All-append ComparePair (map (λ b. (a, b)) bs) (pairs_of as' bs) (with_each a bs h.0) (each_with_each as' bs h.1)

pub atoms_are_among : (as' : List Atomic) → atoms_among (atoms as') ≡ Some as'
atoms_are_among [] = refl
atoms_are_among (a ∷ as') = ap (option_map (λ rest. a ∷ rest)) (atoms_are_among as')

truth_belongs : (s : SchemaSet) (forest : Forest) (truth : Bool) → Belongs s forest (truth_value truth) (atomic Boolean)
truth_belongs s forest truth = one_atom_belongs s forest (names.Builtin Boolean) (truth_atom truth) (0, refl) (0, refl)

pub truth_keeps : (s : SchemaSet) (forest : Forest) (truth : Bool) → IsHonest s forest → Keeps (typed_setting s) forest (atomic Boolean) (gives (truth_value truth) forest)
truth_keeps s forest truth honest = fact_at_once (typed_setting s) forest (IsOfType s (atomic Boolean)) (truth_value truth) honest (truth_belongs s forest truth)

decided_keeps : (s : SchemaSet) (forest : Forest) (op : Op) (as' bs : List Atomic) (decision : Decision) → IsHonest s forest → general_comparison op as' bs ≡ decision → IsSome decision → Keeps (typed_setting s) forest (atomic Boolean) (decided decision forest)
decided_keeps s forest op as' bs (Some (Ok truth)) honest e h = truth_keeps s forest truth honest
decided_keeps s forest op as' bs (Some (Err error)) honest e h =
    subst (λ (f : CastError). Keeps (typed_setting s) forest (atomic Boolean) (cast_failure f)) (sym (comparisons_fail_in_one_way op as' bs error e)) tt
decided_keeps s forest op as' bs None honest e h = absurd (cc)

pairs_keep_type : (s : SchemaSet) (forest : Forest) (op : Op) (xs ys : Items) → IsHonest s forest → EachItem (λ x. EachItem (AreComparable x) ys) xs → Keeps (typed_setting s) forest (atomic Boolean) (generally_compared op xs ys forest)
pairs_keep_type s forest op [] ys honest h = truth_keeps s forest false honest
pairs_keep_type s forest op (x ∷ xs) [] honest h = truth_keeps s forest false honest
pairs_keep_type s forest op (x ∷ xs) (y ∷ ys) honest h =
    let p = firsts y ys (x ∷ xs) h in
    let q = seconds x (y ∷ ys) h.0 in
    let pairs = each_with_each p.list q.list (subst (λ (zs : Items). EachItem (λ z. EachItem (AreComparable z) (atoms q.list)) zs) p.is (subst (λ (zs : Items). EachItem (λ z. EachItem (AreComparable z) zs) (x ∷ xs)) q.is h)) in
    let found_p : atoms_among (x ∷ xs) ≡ Some p.list = ap atoms_among p.is ∙ atoms_are_among p.list in
    let found_q : atoms_among (y ∷ ys) ≡ Some q.list = ap atoms_among q.is ∙ atoms_are_among q.list in
    subst (λ (found : Option (List Atomic)). Keeps (typed_setting s) forest (atomic Boolean) (given found (λ as'. given (atoms_among (y ∷ ys)) (λ bs. decided (general_comparison op as' bs) forest)))) (sym found_p)
    (subst (λ (found : Option (List Atomic)). Keeps (typed_setting s) forest (atomic Boolean) (given found (λ bs. decided (general_comparison op p.list bs) forest))) (sym found_q)
    (decided_keeps s forest op p.list q.list (general_comparison op p.list q.list) honest refl (values_are_comparable_by_families.lists op p.list q.list pairs)))

pub general_comparison_keeps : GeneralComparisonKeepsType
general_comparison_keeps op s operator class = pair_keeps s operator (classes.General op) class (λ a b t forest xs ys e honest h k.
    let r = type_so (are_comparable_types s a b) (if same_type never a then never else atomic Boolean) t e in
    subst (λ (u : SequenceType). Keeps (typed_setting s) forest u (generally_compared op xs ys forest)) r.1
    (elim (same_type never a) as (λ (none : Bool). same_type never a ≡ none → Keeps (typed_setting s) forest (if none then never else atomic Boolean) (generally_compared op xs ys forest)) [
      | true ↦ λ e. absurd (equal_types_take_the_same s never a h.seen e h.taken)
      | false ↦ λ _. pairs_keep_type s forest op xs ys honest (all_comparable s forest a b xs ys r.0 h k)
    ] refl))
