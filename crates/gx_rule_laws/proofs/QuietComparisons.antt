-- General comparisons of items that are of one family in pairs: none of them has to cast.
use Rattle.std.proofs.Common.{◌≡◌, Bool, true, false, ◌||◌, ◌&&◌, List, [], ◌∷◌, ◌++◌, map, Option, None, Some, Ok, Err, refl, sym, ◌∙◌, ap, subst, if◌then◌else◌}
use Rattle.std.specs.Prelude.{find, unwrap_or, option_map}
use Rattle.gx_facets.specs.declared.Atomic.{Atomic}
use Rattle.gx_facets.specs.declared.AtomValue.{AtomValue}
use Rattle.gx_facets.specs.declared.AtomValue.TheVariants as values
use Rattle.gx_types.specs.declared.item_type.ItemType.{ItemType}
use Rattle.gx_types.specs.SchemaSet.{SchemaSet}
use Rattle.gx_types.specs.SequenceType.{SequenceType}
use Rattle.gx_atomic.specs.declared.comparison.Op.{Op}
use Rattle.gx_atomic.specs.Comparison.{Decision, value_comparison, pair_comparison, pairs_of, pair_decision, is_decisive, first_decision, general_comparison}
use Rattle.gx_model.specs.Belongs.{Belongs}
use Rattle.gx_model.specs.Forest.{Forest}
use Rattle.gx_model.specs.Item.{Item, atom, Items, atoms}
use Rattle.gx_core.specs.Comparing.{decided, atoms_among, generally_compared}
use Rattle.gx_core.specs.Outcome.{given}
use Rattle.gx_static.specs.declared.comparison.Family.{Family}
use Rattle.gx_static.specs.declared.comparison.Family.TheVariants as families
use Rattle.gx_static.specs.Rule.{all_items, is_of_family}
use Rattle.gx_model.proofs.ListLemmas.{map_appended}
use Rattle.gx_static.proofs.Comparisons.{atoms_are_among}
use Rattle.gx_static.proofs.Families.{is_value_of, family_item}
use Rattle.gx_static.proofs.ItemLemmas.{EachItem, IsAtom, Meets, items_meet}
use Rattle.std.proofs.lemmas.Bool.{and_parts}
use Rattle.gx_rules.specs.Guards.{compare_quietly, are_compared_quietly}
use Rattle.gx_rule_laws.proofs.QuietOperators.{IsQuiet}

-- ---- pairs

-- a decision is no error of a cast
abbrev IsNoCastError : Decision → Type 0
IsNoCastError None = Unit {0}
IsNoCastError (Some (Ok truth)) = Unit {0}
IsNoCastError (Some (Err error)) = ⊥

compared_no_error : (op : Op) (a b : AtomValue) → IsNoCastError (option_map (λ truth. Ok truth) (value_comparison op a b))
compared_no_error op a b = by_found (value_comparison op a b)
  where
    by_found : (found : Option Bool) → IsNoCastError (option_map (λ truth. Ok truth) found)
    by_found None = tt
    by_found (Some truth) = tt

-- values of one family are compared as they are
family_no_error : (op : Op) (family : Family) (a b : AtomValue) → is_value_of family a ≡ true → is_value_of family b ≡ true
    → IsNoCastError (pair_comparison op a b)
family_no_error op families.Number (values.Num m) (values.Num n) e f = compared_no_error op (values.Num m) (values.Num n)
family_no_error op families.Text (values.Untyped t) (values.Untyped u) e f = compared_no_error op (values.Untyped t) (values.Untyped u)
family_no_error op families.Text (values.Untyped t) (values.Str u) e f = compared_no_error op (values.Untyped t) (values.Str u)
family_no_error op families.Text (values.Str t) (values.Untyped u) e f = compared_no_error op (values.Str t) (values.Untyped u)
family_no_error op families.Text (values.Str t) (values.Str u) e f = compared_no_error op (values.Str t) (values.Str u)
family_no_error op families.Truth (values.Truth a) (values.Truth b) e f = compared_no_error op (values.Truth a) (values.Truth b)
family_no_error op _ _ _ e f = absurd (cc)

-- ---- items

-- two items are atomic values whose comparison is no error
record ComparesQuietly (op : Op) (x y : Item) : Type 0 where
  left : Atomic
  right : Atomic
  is_left : x ≡ atom left
  is_right : y ≡ atom right
  no_error : IsNoCastError (pair_comparison op left.value right.value)

by_family : (s : SchemaSet) (forest : Forest) (op : Op) (family : Family) (x y : Item) (test other : ItemType → Bool) (first : Meets s forest test x)
    (second : Meets s forest other y) → (is_of_family s family first.kind && is_of_family s family second.kind) ≡ true → ComparesQuietly op x y
by_family s forest op family x y test other first second e =
    let both = and_parts (is_of_family s family first.kind) (is_of_family s family second.kind) e in
    let a = family_item s forest family x first.shape first.kind both.0 (first.takes, first.shown, first.fits) in
    let b = family_item s forest family y second.shape second.kind both.1 (second.takes, second.shown, second.fits) in
    record { left = a.value; right = b.value; is_left = a.is; is_right = b.is; no_error = family_no_error op family a.value.value b.value.value a.passes b.passes }

items_compare : (s : SchemaSet) (forest : Forest) (op : Op) (x y : Item) (test : ItemType → Bool) (first : Meets s forest test x)
    → Meets s forest (compare_quietly s first.kind) y → ComparesQuietly op x y
items_compare s forest op x y test first second =
    by_families (is_of_family s families.Number first.kind && is_of_family s families.Number second.kind)
    (is_of_family s families.Text first.kind && is_of_family s families.Text second.kind)
    (is_of_family s families.Truth first.kind && is_of_family s families.Truth second.kind)
    (by_family s forest op families.Number x y test (compare_quietly s first.kind) first second)
    (by_family s forest op families.Text x y test (compare_quietly s first.kind) first second)
    (by_family s forest op families.Truth x y test (compare_quietly s first.kind) first second) second.passes
  where
    by_families : (a b c : Bool) → (a ≡ true → ComparesQuietly op x y) → (b ≡ true → ComparesQuietly op x y) → (c ≡ true → ComparesQuietly op x y)
        → ((a || b) || c) ≡ true → ComparesQuietly op x y
    by_families true b c f g h e = f refl
    by_families false true c f g h e = g refl
    by_families false false c f g h e = h e

all_compare : (s : SchemaSet) (forest : Forest) (op : Op) (x : Item) (test : ItemType → Bool) (first : Meets s forest test x) (ys : Items)
    → EachItem (Meets s forest (compare_quietly s first.kind)) ys → EachItem (ComparesQuietly op x) ys
all_compare s forest op x test first [] h = tt
all_compare s forest op x test first (y ∷ ys) h = (items_compare s forest op x y test first h.0, all_compare s forest op x test first ys h.1)

-- each item of a value with each of another
abbrev AllCompareQuietly : Op → Items → Items → Type 0
AllCompareQuietly op xs ys = EachItem (λ x. EachItem (ComparesQuietly op x) ys) xs

all_pairs : (s : SchemaSet) (forest : Forest) (op : Op) (right : SequenceType) (xs ys : Items)
    → EachItem (Meets s forest (λ a. all_items (compare_quietly s a) right)) xs → Belongs s forest ys right → AllCompareQuietly op xs ys
all_pairs s forest op right [] ys h b = tt
all_pairs s forest op right (x ∷ xs) ys h b = (
  all_compare s forest op x (λ a. all_items (compare_quietly s a) right) h.0 ys (items_meet s forest (compare_quietly s h.0.kind) ys right h.0.passes b),
  all_pairs s forest op right xs ys h.1 b,
)

-- they are atomic values
atoms_of : (xs : Items) → EachItem IsAtom xs → (values : List Atomic) × (xs ≡ atoms values)
atoms_of [] h = ([], refl)
atoms_of (x ∷ xs) h =
    let rest = atoms_of xs h.1 in
    (h.0.0 ∷ rest.0, ap (λ (y : Item). y ∷ xs) h.0.1 ∙ ap (λ (ys : Items). atom h.0.0 ∷ ys) rest.1)

left_atoms : (op : Op) (xs : Items) (y : Item) (ys : Items) → AllCompareQuietly op xs (y ∷ ys) → EachItem IsAtom xs
left_atoms op [] y ys h = tt
left_atoms op (x ∷ xs) y ys h = ((h.0.0.left, h.0.0.is_left), left_atoms op xs y ys h.1)

right_atoms : (op : Op) (x : Item) (ys : Items) → EachItem (ComparesQuietly op x) ys → EachItem IsAtom ys
right_atoms op x [] h = tt
right_atoms op x (y ∷ ys) h = ((h.0.right, h.0.is_right), right_atoms op x ys h.1)

-- ---- decisions

abbrev AllNoErrors : List Decision → Type 0
AllNoErrors [] = Unit {0}
AllNoErrors (d ∷ ds) = IsNoCastError d × AllNoErrors ds

first_no_error : (ds : List Decision) → AllNoErrors ds → IsNoCastError (first_decision ds)
first_no_error [] h = tt
first_no_error (d ∷ ds) h = by_decisive (is_decisive d) (first_no_error ds h.1)
  where
    by_decisive : (b : Bool) → IsNoCastError (first_decision ds)
        → IsNoCastError (unwrap_or (if b then Some d else find is_decisive ds) (Some (Ok false)))
    by_decisive true rest = h.0
    by_decisive false rest = rest

joined_no_errors : (ds es : List Decision) → AllNoErrors ds → AllNoErrors es → AllNoErrors (ds ++ es)
joined_no_errors [] es h g = g
joined_no_errors (d ∷ ds) es h g = (h.0, joined_no_errors ds es h.1 g)

pair_no_error : (op : Op) (a b : Atomic) → ComparesQuietly op (atom a) (atom b) → IsNoCastError (pair_comparison op a.value b.value)
pair_no_error op a b c =
    let first : c.left ≡ a = atom_is c.left a (sym c.is_left) in
    let second : c.right ≡ b = atom_is c.right b (sym c.is_right) in
    subst (λ (v : Atomic). IsNoCastError (pair_comparison op v.value b.value)) first
    (subst (λ (w : Atomic). IsNoCastError (pair_comparison op c.left.value w.value)) second c.no_error)
  where
    atom_is : (v w : Atomic) → atom v ≡ atom w → v ≡ w
    atom_is v w e = cc

row_no_errors : (op : Op) (a : Atomic) (bs : List Atomic) → EachItem (ComparesQuietly op (atom a)) (atoms bs)
    → AllNoErrors (map (pair_decision op) (map (λ b. (a, b)) bs))
row_no_errors op a [] h = tt
row_no_errors op a (b ∷ bs) h = (pair_no_error op a b h.0, row_no_errors op a bs h.1)

pairs_no_errors : (op : Op) (as' bs : List Atomic) → AllCompareQuietly op (atoms as') (atoms bs) → AllNoErrors (map (pair_decision op) (pairs_of as' bs))
pairs_no_errors op [] bs h = tt
pairs_no_errors op (a ∷ as') bs h =
    subst AllNoErrors (sym (map_appended (pair_decision op) (map (λ b. (a, b)) bs) (pairs_of as' bs)))
    (joined_no_errors (map (pair_decision op) (map (λ b. (a, b)) bs)) (map (pair_decision op) (pairs_of as' bs))
    (row_no_errors op a bs h.0) (pairs_no_errors op as' bs h.1))

decided_quiet : (decision : Decision) (forest : Forest) → IsNoCastError decision → IsQuiet forest (decided decision forest)
decided_quiet None forest h = tt
decided_quiet (Some (Ok truth)) forest h = refl
decided_quiet (Some (Err error)) forest h = absurd h

pub quiet_general : (s : SchemaSet) (forest : Forest) (op : Op) (left right : SequenceType) (xs ys : Items) → are_compared_quietly s left right ≡ true
    → Belongs s forest xs left → Belongs s forest ys right → IsQuiet forest (generally_compared op xs ys forest)
quiet_general s forest op left right [] ys e b c = refl
quiet_general s forest op left right (x ∷ xs) [] e b c = refl
quiet_general s forest op left right (x ∷ xs) (y ∷ ys) e b c =
    let pairs = all_pairs s forest op right (x ∷ xs) (y ∷ ys) (items_meet s forest (λ a. all_items (compare_quietly s a) right) (x ∷ xs) left e b) c in
    let lefts = atoms_of (x ∷ xs) (left_atoms op (x ∷ xs) y ys pairs) in
    let rights = atoms_of (y ∷ ys) (right_atoms op x (y ∷ ys) pairs.0) in
    subst (λ (found : Option (List Atomic)). IsQuiet forest (given found (λ as'. given (atoms_among (y ∷ ys)) (λ bs. decided (general_comparison op as' bs) forest))))
    (sym (ap atoms_among lefts.1 ∙ atoms_are_among lefts.0))
    (subst (λ (found : Option (List Atomic)). IsQuiet forest (given found (λ bs. decided (general_comparison op lefts.0 bs) forest)))
    (sym (ap atoms_among rights.1 ∙ atoms_are_among rights.0))
    (decided_quiet (general_comparison op lefts.0 rights.0) forest
    (first_no_error (map (pair_decision op) (pairs_of lefts.0 rights.0))
    (pairs_no_errors op lefts.0 rights.0
    (subst (λ (zs : Items). AllCompareQuietly op zs (atoms rights.0)) lefts.1 (subst (AllCompareQuietly op (x ∷ xs)) rights.1 pairs))))))
