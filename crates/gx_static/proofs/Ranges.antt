-- Ranges keep their types.
use Rattle.std.proofs.Common.{◌≡◌, ℕ, ℤ, Bool, true, false, ◌&&◌, List, [], ◌∷◌, map, nat_le, Option, Some, refl, sym, subst, arith, if◌then◌else◌}
use Rattle.std.specs.Prelude.{◌+ℤ◌, pos}
use Rattle.std.specs.List.{range_with_len}
use Rattle.std.proofs.lemmas.Bool.{and_parts}
use Rattle.gx_base.specs.declared.code.Code.TheVariants.{GLXD0002}
use Rattle.gx_base.specs.declared.limits.TheConstants.{RANGE_ITEMS}
use Rattle.gx_base.specs.declared.type_name.Builtin.TheVariants.{Integer}
use Rattle.gx_base.specs.declared.type_name.TypeName.{TypeName}
use Rattle.gx_base.specs.declared.type_name.TypeName.TheVariants as names
use Rattle.gx_num.specs.declared.Number.TheVariants.{Int, Dec}
use Rattle.gx_facets.specs.declared.AtomValue.{AtomValue}
use Rattle.gx_facets.specs.declared.AtomValue.TheVariants as values
use Rattle.gx_types.specs.declared.shape.Shape.{Shape}
use Rattle.gx_types.specs.declared.shape.Shape.TheVariants as shapes
use Rattle.gx_types.specs.SchemaSet.{SchemaSet}
use Rattle.gx_types.specs.Derivation.{DerivesFrom}
use Rattle.gx_types.specs.Occurrence.{occurs}
use Rattle.gx_types.specs.SequenceType.{SequenceType, star}
use Rattle.gx_types.specs.Takes.{Takes, Each, all_joined}
use Rattle.gx_types.proofs.PublicLaws.{times_takes_joined}
use Rattle.gx_model.specs.Forest.{Forest}
use Rattle.gx_model.specs.Honest.{IsHonest}
use Rattle.gx_model.specs.Item.{Item, Items, atoms}
use Rattle.gx_model.specs.Belongs.{ValueFits, HaveShapes, Belongs}
use Rattle.gx_core.specs.declared.expression.BinaryClass.TheVariants as classes
use Rattle.gx_funcs.specs.Numbers.{number_atom}
use Rattle.gx_core.specs.Meaning.{binary_meaning}
use Rattle.gx_core.specs.Outcome.{gives, raises, given}
use Rattle.gx_funcs.specs.Values.{integer_of_value}
use Rattle.gx_core.specs.Ranging.{integer_of_item, range_length, integers_from, range_between, range_of_items}
use Rattle.gx_core.specs.Soundness.{typed_setting, IsOfType, Keeps}
use Rattle.gx_core.proofs.KeptFacts.{fact_at_once}
use Rattle.gx_static.specs.Rule.{atomic, is_at_most_one, is_all_in, is_optional_in}
use Rattle.gx_static.specs.Laws.{RangeKeepsType}
use Rattle.gx_static.proofs.ItemLemmas.{IsAtomIn, items_are_in, the_item}
use Rattle.gx_static.proofs.LiteralLemmas.{string_is_no_number, boolean_is_no_number, untyped_is_no_number, from_integer_is_a_number}
use Rattle.gx_static.proofs.Keeping.{type_so, pair_keeps}
use Rattle.gx_static.proofs.Singles.{pairs_keep}

-- an item whose type is derived from xs:integer is an integer
value_is_integer : (s : SchemaSet) (v : AtomValue) (kind : TypeName) → ValueFits s v kind → DerivesFrom s kind (names.Builtin Integer) → (i : ℤ) × (integer_of_value v ≡ Some i)
value_is_integer s (values.Untyped t) kind f d = absurd (untyped_is_no_number s kind f (from_integer_is_a_number s kind d))
value_is_integer s (values.Str t) kind f d = absurd (string_is_no_number s kind f (from_integer_is_a_number s kind d))
value_is_integer s (values.Truth b) kind f d = absurd (boolean_is_no_number s kind f (from_integer_is_a_number s kind d))
value_is_integer s (values.Num (Int i)) kind f d = (i, refl)
value_is_integer s (values.Num (Dec u)) kind f d = absurd (f.1 d)

abbrev pub IsInteger : Item → Type 0
IsInteger x = (i : ℤ) × (integer_of_item x ≡ Some i)

pub integer_of : (s : SchemaSet) (x : Item) → IsAtomIn s Integer x → IsInteger x
integer_of s x a = subst IsInteger (sym a.is) (value_is_integer s a.value.value a.value.kind a.fits a.derived)

the_integer : (s : SchemaSet) (forest : Forest) (t : SequenceType) (xs : Items) (x : Item) → is_all_in s Integer t ≡ true → Belongs s forest xs t → xs ≡ x ∷ [] → IsInteger x
the_integer s forest t xs x e b i = integer_of s x (the_item (IsAtomIn s Integer) xs x i (items_are_in s forest Integer xs t e b))

-- integers belong to xs:integer*
abbrev integer_shape : Shape
integer_shape = shapes.Atom (names.Builtin Integer)

abbrev seen_of : List ℕ → List (List Shape)
seen_of [] = []
seen_of (k ∷ ks) = (integer_shape ∷ []) ∷ seen_of ks

each_seen : (s : SchemaSet) (ks : List ℕ) → Each (Takes s (atomic Integer)) (seen_of ks)
each_seen s [] = tt
each_seen s (k ∷ ks) = ((integer_shape, refl, (0, refl)), each_seen s ks)

have_seen : (s : SchemaSet) (forest : Forest) (first : ℤ) (ks : List ℕ) → HaveShapes s forest (atoms (map (λ k. number_atom (Int (first +ℤ pos k))) ks)) (all_joined (seen_of ks))
have_seen s forest first [] = tt
have_seen s forest first (k ∷ ks) = (refl, (0, refl), have_seen s forest first ks)

integers_belong : (s : SchemaSet) (forest : Forest) (first : ℤ) (ks : List ℕ) → Belongs s forest (atoms (map (λ k. number_atom (Int (first +ℤ pos k))) ks)) (star (atomic Integer))
integers_belong s forest first ks = record {
  seen = all_joined (seen_of ks);
  shaped = have_seen s forest first ks;
  taken = times_takes_joined s (atomic Integer) (occurs 0 2) (seen_of ks) (each_seen s ks) (record { least = omega arith; greatest = λ small. absurd (omega (arith, small)) });
}

between_keeps : (s : SchemaSet) (forest : Forest) (first last : ℤ) → IsHonest s forest → Keeps (typed_setting s) forest (star (atomic Integer)) (range_between first last forest)
between_keeps s forest first last honest =
    elim (nat_le (range_length first last) RANGE_ITEMS) as (λ (few : Bool). Keeps (typed_setting s) forest (star (atomic Integer)) (if few then gives (atoms (integers_from first (range_length first last))) forest else raises GLXD0002)) [
      | true ↦ fact_at_once (typed_setting s) forest (IsOfType s (star (atomic Integer))) (atoms (integers_from first (range_length first last))) honest (integers_belong s forest first (range_with_len 0 (range_length first last)))
      | false ↦ tt
    ]

items_keep : (s : SchemaSet) (forest : Forest) (x y : Item) → IsHonest s forest → IsInteger x → IsInteger y → Keeps (typed_setting s) forest (star (atomic Integer)) (range_of_items x y forest)
items_keep s forest x y honest p q =
    subst (λ (m : Option ℤ). Keeps (typed_setting s) forest (star (atomic Integer)) (given m (λ first. given (integer_of_item y) (λ last. range_between first last forest)))) (sym p.1)
    (subst (λ (n : Option ℤ). Keeps (typed_setting s) forest (star (atomic Integer)) (given n (λ last. range_between p.0 last forest))) (sym q.1) (between_keeps s forest p.0 q.0 honest))

pub range_keeps : RangeKeepsType
range_keeps s operator class = pair_keeps s operator classes.Range class (λ a b t forest xs ys e honest h k.
    let r = type_so (is_optional_in s Integer a && is_optional_in s Integer b) (star (atomic Integer)) t e in
    let both = and_parts (is_optional_in s Integer a) (is_optional_in s Integer b) r.0 in
    let p = and_parts (is_at_most_one a) (is_all_in s Integer a) both.0 in
    let q = and_parts (is_at_most_one b) (is_all_in s Integer b) both.1 in
    subst (λ (u : SequenceType). Keeps (typed_setting s) forest u (binary_meaning classes.Range xs ys forest)) r.1
    (pairs_keep s forest a b (star (atomic Integer)) range_of_items xs ys honest p.0 q.0 h k (integers_belong s forest (pos 0) [])
    (λ x y i j. items_keep s forest x y honest (the_integer s forest a xs x p.1 h i) (the_integer s forest b ys y q.1 k j))))
