-- Items of the families of values that compare with one another.
use Rattle.std.proofs.Common.{◌≡◌, Bool, true, false, ◌||◌, ◌⊎◌, inl, inr, Some, refl}
use Rattle.gx_base.specs.declared.type_name.Builtin.{Builtin}
use Rattle.gx_base.specs.declared.type_name.Builtin.TheVariants.{UntypedAtomic, Str, Boolean, Decimal}
use Rattle.gx_base.specs.declared.type_name.TypeName.{TypeName}
use Rattle.gx_base.specs.declared.type_name.TypeName.TheVariants as names
use Rattle.gx_facets.specs.declared.Atomic.{Atomic}
use Rattle.gx_facets.specs.declared.AtomValue.{AtomValue}
use Rattle.gx_facets.specs.declared.AtomValue.TheVariants as values
use Rattle.gx_types.specs.declared.item_type.ItemType.{ItemType}
use Rattle.gx_types.specs.declared.shape.Shape.{Shape}
use Rattle.gx_types.specs.SchemaSet.{SchemaSet}
use Rattle.gx_types.specs.Derivation.{DerivesFrom}
use Rattle.gx_types.specs.ItemTakes.{ItemTakes}
use Rattle.gx_model.specs.Forest.{Forest}
use Rattle.gx_model.specs.Item.{Item, atom}
use Rattle.gx_model.specs.Belongs.{ValueFits, item_shape, ItemFits}
use Rattle.gx_static.specs.declared.comparison.Family.{Family}
use Rattle.gx_static.specs.declared.comparison.Family.TheVariants as families
use Rattle.gx_static.specs.Rule.{is_atomic_in, is_of_family}
use Rattle.gx_static.proofs.ItemLemmas.{Meets, atom_in}
use Rattle.gx_static.proofs.LiteralLemmas.{string_is_no_number, string_is_no_boolean, boolean_is_no_number, untyped_is_no_number, untyped_is_no_boolean, from_untyped_is_no_string, from_untyped_is_no_boolean, from_untyped_is_no_number, integer_is_a_number}

pub either_true : (p q : Bool) → (p || q) ≡ true → (p ≡ true) ⊎ (q ≡ true)
either_true true q e = inl refl
either_true false q e = inr e

-- the value is of the family
abbrev pub is_value_of : Family → AtomValue → Bool
is_value_of families.Number (values.Num n) = true
is_value_of families.Text (values.Untyped t) = true
is_value_of families.Text (values.Str t) = true
is_value_of families.Truth (values.Truth b) = true
is_value_of _ _ = false

abbrev pub is_untyped : AtomValue → Bool
is_untyped (values.Untyped t) = true
is_untyped _ = false

number_value : (s : SchemaSet) (v : AtomValue) (kind : TypeName) → ValueFits s v kind → DerivesFrom s kind (names.Builtin Decimal) → is_value_of families.Number v ≡ true
number_value s (values.Untyped t) kind f d = absurd (untyped_is_no_number s kind f d)
number_value s (values.Str t) kind f d = absurd (string_is_no_number s kind f d)
number_value s (values.Truth b) kind f d = absurd (boolean_is_no_number s kind f d)
number_value s (values.Num n) kind f d = refl

string_value : (s : SchemaSet) (v : AtomValue) (kind : TypeName) → ValueFits s v kind → DerivesFrom s kind (names.Builtin Str) → is_value_of families.Text v ≡ true
string_value s (values.Untyped t) kind f d = refl
string_value s (values.Str t) kind f d = refl
string_value s (values.Truth b) kind f d = absurd (string_is_no_boolean s kind d f)
string_value s (values.Num n) kind f d = absurd (string_is_no_number s kind d (integer_is_a_number s n kind f))

untyped_value : (s : SchemaSet) (v : AtomValue) (kind : TypeName) → ValueFits s v kind → DerivesFrom s kind (names.Builtin UntypedAtomic) → is_untyped v ≡ true
untyped_value s (values.Untyped t) kind f d = refl
untyped_value s (values.Str t) kind f d = absurd (from_untyped_is_no_string s kind d f)
untyped_value s (values.Truth b) kind f d = absurd (from_untyped_is_no_boolean s kind d f)
untyped_value s (values.Num n) kind f d = absurd (from_untyped_is_no_number s kind d (integer_is_a_number s n kind f))

boolean_value : (s : SchemaSet) (v : AtomValue) (kind : TypeName) → ValueFits s v kind → DerivesFrom s kind (names.Builtin Boolean) → is_value_of families.Truth v ≡ true
boolean_value s (values.Untyped t) kind f d = absurd (untyped_is_no_boolean s kind f d)
boolean_value s (values.Str t) kind f d = absurd (string_is_no_boolean s kind f d)
boolean_value s (values.Truth b) kind f d = refl
boolean_value s (values.Num n) kind f d = absurd (boolean_is_no_number s kind d (integer_is_a_number s n kind f))

untyped_is_text : (v : AtomValue) → is_untyped v ≡ true → is_value_of families.Text v ≡ true
untyped_is_text (values.Untyped t) e = refl
untyped_is_text (values.Str t) e = absurd (cc)
untyped_is_text (values.Truth b) e = absurd (cc)
untyped_is_text (values.Num n) e = absurd (cc)

-- an item that is an atomic value which passes a test
pub record IsAtomSo (test : AtomValue → Bool) (x : Item) : Type 0 where
  pub value : Atomic
  pub is : x ≡ atom value
  pub passes : test value.value ≡ true

-- an item that an item type takes
abbrev pub IsTakenBy : SchemaSet → Forest → ItemType → Shape → Item → Type 0
IsTakenBy s forest kind shape x = ItemTakes s kind shape × (item_shape forest x ≡ Some shape) × ItemFits s x

so_in : (s : SchemaSet) (forest : Forest) (b : Builtin) (test : AtomValue → Bool) (x : Item) (shape : Shape) (kind : ItemType) → ((v : AtomValue) (kind : TypeName) → ValueFits s v kind → DerivesFrom s kind (names.Builtin b) → test v ≡ true)
    → is_atomic_in s b kind ≡ true → IsTakenBy s forest kind shape x → IsAtomSo test x
so_in s forest b test x shape kind h e t =
    let a = atom_in s forest b x shape kind e t.0 t.1 t.2 in record { value = a.value; is = a.is; passes = h a.value.value a.value.kind a.fits a.derived }

pub untyped_item : (s : SchemaSet) (forest : Forest) (x : Item) (shape : Shape) (kind : ItemType) → is_atomic_in s UntypedAtomic kind ≡ true → IsTakenBy s forest kind shape x → IsAtomSo is_untyped x
untyped_item s forest x shape kind = so_in s forest UntypedAtomic is_untyped x shape kind (untyped_value s)

pub family_item : (s : SchemaSet) (forest : Forest) (family : Family) (x : Item) (shape : Shape) (kind : ItemType) → is_of_family s family kind ≡ true → IsTakenBy s forest kind shape x → IsAtomSo (is_value_of family) x
family_item s forest families.Number x shape kind e t = so_in s forest Decimal (is_value_of families.Number) x shape kind (number_value s) e t
family_item s forest families.Text x shape kind e t =
    elim (either_true (is_atomic_in s Str kind) (is_atomic_in s UntypedAtomic kind) e) as (λ _. IsAtomSo (is_value_of families.Text) x) [
      | inl h ↦ so_in s forest Str (is_value_of families.Text) x shape kind (string_value s) h t
      | inr h ↦ so_in s forest UntypedAtomic (is_value_of families.Text) x shape kind (λ v kind f d. untyped_is_text v (untyped_value s v kind f d)) h t
    ]
family_item s forest families.Truth x shape kind e t = so_in s forest Boolean (is_value_of families.Truth) x shape kind (boolean_value s) e t

pub family_met : (s : SchemaSet) (forest : Forest) (family : Family) (x : Item) → Meets s forest (is_of_family s family) x → IsAtomSo (is_value_of family) x
family_met s forest family x m = family_item s forest family x m.shape m.kind m.passes (m.takes, m.shown, m.fits)
