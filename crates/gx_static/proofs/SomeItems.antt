-- Some item is of each item type that stands over known types.
use Rattle.std.proofs.Common.{◌≡◌, ℕ, zero, suc, Bool, true, false, List, [], ◌∷◌, ◌++◌, ◌⊎◌, inl, inr, Option, None, Some, is_some, refl, sym, ◌∙◌, ap, subst, if◌then◌else◌}
use Rattle.std.specs.Bool.{IsTrue}
use Rattle.std.specs.List.{list_any}
use Rattle.std.proofs.lemmas.Bool.{and_parts, or_left, or_right}
use Rattle.gx_base.specs.Name.{same_name}
use Rattle.gx_base.specs.declared.name.Name.{Name}
use Rattle.gx_base.specs.declared.type_name.Builtin.{Builtin}
use Rattle.gx_base.specs.declared.type_name.Builtin.TheVariants.{AnyType, Untyped, AnySimple, AnyAtomic, UntypedAtomic, Str, NormalizedStr, Token, Boolean, Decimal, Integer, NonPositive, Negative, Long, Int, Short, Byte, NonNegative, UnsignedLong, UnsignedInt, UnsignedShort, UnsignedByte, Positive}
use Rattle.gx_base.specs.declared.type_name.TypeName.{TypeName}
use Rattle.gx_base.specs.declared.type_name.TypeName.TheVariants as names
use Rattle.gx_types.specs.declared.declaration.Declared.{Declared}
use Rattle.gx_types.specs.declared.item_type.ItemType.{ItemType}
use Rattle.gx_types.specs.declared.item_type.ItemType.TheVariants as items
use Rattle.gx_types.specs.declared.shape.Shape.{Shape}
use Rattle.gx_types.specs.declared.shape.Shape.TheVariants as shapes
use Rattle.gx_types.specs.SameItemType.{same_type_name}
use Rattle.gx_types.specs.SchemaSet.{SchemaSet, declared_types, names_declared}
use Rattle.gx_types.specs.Derivation.{bases_of, bases_among, Bases, base_of, declared_base_of, is_declared, Leads, LeadsTo, DerivesFrom}
use Rattle.gx_types.specs.Grounded.{is_known}
use Rattle.gx_types.specs.ItemTakes.{name_fits, ItemTakes}
use Rattle.gx_types.proofs.PublicLaws.{equality_is_an_equivalence, derivation_is_a_preorder}
use Rattle.gx_include_letters.specs.WellFormed.{built_in_types, plain_types, element_types, IsAmongTypes, IsWellFormedShape}
use Rattle.gx_static.specs.NormalTypes.{IsOfKnownType}
use Rattle.gx_static.proofs.AtomicTypes.{untyped_is_atomic}

-- ---- chains of bases

-- a chain from a built-in type ends there, or goes on from its base
from_base : (bases : Bases) (t base u : TypeName) → base_of bases t ≡ Some base → LeadsTo bases t u → IsTrue (same_type_name t u) ⊎ LeadsTo bases base u
from_base bases t base u e (zero, same) = inl same
from_base bases t base u e (suc steps, (next, f, r)) = let one : next ≡ base = cc in inr (steps, subst (λ (x : TypeName). Leads bases steps x u) one r)

not_from_any_type : (bases : Bases) (u : TypeName) → same_type_name (names.Builtin AnyType) u ≡ false → LeadsTo bases (names.Builtin AnyType) u → ⊥
not_from_any_type bases u e (zero, same) = cc
not_from_any_type bases u e (suc steps, (next, f, r)) = cc

over_any_type : (bases : Bases) (b : Builtin) (u : TypeName) → base_of bases (names.Builtin b) ≡ Some (names.Builtin AnyType) → same_type_name (names.Builtin b) u ≡ false → same_type_name (names.Builtin AnyType) u ≡ false
    → LeadsTo bases (names.Builtin b) u → ⊥
over_any_type bases b u e f g d = either_way (from_base bases (names.Builtin b) (names.Builtin AnyType) u e d)
  where
    either_way : IsTrue (same_type_name (names.Builtin b) u) ⊎ LeadsTo bases (names.Builtin AnyType) u → ⊥
    either_way (inl same) = cc
    either_way (inr r) = not_from_any_type bases u g r

-- xs:untyped and xs:anySimpleType are no atomic types, and xs:untyped is no simple one
untyped_is_not_simple : (s : SchemaSet) → DerivesFrom s (names.Builtin Untyped) (names.Builtin AnySimple) → ⊥
untyped_is_not_simple s d = over_any_type (bases_of s) Untyped (names.Builtin AnySimple) refl refl refl d

untyped_is_not_atomic : (s : SchemaSet) → DerivesFrom s (names.Builtin Untyped) (names.Builtin AnyAtomic) → ⊥
untyped_is_not_atomic s d = over_any_type (bases_of s) Untyped (names.Builtin AnyAtomic) refl refl refl d

simple_is_not_atomic : (s : SchemaSet) → DerivesFrom s (names.Builtin AnySimple) (names.Builtin AnyAtomic) → ⊥
simple_is_not_atomic s d = over_any_type (bases_of s) AnySimple (names.Builtin AnyAtomic) refl refl refl d

-- ---- types that items have

declared_is_among : (types : List Declared) (t : TypeName) → is_declared (bases_among types) t ≡ true → list_any (same_type_name t) (names_declared types) ≡ true
declared_is_among [] t e = cc
declared_is_among (d ∷ ds) t e =
    elim (same_type_name d.name t) as (λ (b : Bool). same_type_name d.name t ≡ b → is_some (if b then Some d.base else declared_base_of (bases_among ds) t) ≡ true → list_any (same_type_name t) (names_declared (d ∷ ds)) ≡ true) [
      | true ↦ λ h _. or_left (same_type_name t d.name) (list_any (same_type_name t) (names_declared ds)) (equality_is_an_equivalence.type_names.symm t d.name ∙ h)
      | false ↦ λ h k. or_right (same_type_name t d.name) (list_any (same_type_name t) (names_declared ds)) (declared_is_among ds t k)
    ] refl e

any_behind : (test : TypeName → Bool) (xs ys : List TypeName) → list_any test ys ≡ true → list_any test (xs ++ ys) ≡ true
any_behind test [] ys e = e
any_behind test (x ∷ xs) ys e = or_right (test x) (list_any test (xs ++ ys)) (any_behind test xs ys e)

declared_is_plain : (s : SchemaSet) (t : TypeName) → IsTrue (is_declared (bases_of s) t) → IsAmongTypes t (plain_types s)
declared_is_plain s t e = any_behind (same_type_name t) built_in_types (declared_types s) (declared_is_among s.types t e)

plain_is_for_elements : (s : SchemaSet) (t : TypeName) → IsAmongTypes t (plain_types s) → IsAmongTypes t (element_types s)
plain_is_for_elements s t e = or_right (same_type_name t (names.Builtin Untyped)) (list_any (same_type_name t) (plain_types s)) e

-- a type that an item may have, derived from a type
pub record SomeType (s : SchemaSet) (types : List TypeName) (u : TypeName) : Type 0 where
  pub type : TypeName
  pub among : IsAmongTypes type types
  pub derived : DerivesFrom s type u

itself : (s : SchemaSet) (types : List TypeName) (u : TypeName) → IsAmongTypes u types → SomeType s types u
itself s types u e = record { type = u; among = e; derived = derivation_is_a_preorder.reflexive s u }

to_simple : (s : SchemaSet) → DerivesFrom s (names.Builtin UntypedAtomic) (names.Builtin AnySimple)
to_simple s = (2, (names.Builtin AnyAtomic, refl, (names.Builtin AnySimple, refl, refl)))

to_any : (s : SchemaSet) → DerivesFrom s (names.Builtin UntypedAtomic) (names.Builtin AnyType)
to_any s = (3, (names.Builtin AnyAtomic, refl, (names.Builtin AnySimple, refl, (names.Builtin AnyType, refl, refl))))

-- built-in types
element_of_builtin : (s : SchemaSet) (b : Builtin) → SomeType s (element_types s) (names.Builtin b)
element_of_builtin s AnyType = record { type = names.Builtin UntypedAtomic; among = refl; derived = to_any s }
element_of_builtin s AnySimple = record { type = names.Builtin UntypedAtomic; among = refl; derived = to_simple s }
element_of_builtin s AnyAtomic = record { type = names.Builtin UntypedAtomic; among = refl; derived = untyped_is_atomic s }
element_of_builtin s Untyped = itself s (element_types s) (names.Builtin Untyped) refl
element_of_builtin s UntypedAtomic = itself s (element_types s) (names.Builtin UntypedAtomic) refl
element_of_builtin s Str = itself s (element_types s) (names.Builtin Str) refl
element_of_builtin s NormalizedStr = itself s (element_types s) (names.Builtin NormalizedStr) refl
element_of_builtin s Token = itself s (element_types s) (names.Builtin Token) refl
element_of_builtin s Boolean = itself s (element_types s) (names.Builtin Boolean) refl
element_of_builtin s Decimal = itself s (element_types s) (names.Builtin Decimal) refl
element_of_builtin s Integer = itself s (element_types s) (names.Builtin Integer) refl
element_of_builtin s NonPositive = itself s (element_types s) (names.Builtin NonPositive) refl
element_of_builtin s Negative = itself s (element_types s) (names.Builtin Negative) refl
element_of_builtin s Long = itself s (element_types s) (names.Builtin Long) refl
element_of_builtin s Int = itself s (element_types s) (names.Builtin Int) refl
element_of_builtin s Short = itself s (element_types s) (names.Builtin Short) refl
element_of_builtin s Byte = itself s (element_types s) (names.Builtin Byte) refl
element_of_builtin s NonNegative = itself s (element_types s) (names.Builtin NonNegative) refl
element_of_builtin s UnsignedLong = itself s (element_types s) (names.Builtin UnsignedLong) refl
element_of_builtin s UnsignedInt = itself s (element_types s) (names.Builtin UnsignedInt) refl
element_of_builtin s UnsignedShort = itself s (element_types s) (names.Builtin UnsignedShort) refl
element_of_builtin s UnsignedByte = itself s (element_types s) (names.Builtin UnsignedByte) refl
element_of_builtin s Positive = itself s (element_types s) (names.Builtin Positive) refl

element_of : (s : SchemaSet) (t : TypeName) → IsTrue (is_known (bases_of s) t) → SomeType s (element_types s) t
element_of s (names.Builtin b) e = element_of_builtin s b
element_of s (names.Named name) e = itself s (element_types s) (names.Named name) (plain_is_for_elements s (names.Named name) (declared_is_plain s (names.Named name) e))
element_of s (names.Anonymous number) e = itself s (element_types s) (names.Anonymous number) (plain_is_for_elements s (names.Anonymous number) (declared_is_plain s (names.Anonymous number) e))

-- types that lead to a simple type

built_in_leads : (s : SchemaSet) (b : Builtin) → DerivesFrom s (names.Builtin b) (names.Builtin AnySimple) → SomeType s (plain_types s) (names.Builtin b)
built_in_leads s AnyType d = absurd (not_from_any_type (bases_of s) (names.Builtin AnySimple) refl d)
built_in_leads s AnySimple d = record { type = names.Builtin UntypedAtomic; among = refl; derived = to_simple s }
built_in_leads s AnyAtomic d = record { type = names.Builtin UntypedAtomic; among = refl; derived = untyped_is_atomic s }
built_in_leads s Untyped d = absurd (untyped_is_not_simple s d)
built_in_leads s UntypedAtomic d = itself s (plain_types s) (names.Builtin UntypedAtomic) refl
built_in_leads s Str d = itself s (plain_types s) (names.Builtin Str) refl
built_in_leads s NormalizedStr d = itself s (plain_types s) (names.Builtin NormalizedStr) refl
built_in_leads s Token d = itself s (plain_types s) (names.Builtin Token) refl
built_in_leads s Boolean d = itself s (plain_types s) (names.Builtin Boolean) refl
built_in_leads s Decimal d = itself s (plain_types s) (names.Builtin Decimal) refl
built_in_leads s Integer d = itself s (plain_types s) (names.Builtin Integer) refl
built_in_leads s NonPositive d = itself s (plain_types s) (names.Builtin NonPositive) refl
built_in_leads s Negative d = itself s (plain_types s) (names.Builtin Negative) refl
built_in_leads s Long d = itself s (plain_types s) (names.Builtin Long) refl
built_in_leads s Int d = itself s (plain_types s) (names.Builtin Int) refl
built_in_leads s Short d = itself s (plain_types s) (names.Builtin Short) refl
built_in_leads s Byte d = itself s (plain_types s) (names.Builtin Byte) refl
built_in_leads s NonNegative d = itself s (plain_types s) (names.Builtin NonNegative) refl
built_in_leads s UnsignedLong d = itself s (plain_types s) (names.Builtin UnsignedLong) refl
built_in_leads s UnsignedInt d = itself s (plain_types s) (names.Builtin UnsignedInt) refl
built_in_leads s UnsignedShort d = itself s (plain_types s) (names.Builtin UnsignedShort) refl
built_in_leads s UnsignedByte d = itself s (plain_types s) (names.Builtin UnsignedByte) refl
built_in_leads s Positive d = itself s (plain_types s) (names.Builtin Positive) refl

-- a type that is not built-in and leads to a built-in one is declared
named_leads : (s : SchemaSet) (name : Name) (b : Builtin) → DerivesFrom s (names.Named name) (names.Builtin b) → IsAmongTypes (names.Named name) (plain_types s)
named_leads s name b (zero, same) = absurd (cc)
named_leads s name b (suc steps, (base, e, r)) = declared_is_plain s (names.Named name) (ap (λ (found : Option TypeName). is_some found) e)

anonymous_leads : (s : SchemaSet) (number : ℕ) (b : Builtin) → DerivesFrom s (names.Anonymous number) (names.Builtin b) → IsAmongTypes (names.Anonymous number) (plain_types s)
anonymous_leads s number b (zero, same) = absurd (cc)
anonymous_leads s number b (suc steps, (base, e, r)) = declared_is_plain s (names.Anonymous number) (ap (λ (found : Option TypeName). is_some found) e)

attribute_of : (s : SchemaSet) (t : TypeName) → DerivesFrom s t (names.Builtin AnySimple) → SomeType s (plain_types s) t
attribute_of s (names.Builtin b) d = built_in_leads s b d
attribute_of s (names.Named name) d = itself s (plain_types s) (names.Named name) (named_leads s name AnySimple d)
attribute_of s (names.Anonymous number) d = itself s (plain_types s) (names.Anonymous number) (anonymous_leads s number AnySimple d)

-- ---- atomic types

-- an atomic type is one that an item may have, or xs:anyAtomicType
built_in_atomic : (s : SchemaSet) (b : Builtin) → DerivesFrom s (names.Builtin b) (names.Builtin AnyAtomic) → IsAmongTypes (names.Builtin b) (plain_types s) ⊎ (names.Builtin b ≡ names.Builtin AnyAtomic)
built_in_atomic s AnyType d = absurd (not_from_any_type (bases_of s) (names.Builtin AnyAtomic) refl d)
built_in_atomic s AnySimple d = absurd (simple_is_not_atomic s d)
built_in_atomic s AnyAtomic d = inr refl
built_in_atomic s Untyped d = absurd (untyped_is_not_atomic s d)
built_in_atomic s UntypedAtomic d = inl refl
built_in_atomic s Str d = inl refl
built_in_atomic s NormalizedStr d = inl refl
built_in_atomic s Token d = inl refl
built_in_atomic s Boolean d = inl refl
built_in_atomic s Decimal d = inl refl
built_in_atomic s Integer d = inl refl
built_in_atomic s NonPositive d = inl refl
built_in_atomic s Negative d = inl refl
built_in_atomic s Long d = inl refl
built_in_atomic s Int d = inl refl
built_in_atomic s Short d = inl refl
built_in_atomic s Byte d = inl refl
built_in_atomic s NonNegative d = inl refl
built_in_atomic s UnsignedLong d = inl refl
built_in_atomic s UnsignedInt d = inl refl
built_in_atomic s UnsignedShort d = inl refl
built_in_atomic s UnsignedByte d = inl refl
built_in_atomic s Positive d = inl refl

pub atomic_is_plain : (s : SchemaSet) (t : TypeName) → DerivesFrom s t (names.Builtin AnyAtomic) → IsAmongTypes t (plain_types s) ⊎ (t ≡ names.Builtin AnyAtomic)
atomic_is_plain s (names.Builtin b) d = built_in_atomic s b d
atomic_is_plain s (names.Named name) d = inl (named_leads s name AnyAtomic d)
atomic_is_plain s (names.Anonymous number) d = inl (anonymous_leads s number AnyAtomic d)

-- what xs:untypedAtomic and xs:boolean are derived from beside themselves xs:anyAtomicType is derived from
pub above_untyped : (s : SchemaSet) (u : TypeName) → DerivesFrom s (names.Builtin UntypedAtomic) u → IsTrue (same_type_name (names.Builtin UntypedAtomic) u) ⊎ DerivesFrom s (names.Builtin AnyAtomic) u
above_untyped s u d = from_base (bases_of s) (names.Builtin UntypedAtomic) (names.Builtin AnyAtomic) u refl d

pub above_boolean : (s : SchemaSet) (u : TypeName) → DerivesFrom s (names.Builtin Boolean) u → IsTrue (same_type_name (names.Builtin Boolean) u) ⊎ DerivesFrom s (names.Builtin AnyAtomic) u
above_boolean s u d = from_base (bases_of s) (names.Builtin Boolean) (names.Builtin AnyAtomic) u refl d

-- ---- shapes

-- some name fits
some_name : (wanted : Option Name) → (name : Name) × IsTrue (name_fits wanted name)
some_name None = (record { uri = []; prefix = []; local = [] }, refl)
some_name (Some name) = (name, (and_parts (same_name name name) true (equality_is_an_equivalence.item_types.refl (items.Element (Some name) (names.Builtin AnyType)))).0)

abbrev pub IsOfNode : Shape → Type 0
IsOfNode (shapes.Atom t) = ⊥
IsOfNode _ = Unit {0}

-- a shape that an item may have, and an item type takes
pub record SomeShape (s : SchemaSet) (kind : ItemType) : Type 0 where
  pub shape : Shape
  pub well_formed : IsWellFormedShape s shape
  pub taken : ItemTakes s kind shape

-- a shape of a node
pub record SomeNode (s : SchemaSet) (kind : ItemType) : Type 0 where
  pub some : SomeShape s kind
  pub node : IsOfNode some.shape

pub element_shape : (s : SchemaSet) (name : Option Name) (kind : TypeName) → IsTrue (is_known (bases_of s) kind) → SomeNode s (items.Element name kind)
element_shape s name kind k =
    let n = some_name name in
    let t = element_of s kind k in
    record { some = record { shape = shapes.Elem n.0 t.type; well_formed = t.among; taken = (n.1, t.derived) }; node = tt }

pub attribute_shape : (s : SchemaSet) (name : Option Name) (kind : TypeName) → DerivesFrom s kind (names.Builtin AnySimple) → SomeNode s (items.Attribute name kind)
attribute_shape s name kind k =
    let n = some_name name in
    let t = attribute_of s kind k in
    record { some = record { shape = shapes.Attr n.0 t.type; well_formed = t.among; taken = (n.1, t.derived) }; node = tt }

pub document_shape : (s : SchemaSet) (element : Option Name × TypeName) → IsTrue (is_known (bases_of s) element.1) → SomeNode s (items.Document (Some element))
document_shape s element k =
    let n = some_name element.0 in
    let t = element_of s element.1 k in
    record { some = record { shape = shapes.Doc (Some (n.0, t.type)); well_formed = t.among; taken = (n.1, t.derived) }; node = tt }

atom_shape : (s : SchemaSet) (kind : TypeName) → DerivesFrom s kind (names.Builtin AnyAtomic) → IsAmongTypes kind (plain_types s) ⊎ (kind ≡ names.Builtin AnyAtomic) → SomeShape s (items.Atom kind)
atom_shape s kind d (inl among) = record { shape = shapes.Atom kind; well_formed = among; taken = derivation_is_a_preorder.reflexive s kind }
atom_shape s kind d (inr e) =
    record { shape = shapes.Atom (names.Builtin UntypedAtomic); well_formed = refl; taken = subst (λ (t : TypeName). DerivesFrom s (names.Builtin UntypedAtomic) t) (sym e) (untyped_is_atomic s) }

pub some_shape : (s : SchemaSet) (kind : ItemType) → IsOfKnownType s kind → SomeShape s kind
some_shape s (items.Element name kind) k = (element_shape s name kind k).some
some_shape s (items.Attribute name kind) k = (attribute_shape s name kind k).some
some_shape s items.Text k = record { shape = shapes.Text; well_formed = tt; taken = tt }
some_shape s (items.Document None) k = record { shape = shapes.Doc None; well_formed = tt; taken = tt }
some_shape s (items.Document (Some element)) k = (document_shape s element k).some
some_shape s (items.Atom kind) k = atom_shape s kind k (atomic_is_plain s kind k)
