-- The function conversion rules: a value as an expected type asks for it (XQuery 1.0, section 3.1.5).
use Rattle.std.specs.Prelude.{Bool, true, false, not, ◌&&◌, List, [], ◌∷◌, ◌++◌, Option, None, Some, if◌then◌else◌}
use Rattle.gx_base.specs.declared.type_name.Builtin.TheVariants.{AnyAtomic}
use Rattle.gx_base.specs.declared.type_name.TypeName.{TypeName}
use Rattle.gx_base.specs.declared.type_name.TypeName.TheVariants.{Builtin}
use Rattle.gx_facets.specs.declared.Atomic.{Atomic}
use Rattle.gx_facets.specs.declared.AtomValue.{AtomValue}
use Rattle.gx_facets.specs.declared.AtomValue.TheVariants.{Untyped}
use Rattle.gx_types.specs.declared.item_type.ItemType.{ItemType}
use Rattle.gx_types.specs.declared.item_type.ItemType.TheVariants.{Atom}
use Rattle.gx_types.specs.SameItemType.{same_type_name}
use Rattle.gx_types.specs.SchemaSet.{SchemaSet}
use Rattle.gx_types.specs.SequenceType.{SequenceType, item, optional, star, plus}
use Rattle.gx_atomic.specs.Cast.{cast_of}
use Rattle.gx_model.specs.Atomization.{atomized}
use Rattle.gx_model.specs.Forest.{Forest}
use Rattle.gx_model.specs.Item.{Item, atom, node, Items}
use Rattle.gx_core.specs.Outcome.{Outcome, gives, wrong, after, given}
use Rattle.gx_core.specs.Casting.{cast_outcome}

-- the type of the values of an expected type, where these are atomic
abbrev pub atomic_type : ItemType → Option TypeName
atomic_type (Atom kind) = Some kind
atomic_type _ = None

abbrev pub expected_atomic : SequenceType → Option TypeName
expected_atomic (item kind) = atomic_type kind
expected_atomic (optional part) = expected_atomic part
expected_atomic (star part) = expected_atomic part
expected_atomic (plus part) = expected_atomic part
expected_atomic _ = None

-- an untyped value is cast, unless all atomic values are expected
abbrev pub is_untyped : AtomValue → Bool
is_untyped (Untyped characters) = true
is_untyped _ = false

abbrev pub is_any_atomic_type : TypeName → Bool
is_any_atomic_type kind = same_type_name kind (Builtin AnyAtomic)

abbrev pub item_converted : SchemaSet → TypeName → Item → Forest → Outcome Items
item_converted schemas kind (atom a) forest =
    if is_untyped a.value && not (is_any_atomic_type kind) then cast_outcome (cast_of schemas a kind) forest else gives (atom a ∷ []) forest
item_converted schemas kind (node place) forest = wrong

-- items from the left; the first cast that fails is the error
abbrev pub items_converted : SchemaSet → TypeName → Items → Forest → Outcome Items
items_converted schemas kind [] forest = gives [] forest
items_converted schemas kind (x ∷ xs) forest =
    after (item_converted schemas kind x forest)
    (λ ys left. after (items_converted schemas kind xs left) (λ zs last. gives (ys ++ zs) last))

abbrev pub converted_to : Option TypeName → SchemaSet → Items → Forest → Outcome Items
converted_to None schemas xs forest = gives xs forest
converted_to (Some kind) schemas xs forest = given (atomized schemas forest xs) (λ ys. items_converted schemas kind ys forest)

-- a value where a type is expected: where that is of atomic values, it is atomized first
abbrev pub converted : SchemaSet → (expected : SequenceType) → Items → Forest → Outcome Items
converted schemas expected xs forest = converted_to (expected_atomic expected) schemas xs forest

-- arguments from the left, each to the type of its parameter; another number of them is a type error
abbrev pub arguments_converted : SchemaSet → (parameters : List SequenceType) → List Items → Forest → Outcome (List Items)
arguments_converted schemas [] [] forest = gives [] forest
arguments_converted schemas (expected ∷ parameters) (xs ∷ arguments) forest =
    after (converted schemas expected xs forest)
    (λ ys left. after (arguments_converted schemas parameters arguments left) (λ values last. gives (ys ∷ values) last))
arguments_converted schemas _ _ forest = wrong
