-- Casts to declared types.
use Rattle.std.proofs.Common.{◌≡◌, Bool, true, false, List, Option, None, Some, Result, Ok, Err, refl, ap, sym, ◌∙◌, subst, if◌then◌else◌}
use Rattle.std.specs.Bool.{IsTrue}
use Rattle.gx_base.specs.declared.type_name.Builtin.{Builtin}
use Rattle.gx_base.specs.declared.type_name.Builtin.TheVariants as types
use Rattle.gx_base.specs.declared.type_name.TypeName.{TypeName}
use Rattle.gx_base.specs.declared.type_name.TypeName.TheVariants as names
use Rattle.gx_facets.specs.declared.AtomValue.{AtomValue}
use Rattle.gx_facets.specs.declared.Atomic.{Atomic}
use Rattle.gx_facets.specs.declared.restriction.Facets.{Facets}
use Rattle.gx_facets.specs.ValueSpace.{FitsType}
use Rattle.gx_types.specs.BaseChain.{own_content}
use Rattle.gx_types.specs.SchemaInvariant.{is_nameable}
use Rattle.gx_types.specs.SchemaSet.{SchemaSet}
use Rattle.gx_types.specs.SimpleType.{all_facets, bottom_of, atomic_of_content}
use Rattle.gx_types.specs.SimpleValue.{is_admitted}
use Rattle.gx_types.specs.declared.declaration.Content.{Content}
use Rattle.gx_types.specs.declared.declaration.Content.TheVariants as contents
use Rattle.gx_atomic.specs.declared.casting.CastError.{CastError}
use Rattle.gx_atomic.specs.declared.casting.CastError.TheVariants.{FORG0001}
use Rattle.gx_atomic.specs.Cast.{cast_value, where_admitted, cast_to_bottom, cast_to_atomic, cast_to, as_type, cast_of}
use Rattle.gx_atomic.specs.Laws.{HasNumberInRange, CastsToDeclaredTypesAreAdmitted, CastsToTheOwnDeclaredTypeChangeNothing}
use Rattle.gx_atomic.proofs.Decisions.{by_answer}
use Rattle.gx_atomic.proofs.OwnType.{PrintedValuesReadBack, stays}
use Rattle.gx_atomic.proofs.TargetValues.{ReadValuesFit, target_value}

-- the cast to a declared atomic type is the restricted cast to its built-in type
pub cast_restricts : (schemas : SchemaSet) (t : TypeName) (facets : Facets) (value : AtomValue) → own_content schemas.types t ≡ Some (contents.Atomic facets)
    → cast_to schemas t value ≡ where_admitted (all_facets schemas.types t) (cast_to_bottom (bottom_of schemas.types t) value)
cast_restricts schemas (names.Builtin kind) facets value e = absurd (cc)
cast_restricts schemas (names.Named name) facets value e = ap (λ (c : Option Content). cast_to_atomic (atomic_of_content schemas.types (names.Named name) c) value) e
cast_restricts schemas (names.Anonymous number) facets value e = ap (λ (c : Option Content). cast_to_atomic (atomic_of_content schemas.types (names.Anonymous number) c) value) e

-- ---- what a cast gives

value_given : (t : TypeName) (cast : Result AtomValue CastError) (b : Atomic) → as_type t cast ≡ Ok b → cast ≡ Ok b.value
value_given t (Ok value) b e = let same : record { value = value; kind = t } ≡ b = cc in ap (λ (x : Atomic). Ok x.value) same
value_given t (Err error) b e = absurd (cc)

admitted_given : (facets : List Facets) (cast : Result AtomValue CastError) (given : AtomValue) → where_admitted facets cast ≡ Ok given → (cast ≡ Ok given) × (is_admitted facets given ≡ true)
admitted_given facets (Err error) given e = absurd (cc)
admitted_given facets (Ok value) given e =
    by_answer (is_admitted facets value)
    (λ yes'. let same : value ≡ given = one value given (sym (admits yes') ∙ e) in
    (ap (λ (v : AtomValue). Ok v) same, subst (λ (v : AtomValue). is_admitted facets v ≡ true) same yes'))
    (λ no'. absurd (none (sym (refuses no') ∙ e)))
  where
    admits : is_admitted facets value ≡ true → where_admitted facets (Ok value) ≡ Ok value
    admits yes' = rw yes' refl

    refuses : is_admitted facets value ≡ false → where_admitted facets (Ok value) ≡ Err FORG0001
    refuses no' = rw no' refl

    one : (x y : AtomValue) → ◌≡◌ {A = Result AtomValue CastError} (Ok x) (Ok y) → x ≡ y
    one x y f = cc

    none : ◌≡◌ {A = Result AtomValue CastError} (Err FORG0001) (Ok given) → ⊥
    none f = cc

bottom_given : ReadValuesFit → (kind : Builtin) (value given : AtomValue) → HasNumberInRange value → cast_to_bottom kind value ≡ Ok given → FitsType kind given
bottom_given reads types.UntypedAtomic value given p e = absurd (cc)
bottom_given reads kind value given p e = target_value reads kind value given p e

pub declared_value : ReadValuesFit → CastsToDeclaredTypesAreAdmitted
declared_value reads schemas a b t facets p e f =
    let cast = sym (cast_restricts schemas t facets a.value e) ∙ value_given t (cast_to schemas t a.value) b f in
    let given = admitted_given (all_facets schemas.types t) (cast_to_bottom (bottom_of schemas.types t) a.value) b.value cast in
    (bottom_given reads (bottom_of schemas.types t) a.value b.value p given.0, given.1)

-- ---- the own type

bottom_stays : PrintedValuesReadBack → (kind : Builtin) (value : AtomValue) → IsTrue (is_nameable kind) → FitsType kind value → cast_to_bottom kind value ≡ Ok value
bottom_stays back types.UntypedAtomic value h p = absurd (cc)
bottom_stays back kind value h p = stays back kind value p

pub own_declared_type : PrintedValuesReadBack → CastsToTheOwnDeclaredTypeChangeNothing
own_declared_type back schemas a facets e h p admitted =
    ap (as_type a.kind) (
    cast_restricts schemas a.kind facets a.value e
    ∙ ap (where_admitted (all_facets schemas.types a.kind)) (bottom_stays back (bottom_of schemas.types a.kind) a.value h p)
    ∙ chosen (is_admitted (all_facets schemas.types a.kind) a.value) admitted
    )
  where
    chosen : (test : Bool) → test ≡ true → (if test then Ok a.value else Err FORG0001) ≡ Ok a.value
    chosen true f = refl
    chosen false f = absurd (cc)
