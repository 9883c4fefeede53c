-- What a cast gives fits its target.
use Rattle.std.proofs.Common.{◌≡◌, zero, suc, Bool, true, false, cond, List, length, Option, Some, None, Result, Ok, Err, refl, ap, sym, subst}
use Rattle.std.specs.Bool.{IsTrue}
use Rattle.std.specs.Prelude.{ℤ}
use Rattle.gx_base.specs.declared.type_name.Builtin.{Builtin}
use Rattle.gx_base.specs.declared.type_name.Builtin.TheVariants as types
use Rattle.gx_base.specs.declared.type_name.TypeName.{TypeName}
use Rattle.gx_base.specs.declared.type_name.TypeName.TheVariants as names
use Rattle.gx_num.specs.declared.NumRead.{NumRead}
use Rattle.gx_num.specs.declared.Number.TheVariants.{Int, Dec}
use Rattle.gx_num.specs.Number.{units_of, fits_decimal}
use Rattle.gx_num.specs.Lexical.{decimal_of}
use Rattle.gx_facets.specs.declared.AtomValue.{AtomValue}
use Rattle.gx_facets.specs.declared.AtomValue.TheVariants.{Untyped, Str, Truth, Num}
use Rattle.gx_facets.specs.declared.Atomic.{Atomic}
use Rattle.gx_facets.specs.Value.{lexical_form, value_of_decimal}
use Rattle.gx_facets.specs.declared.restriction.Facets.{Facets}
use Rattle.gx_types.specs.BaseChain.{own_content, base_chain, end_of_chain}
use Rattle.gx_types.specs.SchemaSet.{SchemaSet}
use Rattle.gx_types.specs.SimpleType.{all_facets, built_in, atomic_of_content}
use Rattle.gx_types.specs.SimpleValue.{is_admitted}
use Rattle.gx_types.specs.declared.declaration.Content.{Content}
use Rattle.gx_types.specs.declared.declaration.Content.TheVariants as contents
use Rattle.gx_types.proofs.BaseChains.{along_chain}
use Rattle.gx_types.specs.SameItemType.{same_type_name}
use Rattle.gx_types.specs.Derivation.{bases_of, Bases, base_of, Leads, LeadsTo}
use Rattle.gx_atomic.specs.declared.casting.CastError.{CastError}
use Rattle.gx_atomic.specs.declared.casting.CastError.TheVariants.{FORG0001, FOCA0001}
use Rattle.gx_atomic.specs.Cast.{with_fault, to_boolean, to_decimal, to_integer, in_type_range, within_type, cast_value, where_admitted, cast_to_bottom, cast_to_atomic, cast_to, as_type}
use Rattle.gx_atomic.specs.Fit.{FitsKind, FitsItsType}
use Rattle.gx_atomic.proofs.BooleanText.{by_boolean}
use Rattle.gx_atomic.specs.Laws.{CastsFitTheirTarget}

-- ---- derivation among built-in types

itself : (bases : Bases) (b : Builtin) → IsTrue (same_type_name (names.Builtin b) (names.Builtin b)) → LeadsTo bases (names.Builtin b) (names.Builtin b)
itself bases b e = (0, e)

by_base : (bases : Bases) (t base u : TypeName) → base_of bases t ≡ Some base → LeadsTo bases base u → LeadsTo bases t u
by_base bases t base u e (n, r) = (suc n, (base, e, r))

not_by_base : (bases : Bases) (t base u : TypeName) → same_type_name t u ≡ false → base_of bases t ≡ Some base → ¬ LeadsTo bases base u → ¬ LeadsTo bases t u
not_by_base bases t base u differ e none (zero, same) = absurd (cc)
not_by_base bases t base u differ e none (suc n, (b, f, r)) = let same : b ≡ base = cc in none (n, subst (λ (x : TypeName). Leads bases n x u) same r)

not_without_base : (bases : Bases) (t u : TypeName) → same_type_name t u ≡ false → base_of bases t ≡ None → ¬ LeadsTo bases t u
not_without_base bases t u differ e (zero, same) = absurd (cc)
not_without_base bases t u differ e (suc n, (b, f, r)) = absurd (cc)

module _ (bases : Bases) where
  abbrev Integer : TypeName
  Integer = names.Builtin types.Integer

  abbrev IsIntegerType : Builtin → Type 0
  IsIntegerType kind = LeadsTo bases (names.Builtin kind) Integer

  up : (kind base : Builtin) → base_of bases (names.Builtin kind) ≡ Some (names.Builtin base) → IsIntegerType base → IsIntegerType kind
  up kind base e r = by_base bases (names.Builtin kind) (names.Builtin base) Integer e r

  integer : IsIntegerType types.Integer
  integer = itself bases types.Integer refl

  long : IsIntegerType types.Long
  long = up types.Long types.Integer refl integer

  int : IsIntegerType types.Int
  int = up types.Int types.Long refl long

  short : IsIntegerType types.Short
  short = up types.Short types.Int refl int

  non_negative : IsIntegerType types.NonNegative
  non_negative = up types.NonNegative types.Integer refl integer

  unsigned_long : IsIntegerType types.UnsignedLong
  unsigned_long = up types.UnsignedLong types.NonNegative refl non_negative

  unsigned_int : IsIntegerType types.UnsignedInt
  unsigned_int = up types.UnsignedInt types.UnsignedLong refl unsigned_long

  unsigned_short : IsIntegerType types.UnsignedShort
  unsigned_short = up types.UnsignedShort types.UnsignedInt refl unsigned_int

  non_positive : IsIntegerType types.NonPositive
  non_positive = up types.NonPositive types.Integer refl integer

  string : LeadsTo bases (names.Builtin types.Str) (names.Builtin types.Str)
  string = itself bases types.Str refl

  normalized : LeadsTo bases (names.Builtin types.NormalizedStr) (names.Builtin types.Str)
  normalized = by_base bases _ (names.Builtin types.Str) _ refl string

  any_type : ¬ LeadsTo bases (names.Builtin types.AnyType) Integer
  any_type = not_without_base bases (names.Builtin types.AnyType) Integer refl refl

  any_simple : ¬ LeadsTo bases (names.Builtin types.AnySimple) Integer
  any_simple = not_by_base bases (names.Builtin types.AnySimple) (names.Builtin types.AnyType) Integer refl refl any_type

  any_atomic : ¬ LeadsTo bases (names.Builtin types.AnyAtomic) Integer
  any_atomic = not_by_base bases (names.Builtin types.AnyAtomic) (names.Builtin types.AnySimple) Integer refl refl any_simple

  decimal : ¬ LeadsTo bases (names.Builtin types.Decimal) Integer
  decimal = not_by_base bases (names.Builtin types.Decimal) (names.Builtin types.AnyAtomic) Integer refl refl any_atomic

-- ---- the kind of value that each cast gives

abbrev GivesBoolean : Result AtomValue CastError → Type 0
GivesBoolean (Ok (Truth b)) = Unit {0}
GivesBoolean (Ok value) = ⊥
GivesBoolean (Err error) = Unit {0}

abbrev GivesDecimal : Result AtomValue CastError → Type 0
GivesDecimal (Ok (Num (Dec u))) = Unit {0}
GivesDecimal (Ok value) = ⊥
GivesDecimal (Err error) = Unit {0}

abbrev GivesInteger : Result AtomValue CastError → Type 0
GivesInteger (Ok (Num (Int i))) = Unit {0}
GivesInteger (Ok value) = ⊥
GivesInteger (Err error) = Unit {0}

gives_boolean : (value : AtomValue) → GivesBoolean (to_boolean value)
gives_boolean (Untyped text) = by_boolean GivesBoolean (λ b. tt) tt text
gives_boolean (Str text) = by_boolean GivesBoolean (λ b. tt) tt text
gives_boolean (Truth b) = tt
gives_boolean (Num n) = tt

by_reading : (read : Result ℤ NumRead) → GivesDecimal (with_fault types.Decimal (value_of_decimal read))
by_reading (Ok u) = tt
by_reading (Err fault) = tt

by_limit : (fits : Bool) (i : ℤ) → GivesDecimal (cond fits (Ok (Num (Dec i))) (Err FOCA0001))
by_limit true i = tt
by_limit false i = tt

gives_decimal : (value : AtomValue) → GivesDecimal (to_decimal value)
gives_decimal (Untyped text) = by_reading (decimal_of (lexical_form text))
gives_decimal (Str text) = by_reading (decimal_of (lexical_form text))
gives_decimal (Truth true) = tt
gives_decimal (Truth false) = tt
gives_decimal (Num (Int i)) = by_limit (fits_decimal (units_of (Int i))) (units_of (Int i))
gives_decimal (Num (Dec u)) = tt

by_range : (within : Bool) (i : ℤ) → GivesInteger (cond within (Ok (Num (Int i))) (Err FORG0001))
by_range true i = tt
by_range false i = tt

gives_integer : (kind : Builtin) (cast : Result AtomValue CastError) → GivesInteger (within_type kind cast)
gives_integer kind (Ok (Untyped text)) = tt
gives_integer kind (Ok (Str text)) = tt
gives_integer kind (Ok (Truth b)) = tt
gives_integer kind (Ok (Num (Int i))) = by_range (in_type_range kind i) i
gives_integer kind (Ok (Num (Dec u))) = tt
gives_integer kind (Err error) = tt

-- ---- each target

module _ (schemas : SchemaSet) where
  abbrev GivesKind : Builtin → Result AtomValue CastError → Type 0
  GivesKind kind (Ok value) = FitsKind schemas value (names.Builtin kind)
  GivesKind kind (Err error) = Unit {0}

  boolean_kind : (cast : Result AtomValue CastError) → GivesBoolean cast → GivesKind types.Boolean cast
  boolean_kind (Ok (Truth b)) g = itself (bases_of schemas) types.Boolean refl
  boolean_kind (Ok value) g = absurd g
  boolean_kind (Err error) g = tt

  decimal_kind : (cast : Result AtomValue CastError) → GivesDecimal cast → GivesKind types.Decimal cast
  decimal_kind (Ok (Num (Dec u))) g = (itself (bases_of schemas) types.Decimal refl, decimal (bases_of schemas))
  decimal_kind (Ok value) g = absurd g
  decimal_kind (Err error) g = tt

  integer_kind : (kind : Builtin) (cast : Result AtomValue CastError) → IsIntegerType (bases_of schemas) kind → GivesInteger cast → GivesKind kind cast
  integer_kind kind (Ok (Num (Int i))) r g = r
  integer_kind kind (Ok value) r g = absurd g
  integer_kind kind (Err error) r g = tt

  integer_cast : (kind : Builtin) (value : AtomValue) → IsIntegerType (bases_of schemas) kind → GivesKind kind (within_type kind (to_integer value))
  integer_cast kind value r = integer_kind kind (within_type kind (to_integer value)) r (gives_integer kind (to_integer value))

  gives_kind : (kind : Builtin) (value : AtomValue) → GivesKind kind (cast_value kind value)
  gives_kind types.AnyType value = tt
  gives_kind types.Untyped value = tt
  gives_kind types.AnySimple value = tt
  gives_kind types.AnyAtomic value = tt
  gives_kind types.UntypedAtomic value = refl
  gives_kind types.Str value = string (bases_of schemas)
  gives_kind types.NormalizedStr value = normalized (bases_of schemas)
  gives_kind types.Token value = by_base (bases_of schemas) _ (names.Builtin types.NormalizedStr) _ refl (normalized (bases_of schemas))
  gives_kind types.Boolean value = boolean_kind (to_boolean value) (gives_boolean value)
  gives_kind types.Decimal value = decimal_kind (to_decimal value) (gives_decimal value)
  gives_kind types.Integer value = integer_cast types.Integer value (integer (bases_of schemas))
  gives_kind types.NonPositive value = integer_cast types.NonPositive value (non_positive (bases_of schemas))
  gives_kind types.Negative value = integer_cast types.Negative value (up (bases_of schemas) types.Negative types.NonPositive refl (non_positive (bases_of schemas)))
  gives_kind types.Long value = integer_cast types.Long value (long (bases_of schemas))
  gives_kind types.Int value = integer_cast types.Int value (int (bases_of schemas))
  gives_kind types.Short value = integer_cast types.Short value (short (bases_of schemas))
  gives_kind types.Byte value = integer_cast types.Byte value (up (bases_of schemas) types.Byte types.Short refl (short (bases_of schemas)))
  gives_kind types.NonNegative value = integer_cast types.NonNegative value (non_negative (bases_of schemas))
  gives_kind types.UnsignedLong value = integer_cast types.UnsignedLong value (unsigned_long (bases_of schemas))
  gives_kind types.UnsignedInt value = integer_cast types.UnsignedInt value (unsigned_int (bases_of schemas))
  gives_kind types.UnsignedShort value = integer_cast types.UnsignedShort value (unsigned_short (bases_of schemas))
  gives_kind types.UnsignedByte value = integer_cast types.UnsignedByte value (up (bases_of schemas) types.UnsignedByte types.UnsignedShort refl (unsigned_short (bases_of schemas)))
  gives_kind types.Positive value = integer_cast types.Positive value (up (bases_of schemas) types.Positive types.NonNegative refl (non_negative (bases_of schemas)))

  -- ---- declared types

  -- a cast gives a value of the kind that a type has
  abbrev Gives : TypeName → Result AtomValue CastError → Type 0
  Gives t (Ok value) = FitsKind schemas value t
  Gives t (Err error) = Unit {0}

  abbrev IsTyped : AtomValue → Type 0
  IsTyped (Untyped text) = ⊥
  IsTyped (Str text) = Unit {0}
  IsTyped (Truth b) = Unit {0}
  IsTyped (Num n) = Unit {0}

  typed_unless : (b : Builtin) → (b ≡ types.UntypedAtomic → ⊥) → (value : AtomValue) → FitsKind schemas value (names.Builtin b) → IsTyped value
  typed_unless b differ (Untyped text) h = differ (cc)
  typed_unless b differ (Str text) h = tt
  typed_unless b differ (Truth t) h = tt
  typed_unless b differ (Num n) h = tt

  -- a value of the built-in type that is not untyped
  abbrev GivesTyped : Builtin → Result AtomValue CastError → Type 0
  GivesTyped b (Ok value) = FitsKind schemas value (names.Builtin b) × IsTyped value
  GivesTyped b (Err error) = Unit {0}

  typed_cast : (b : Builtin) → (b ≡ types.UntypedAtomic → ⊥) → (cast : Result AtomValue CastError) → GivesKind b cast → GivesTyped b cast
  typed_cast b differ (Ok value) h = (h, typed_unless b differ value h)
  typed_cast b differ (Err error) h = tt

  bottom_gives : (b : Builtin) (value : AtomValue) → GivesTyped b (cast_to_bottom b value)
  bottom_gives types.UntypedAtomic value = tt
  bottom_gives kind value = typed_cast kind (λ e. cc) (cast_value kind value) (gives_kind kind value)

  -- what is of the kind of a base is of that of the type
  over_base : (value : AtomValue) → IsTyped value → (t base : TypeName) → ((b : Builtin) → same_type_name t (names.Builtin b) ≡ false)
      → base_of (bases_of schemas) t ≡ Some base → FitsKind schemas value base → FitsKind schemas value t
  over_base (Untyped text) typed t base differ e h = absurd typed
  over_base (Str text) typed t base differ e h = by_base (bases_of schemas) t base (names.Builtin types.Str) e h
  over_base (Truth b) typed t base differ e h = by_base (bases_of schemas) t base (names.Builtin types.Boolean) e h
  over_base (Num (Int i)) typed t base differ e h = by_base (bases_of schemas) t base (names.Builtin types.Integer) e h
  over_base (Num (Dec u)) typed t base differ e h =
      (by_base (bases_of schemas) t base (names.Builtin types.Decimal) e h.0, not_by_base (bases_of schemas) t base (names.Builtin types.Integer) (differ types.Integer) e h.1)

  chosen_gives : (test : Bool) (t : TypeName) (value : AtomValue) → FitsKind schemas value t → Gives t (cond test (Ok value) (Err FORG0001))
  chosen_gives true t value h = h
  chosen_gives false t value h = tt

  admitted_gives : (t : TypeName) (b : Builtin) (facets : List Facets) (cast : Result AtomValue CastError) → end_of_chain (base_chain schemas.types t) t ≡ names.Builtin b
      → GivesTyped b cast → Gives t (where_admitted facets cast)
  admitted_gives t b facets (Ok value) e h =
      chosen_gives (is_admitted facets value) t value (along_chain schemas.types (FitsKind schemas value) (over_base value h.1) (length schemas.types) t b e h.0)
  admitted_gives t b facets (Err error) e h = tt

  by_end : (t end : TypeName) (facets : List Facets) (value : AtomValue) → end_of_chain (base_chain schemas.types t) t ≡ end
      → Gives t (where_admitted facets (cast_to_bottom (built_in end) value))
  by_end t (names.Builtin b) facets value e = admitted_gives t b facets (cast_to_bottom b value) e (bottom_gives b value)
  by_end t (names.Named name) facets value e = tt
  by_end t (names.Anonymous number) facets value e = tt

  by_content : (t : TypeName) (content : Option Content) (value : AtomValue) → Gives t (cast_to_atomic (atomic_of_content schemas.types t content) value)
  by_content t None value = tt
  by_content t (Some (contents.Atomic facets)) value = by_end t (end_of_chain (base_chain schemas.types t) t) (all_facets schemas.types t) value refl
  by_content t (Some (contents.List item facets)) value = tt
  by_content t (Some (contents.Simple kind facets)) value = tt
  by_content t (Some (contents.Complex mixed model)) value = tt

  to_type_gives : (t : TypeName) (value : AtomValue) → Gives t (cast_to schemas t value)
  to_type_gives (names.Builtin kind) value = given (cast_value kind value) (gives_kind kind value)
    where
      given : (cast : Result AtomValue CastError) → GivesKind kind cast → Gives (names.Builtin kind) cast
      given (Ok x) h = h
      given (Err error) h = tt
  to_type_gives (names.Named name) value = by_content (names.Named name) (own_content schemas.types (names.Named name)) value
  to_type_gives (names.Anonymous number) value = by_content (names.Anonymous number) (own_content schemas.types (names.Anonymous number)) value

  as_type_fits : (kind : TypeName) (cast : Result AtomValue CastError) (b : Atomic) → Gives kind cast → as_type kind cast ≡ Ok b
      → (b.kind ≡ kind) × FitsItsType schemas b
  as_type_fits kind (Ok value) b g e =
      let same : b ≡ record { value = value; kind = kind } = cc in
      (ap (λ (a : Atomic). a.kind) same, subst (FitsItsType schemas) (sym same) g)
  as_type_fits kind (Err error) b g e = absurd (cc)

pub casts_fit : CastsFitTheirTarget
casts_fit schemas a b to e = as_type_fits schemas to (cast_to schemas to a.value) b (to_type_gives schemas to a.value) e
