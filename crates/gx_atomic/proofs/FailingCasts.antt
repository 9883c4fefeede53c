-- A cast that fails has a code.
use Rattle.std.proofs.Common.{◌≡◌, ℤ, Bool, true, false, ◌&&◌, ◌||◌, List, ℕ, Some, None, Option, Result, Ok, Err, refl, subst, if◌then◌else◌}
use Rattle.std.specs.Prelude.{int_le, codes}
use Rattle.gx_base.specs.Text.{same_text}
use Rattle.gx_base.specs.declared.type_name.Builtin.{Builtin}
use Rattle.gx_base.specs.declared.type_name.Builtin.TheVariants as types
use Rattle.gx_base.specs.declared.type_name.TypeName.{TypeName}
use Rattle.gx_base.specs.declared.type_name.TypeName.TheVariants as names
use Rattle.gx_num.specs.declared.Number.TheVariants.{Int, Dec}
use Rattle.gx_num.specs.declared.NumRead.{NumRead}
use Rattle.gx_num.specs.declared.NumRead.TheVariants as numbers
use Rattle.gx_num.specs.Number.{units_of, fits_decimal}
use Rattle.gx_num.specs.Lexical.{integer_of, decimal_of}
use Rattle.gx_facets.specs.declared.Atomic.{Atomic}
use Rattle.gx_facets.specs.declared.AtomValue.{AtomValue}
use Rattle.gx_facets.specs.declared.AtomValue.TheVariants.{Untyped, Str, Truth, Num}
use Rattle.gx_facets.specs.declared.ValueRead.{ValueRead}
use Rattle.gx_facets.specs.declared.ValueRead.TheVariants as reads
use Rattle.gx_facets.specs.Value.{least_of, greatest_of, value_of, integer_within, value_of_decimal, boolean_value, lexical_form}
use Rattle.gx_facets.specs.declared.restriction.Facets.{Facets}
use Rattle.gx_types.specs.SchemaSet.{SchemaSet}
use Rattle.gx_types.specs.SimpleType.{AtomicMeaning, declared_atomic}
use Rattle.gx_types.specs.SimpleValue.{is_admitted}
use Rattle.gx_atomic.specs.declared.casting.CastError.{CastError}
use Rattle.gx_atomic.specs.declared.casting.CastError.TheVariants.{FORG0001, FOCA0001, FOCA0003, FOCA0006, Memory}
use Rattle.gx_atomic.specs.Cast.{fault_at, with_fault, read_at, to_boolean, integer_to_decimal, to_decimal, to_integer, in_type_range, within_type, cast_value, where_admitted, cast_to_bottom, cast_to_atomic, cast_to, as_type, cast_of}
use Rattle.gx_atomic.specs.Laws.{CastsFailWithCodes, HasCode}

-- a text is read, or has a fault of its own
abbrev IsRead : Result AtomValue ValueRead → Type 0
IsRead (Err reads.Memory) = ⊥
IsRead _ = Unit {0}

abbrev Fails : {T : Type 0} → Result T CastError → Type 0
Fails (Ok x) = Unit {0}
Fails (Err error) = HasCode error

fault_has_code : (kind : Builtin) (fault : ValueRead) → IsRead (Err fault) → HasCode (fault_at kind fault)
fault_has_code kind reads.NotLexical h = (_, refl)
fault_has_code types.Decimal reads.TooLarge h = (_, refl)
fault_has_code kind reads.TooLarge h = (_, refl)
fault_has_code kind reads.TooPrecise h = (_, refl)
fault_has_code kind reads.Memory h = absurd h

read_fails : (kind : Builtin) (read : Result AtomValue ValueRead) → IsRead read → Fails (with_fault kind read)
read_fails kind (Ok value) h = tt
read_fails kind (Err fault) h = fault_has_code kind fault h

chosen_read : (test : Bool) (yes' no' : Result AtomValue ValueRead) → IsRead yes' → IsRead no' → IsRead (if test then yes' else no')
chosen_read true yes' no' h k = h
chosen_read false yes' no' h k = k

integer_read : (least greatest : ℤ) (read : Result ℤ NumRead) → IsRead (integer_within least greatest read)
integer_read least greatest (Ok i) = chosen_read (int_le least i && int_le i greatest) (Ok (Num (Int i))) (Err reads.NotLexical) tt tt
integer_read least greatest (Err numbers.NotANumber) = tt
integer_read least greatest (Err numbers.TooLarge) = tt
integer_read least greatest (Err numbers.TooPrecise) = tt

decimal_read : (read : Result ℤ NumRead) → IsRead (value_of_decimal read)
decimal_read (Ok u) = tt
decimal_read (Err numbers.NotANumber) = tt
decimal_read (Err numbers.TooLarge) = tt
decimal_read (Err numbers.TooPrecise) = tt

boolean_read : (truth falsehood : Bool) → IsRead (if truth then Ok (Truth true) else (if falsehood then Ok (Truth false) else Err reads.NotLexical))
boolean_read true falsehood = tt
boolean_read false true = tt
boolean_read false false = tt

text_fails : (text : List ℕ) → Fails (read_at types.Boolean text)
text_fails text =
    let l = lexical_form text in
    read_fails types.Boolean (boolean_value l) (boolean_read (same_text l (codes "true") || same_text l (codes "1")) (same_text l (codes "false") || same_text l (codes "0")))

boolean_fails : (value : AtomValue) → Fails (to_boolean value)
boolean_fails (Untyped text) = text_fails text
boolean_fails (Str text) = text_fails text
boolean_fails (Truth b) = tt
boolean_fails (Num n) = tt

chosen_fails : (test : Bool) (yes' no' : Result AtomValue CastError) → Fails yes' → Fails no' → Fails (if test then yes' else no')
chosen_fails true yes' no' h k = h
chosen_fails false yes' no' h k = k

decimal_fails : (value : AtomValue) → Fails (to_decimal value)
decimal_fails (Untyped text) = read_fails types.Decimal (value_of types.Decimal text) (decimal_read (decimal_of (lexical_form text)))
decimal_fails (Str text) = read_fails types.Decimal (value_of types.Decimal text) (decimal_read (decimal_of (lexical_form text)))
decimal_fails (Truth true) = tt
decimal_fails (Truth false) = tt
decimal_fails (Num (Int i)) = chosen_fails (fits_decimal (units_of (Int i))) (Ok (Num (Dec (units_of (Int i))))) (Err FOCA0001) tt (_, refl)
decimal_fails (Num (Dec u)) = tt

integer_fails : (value : AtomValue) → Fails (to_integer value)
integer_fails (Untyped text) = read_fails types.Integer (value_of types.Integer text) (integer_read (least_of types.Integer) (greatest_of types.Integer) (integer_of (lexical_form text)))
integer_fails (Str text) = read_fails types.Integer (value_of types.Integer text) (integer_read (least_of types.Integer) (greatest_of types.Integer) (integer_of (lexical_form text)))
integer_fails (Truth true) = tt
integer_fails (Truth false) = tt
integer_fails (Num n) = tt

within_fails : (kind : Builtin) (cast : Result AtomValue CastError) → Fails cast → Fails (within_type kind cast)
within_fails kind (Ok (Num (Int i))) h = chosen_fails (in_type_range kind i) (Ok (Num (Int i))) (Err FORG0001) tt (_, refl)
within_fails kind (Ok value) h = (_, refl)
within_fails kind (Err error) h = h

value_fails : (kind : Builtin) (value : AtomValue) → Fails (cast_value kind value)
value_fails types.AnyType value = (_, refl)
value_fails types.Untyped value = (_, refl)
value_fails types.AnySimple value = (_, refl)
value_fails types.AnyAtomic value = (_, refl)
value_fails types.UntypedAtomic value = tt
value_fails types.Str value = tt
value_fails types.NormalizedStr value = tt
value_fails types.Token value = tt
value_fails types.Boolean value = boolean_fails value
value_fails types.Decimal value = decimal_fails value
value_fails kind value = within_fails kind (to_integer value) (integer_fails value)

typed_fails : (kind : TypeName) (cast : Result AtomValue CastError) → Fails cast → Fails (as_type kind cast)
typed_fails kind (Ok value) h = tt
typed_fails kind (Err error) h = h

admitted_fails : (facets : List Facets) (cast : Result AtomValue CastError) → Fails cast → Fails (where_admitted facets cast)
admitted_fails facets (Ok value) h = chosen_fails (is_admitted facets value) (Ok value) (Err FORG0001) tt (_, refl)
admitted_fails facets (Err error) h = h

bottom_fails : (kind : Builtin) (value : AtomValue) → Fails (cast_to_bottom kind value)
bottom_fails types.UntypedAtomic value = (_, refl)
bottom_fails kind value = value_fails kind value

atomic_fails : (found : Option AtomicMeaning) (value : AtomValue) → Fails (cast_to_atomic found value)
atomic_fails None value = (_, refl)
atomic_fails (Some meaning) value = admitted_fails meaning.facets (cast_to_bottom meaning.bottom value) (bottom_fails meaning.bottom value)

to_type_fails : (schemas : SchemaSet) (to : TypeName) (value : AtomValue) → Fails (cast_to schemas to value)
to_type_fails schemas (names.Builtin kind) value = value_fails kind value
to_type_fails schemas (names.Named name) value = atomic_fails (declared_atomic schemas (names.Named name)) value
to_type_fails schemas (names.Anonymous number) value = atomic_fails (declared_atomic schemas (names.Anonymous number)) value

cast_fails : (schemas : SchemaSet) (a : Atomic) (to : TypeName) → Fails (cast_of schemas a to)
cast_fails schemas a to = typed_fails to (cast_to schemas to a.value) (to_type_fails schemas to a.value)

pub fail_with_codes : CastsFailWithCodes
fail_with_codes schemas a to error e = subst Fails e (cast_fails schemas a to)
