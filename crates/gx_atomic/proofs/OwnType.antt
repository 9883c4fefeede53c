-- Values of a type, and their texts, cast to that type.
use Rattle.std.proofs.Common.{◌≡◌, ◌^◌, ◌<◌, Bool, true, false, T, Result, Ok, refl, ap, sym, ◌∙◌, arith}
use Rattle.std.proofs.lemmas.Int.{ints}
use Rattle.std.specs.Prelude.{ℤ, int_le, ◌≤ℤ◌, pos, negsuc}
use Rattle.gx_base.specs.declared.type_name.Builtin.{Builtin}
use Rattle.gx_base.specs.declared.type_name.Builtin.TheVariants as types
use Rattle.gx_base.specs.declared.type_name.TypeName.{TypeName}
use Rattle.gx_base.specs.declared.type_name.TypeName.TheVariants as names
use Rattle.gx_num.specs.declared.Number.TheVariants.{Int, Dec}
use Rattle.gx_num.specs.Number.{FitsInteger}
use Rattle.gx_facets.specs.declared.AtomValue.{AtomValue}
use Rattle.gx_facets.specs.declared.AtomValue.TheVariants.{Str, Truth, Num}
use Rattle.gx_facets.specs.declared.Atomic.{Atomic}
use Rattle.gx_facets.specs.declared.ValueRead.{ValueRead}
use Rattle.gx_facets.specs.Value.{value_of, printed_value, least_of, greatest_of}
use Rattle.gx_facets.specs.ValueSpace.{FitsType, IsBooleanValue, IsDecimalValue, IsIntegerWithin}
use Rattle.gx_types.specs.SchemaSet.{SchemaSet}
use Rattle.gx_atomic.specs.declared.casting.CastError.{CastError}
use Rattle.gx_atomic.specs.Cast.{with_fault, to_boolean, to_decimal, to_integer, in_type_range, within_type, cast_value, as_type, cast_of}

-- a printed value is read at its type as the value again
abbrev pub PrintedValuesReadBack : Type 0
PrintedValuesReadBack = (kind : Builtin) (value : AtomValue) → FitsType kind value → value_of kind (printed_value value) ≡ Ok value

same_value : (x value : AtomValue) → ◌≡◌ {A = Result AtomValue ValueRead} (Ok x) (Ok value) → ◌≡◌ {A = Result AtomValue CastError} (Ok x) (Ok value)
same_value x value e = let same : x ≡ value = cc in ap (λ (v : AtomValue). Ok v) same

from_T : (b : Bool) → T b → b ≡ true
from_T true t = refl
from_T false t = absurd t

in_range : (kind : Builtin) (i : ℤ) → least_of kind ≤ℤ i → i ≤ℤ greatest_of kind → in_type_range kind i ≡ true
in_range kind i low high = rw (from_T (int_le (least_of kind) i) low.le, from_T (int_le i (greatest_of kind)) high.le) refl

boolean_stays : (value : AtomValue) → IsBooleanValue value → to_boolean value ≡ Ok value
boolean_stays (Truth b) p = refl
boolean_stays _ p = absurd p

decimal_stays : (value : AtomValue) → IsDecimalValue value → to_decimal value ≡ Ok value
decimal_stays (Num (Dec u)) p = refl
decimal_stays _ p = absurd p

integer_stays : (kind : Builtin) (value : AtomValue) → IsIntegerWithin (least_of kind) (greatest_of kind) value → within_type kind (to_integer value) ≡ Ok value
integer_stays kind (Num (Int i)) p = rw (in_range kind i p.1 p.2) refl
integer_stays kind _ p = absurd p

pub stays : PrintedValuesReadBack → (kind : Builtin) (value : AtomValue) → FitsType kind value → cast_value kind value ≡ Ok value
stays back types.AnyType value p = absurd p
stays back types.Untyped value p = absurd p
stays back types.AnySimple value p = absurd p
stays back types.AnyAtomic value p = absurd p
stays back types.UntypedAtomic value p = same_value _ value (back types.UntypedAtomic value p)
stays back types.Str value p = same_value _ value (back types.Str value p)
stays back types.NormalizedStr value p = same_value _ value (back types.NormalizedStr value p)
stays back types.Token value p = same_value _ value (back types.Token value p)
stays back types.Boolean value p = boolean_stays value p
stays back types.Decimal value p = decimal_stays value p
stays back kind value p = integer_stays kind value p

pub own_type : PrintedValuesReadBack → (schemas : SchemaSet) (a : Atomic) (kind : Builtin) → a.kind ≡ names.Builtin kind → FitsType kind a.value → cast_of schemas a a.kind ≡ Ok a
own_type back schemas a kind e p =
    ap (cast_of schemas a) e ∙ ap (as_type (names.Builtin kind)) (stays back kind a.value p)
    ∙ ap (λ (k : TypeName). as_type k (Ok a.value)) (sym e)

-- ---- texts

fits_all : (i : ℤ) → FitsInteger i → (least_of types.Integer ≤ℤ i) × (i ≤ℤ greatest_of types.Integer)
fits_all (pos n) fits = let below : n < 2 ^ 127 = fits.sfits in (omega (arith, ints), omega (arith, ints))
fits_all (negsuc n) fits = let below : n < 2 ^ 127 = fits.sfits in (omega (arith, ints), omega (arith, ints))

integer_back : PrintedValuesReadBack → (kind : Builtin) (value : AtomValue) → IsIntegerWithin (least_of kind) (greatest_of kind) value
    → within_type kind (with_fault types.Integer (value_of types.Integer (printed_value value))) ≡ Ok value
integer_back back kind (Num (Int i)) p =
    let all = fits_all i p.0 in
    ap (λ r. within_type kind (with_fault types.Integer r)) (back types.Integer (Num (Int i)) (p.0, all.0, all.1)) ∙ rw (in_range kind i p.1 p.2) refl
integer_back back kind _ p = absurd p

pub text_back : PrintedValuesReadBack → (kind : Builtin) (value : AtomValue) → FitsType kind value → cast_value kind (Str (printed_value value)) ≡ Ok value
text_back back types.AnyType value p = absurd p
text_back back types.Untyped value p = absurd p
text_back back types.AnySimple value p = absurd p
text_back back types.AnyAtomic value p = absurd p
text_back back types.UntypedAtomic value p = same_value _ value (back types.UntypedAtomic value p)
text_back back types.Str value p = same_value _ value (back types.Str value p)
text_back back types.NormalizedStr value p = same_value _ value (back types.NormalizedStr value p)
text_back back types.Token value p = same_value _ value (back types.Token value p)
text_back back types.Boolean value p = ap (with_fault types.Boolean) (back types.Boolean value p)
text_back back types.Decimal value p = ap (with_fault types.Decimal) (back types.Decimal value p)
text_back back kind value p = integer_back back kind value p
