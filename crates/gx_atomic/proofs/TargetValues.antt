-- What a cast gives is a value of its target.
use Rattle.std.proofs.Common.{◌≡◌, ℕ, ◌^◌, ◌<◌, Bool, true, false, T, List, Result, Ok, Err, refl, ap, sym, subst, ◌∙◌, arith}
use Rattle.std.specs.Prelude.{ℤ, int_le, ◌≤ℤ◌, pos, not, unsigned_abs}
use Rattle.std.specs.Int.{w128}
use Rattle.std.specs.Cmp.{first_so, second_so}
use Rattle.std.proofs.lemmas.Bool.{ltb-true}
use Rattle.std.proofs.lemmas.Int.{ints, quot_fits, fits_signed_from_abs}
use Rattle.gx_base.specs.declared.type_name.Builtin.{Builtin}
use Rattle.gx_base.specs.declared.type_name.Builtin.TheVariants as types
use Rattle.gx_num.specs.declared.Number.{Number}
use Rattle.gx_num.specs.declared.Number.TheVariants.{Int, Dec}
use Rattle.gx_num.specs.Number.{InRange, FitsInteger, FitsDecimal, units_of, fits_decimal, is_zero}
use Rattle.gx_num.specs.Arithmetic.{truncated}
use Rattle.gx_facets.specs.declared.AtomValue.{AtomValue}
use Rattle.gx_facets.specs.declared.AtomValue.TheVariants.{Untyped, Str, Truth, Num}
use Rattle.gx_facets.specs.declared.ValueRead.{ValueRead}
use Rattle.gx_facets.specs.WhiteSpace.{replaced, collapsed}
use Rattle.gx_facets.specs.Value.{value_of, printed_value, least_of, greatest_of}
use Rattle.gx_facets.specs.ValueSpace.{FitsType, IsBooleanValue, IsDecimalValue, IsIntegerWithin}
use Rattle.gx_atomic.specs.declared.casting.CastError.{CastError}
use Rattle.gx_atomic.specs.declared.casting.CastError.TheVariants.{FORG0001, FOCA0001}
use Rattle.gx_atomic.specs.Cast.{with_fault, read_at, to_boolean, to_decimal, to_integer, integer_to_decimal, in_type_range, within_type, cast_value}
use Rattle.gx_atomic.specs.Laws.{HasNumberInRange}
use Rattle.gx_atomic.proofs.Decisions.{by_answer}

-- a value that is read at a type is one of the type
abbrev pub ReadValuesFit : Type 0
ReadValuesFit = (kind : Builtin) (text : List ℕ) (value : AtomValue) → value_of kind text ≡ Ok value → FitsType kind value

given_is : (x given : AtomValue) → ◌≡◌ {A = Result AtomValue CastError} (Ok x) (Ok given) → x ≡ given
given_is x given e = cc

-- a text that is cast is read
read_back : (kind : Builtin) (read : Result AtomValue ValueRead) (given : AtomValue) → with_fault kind read ≡ Ok given → read ≡ Ok given
read_back kind (Ok value) given e = ap (λ (v : AtomValue). Ok v) (given_is value given e)
read_back kind (Err fault) given e = absurd (cc)

text_fits : ReadValuesFit → (kind : Builtin) (text : List ℕ) (given : AtomValue) → read_at kind text ≡ Ok given → FitsType kind given
text_fits reads kind text given e = reads kind text given (read_back kind (value_of kind text) given e)

-- ---- booleans and decimals

boolean_given : ReadValuesFit → (value given : AtomValue) → to_boolean value ≡ Ok given → IsBooleanValue given
boolean_given reads (Untyped text) given e = text_fits reads types.Boolean text given e
boolean_given reads (Str text) given e = text_fits reads types.Boolean text given e
boolean_given reads (Truth b) given e = subst IsBooleanValue (given_is (Truth b) given e) tt
boolean_given reads (Num n) given e = subst IsBooleanValue (given_is (Truth (not (is_zero n))) given e) tt

decimal_is : (u : ℤ) (given : AtomValue) → FitsDecimal u → ◌≡◌ {A = Result AtomValue CastError} (Ok (Num (Dec u))) (Ok given) → IsDecimalValue given
decimal_is u given fits e = subst IsDecimalValue (given_is (Num (Dec u)) given e) fits

integer_as_decimal : (i : ℤ) (given : AtomValue) → integer_to_decimal i ≡ Ok given → IsDecimalValue given
integer_as_decimal i given e =
    by_answer (fits_decimal (units_of (Int i)))
    (λ fits. decimal_is (units_of (Int i)) given (ltb-true (unsigned_abs (units_of (Int i))) 1000000000000000000 fits) (sym (fitting fits) ∙ e))
    (λ outside. absurd (no_value (sym (too_large outside) ∙ e)))
  where
    fitting : fits_decimal (units_of (Int i)) ≡ true → integer_to_decimal i ≡ Ok (Num (Dec (units_of (Int i))))
    fitting f = rw f refl

    too_large : fits_decimal (units_of (Int i)) ≡ false → integer_to_decimal i ≡ Err FOCA0001
    too_large f = rw f refl

    no_value : ◌≡◌ {A = Result AtomValue CastError} (Err FOCA0001) (Ok given) → ⊥
    no_value f = cc

decimal_given : ReadValuesFit → (value given : AtomValue) → HasNumberInRange value → to_decimal value ≡ Ok given → IsDecimalValue given
decimal_given reads (Untyped text) given p e = text_fits reads types.Decimal text given e
decimal_given reads (Str text) given p e = text_fits reads types.Decimal text given e
decimal_given reads (Truth true) given p e = decimal_is (pos 1000000) given (omega arith) e
decimal_given reads (Truth false) given p e = decimal_is (pos 0) given (omega arith) e
decimal_given reads (Num (Int i)) given p e = integer_as_decimal i given e
decimal_given reads (Num (Dec u)) given p e = decimal_is u given p e

-- ---- integers

small_fits : (z : ℤ) → unsigned_abs z < 2 ^ 127 → FitsInteger z
small_fits z h = fits_signed_from_abs w128 z h

truncated_fits : (n : Number) → InRange n → FitsInteger (truncated n)
truncated_fits (Int i) p = p
truncated_fits (Dec u) p = quot_fits w128 u (pos 1000000) (small_fits u (omega arith)) (omega (arith, ints))

abbrev GivesFitting : Result AtomValue CastError → Type 0
GivesFitting (Ok (Num (Int i))) = FitsInteger i
GivesFitting _ = Unit {0}

fitting_text : ReadValuesFit → (text : List ℕ) (cast : Result AtomValue CastError) → read_at types.Integer text ≡ cast → GivesFitting cast
fitting_text reads text (Ok (Num (Int i))) e = (text_fits reads types.Integer text (Num (Int i)) e).0
fitting_text reads text _ e = tt

gives_fitting : ReadValuesFit → (value : AtomValue) → HasNumberInRange value → GivesFitting (to_integer value)
gives_fitting reads (Untyped text) p = fitting_text reads text (read_at types.Integer text) refl
gives_fitting reads (Str text) p = fitting_text reads text (read_at types.Integer text) refl
gives_fitting reads (Truth true) p = small_fits (pos 1) (omega arith)
gives_fitting reads (Truth false) p = small_fits (pos 0) (omega arith)
gives_fitting reads (Num n) p = truncated_fits n p

to_T : (b : Bool) → b ≡ true → T b
to_T true e = tt
to_T false e = absurd (cc)

within_given : (kind : Builtin) (cast : Result AtomValue CastError) (given : AtomValue) → GivesFitting cast → within_type kind cast ≡ Ok given
    → IsIntegerWithin (least_of kind) (greatest_of kind) given
within_given kind (Ok (Num (Int i))) given fits e =
    by_answer (in_type_range kind i)
    (λ within.
    let low : least_of kind ≤ℤ i = record { le = to_T (int_le (least_of kind) i) (first_so (int_le (least_of kind) i) (int_le i (greatest_of kind)) within) } in
    let high : i ≤ℤ greatest_of kind = record { le = to_T (int_le i (greatest_of kind)) (second_so (int_le (least_of kind) i) (int_le i (greatest_of kind)) within) } in
    subst (IsIntegerWithin (least_of kind) (greatest_of kind)) (given_is (Num (Int i)) given (sym (inside within) ∙ e)) (fits, low, high))
    (λ out. absurd (no_value (sym (outside out) ∙ e)))
  where
    inside : in_type_range kind i ≡ true → within_type kind (Ok (Num (Int i))) ≡ Ok (Num (Int i))
    inside w = rw w refl

    outside : in_type_range kind i ≡ false → within_type kind (Ok (Num (Int i))) ≡ Err FORG0001
    outside w = rw w refl

    no_value : ◌≡◌ {A = Result AtomValue CastError} (Err FORG0001) (Ok given) → ⊥
    no_value f = cc
within_given kind (Ok value) given fits e = absurd (cc)
within_given kind (Err error) given fits e = absurd (cc)

-- ---- each target

-- the text is read at its type as it is cast
read_text : ReadValuesFit → (kind : Builtin) (text : List ℕ) (x given : AtomValue) → value_of kind text ≡ Ok x → ◌≡◌ {A = Result AtomValue CastError} (Ok x) (Ok given) → FitsType kind given
read_text reads kind text x given r e = subst (FitsType kind) (given_is x given e) (reads kind text x r)

pub target_value : ReadValuesFit → (kind : Builtin) (value given : AtomValue) → HasNumberInRange value → cast_value kind value ≡ Ok given → FitsType kind given
target_value reads types.AnyType value given p e = absurd (cc)
target_value reads types.Untyped value given p e = absurd (cc)
target_value reads types.AnySimple value given p e = absurd (cc)
target_value reads types.AnyAtomic value given p e = absurd (cc)
target_value reads types.UntypedAtomic value given p e = read_text reads types.UntypedAtomic (printed_value value) (Untyped (printed_value value)) given refl e
target_value reads types.Str value given p e = read_text reads types.Str (printed_value value) (Str (printed_value value)) given refl e
target_value reads types.NormalizedStr value given p e =
    read_text reads types.NormalizedStr (printed_value value) (Str (replaced (printed_value value))) given refl e
target_value reads types.Token value given p e = read_text reads types.Token (printed_value value) (Str (collapsed (printed_value value))) given refl e
target_value reads types.Boolean value given p e = boolean_given reads value given e
target_value reads types.Decimal value given p e = decimal_given reads value given p e
target_value reads kind value given p e = within_given kind (to_integer value) given (gives_fitting reads value p) e
