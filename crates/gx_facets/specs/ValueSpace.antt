-- Which values each built-in type has (XML Schema Part 2, section 3), and what reading a number's text comes to.
use Rattle.std.specs.Prelude.{◌≡◌, ◌≢◌, ℕ, List, [], ◌∷◌, ℤ, ◌≤ℤ◌, false, Result}
use Rattle.gx_base.specs.declared.type_name.Builtin.{Builtin}
use Rattle.gx_base.specs.declared.type_name.Builtin.TheVariants as types
use Rattle.gx_num.specs.declared.Number.TheVariants.{Int, Dec}
use Rattle.gx_num.specs.declared.NumRead.{NumRead}
use Rattle.gx_num.specs.Number.{FitsInteger, FitsDecimal}
use Rattle.gx_num.specs.Lexical.{ReadsInteger, ReadsDecimal}
use Rattle.gx_base.specs.WhiteSpace.{is_white_space}
use Rattle.gx_facets.specs.WhiteSpace.{joined_by_spaces}
use Rattle.gx_facets.specs.Value.{value_of, lexical_form, least_of, greatest_of, integer_within, value_of_decimal}
use Rattle.gx_facets.specs.declared.AtomValue.{AtomValue}
use Rattle.gx_facets.specs.declared.AtomValue.TheVariants.{Untyped, Str, Truth, Num}

-- ---- texts without some white space

abbrev pub HasNoSpace : List ℕ → Type 0
HasNoSpace [] = Unit {0}
HasNoSpace (c ∷ cs) = (is_white_space c ≡ false) × HasNoSpace cs

-- no white space but spaces
abbrev pub HasSpacesAlone : List ℕ → Type 0
HasSpacesAlone [] = Unit {0}
HasSpacesAlone (c ∷ cs) = (c ≢ 9) × (c ≢ 10) × (c ≢ 13) × HasSpacesAlone cs

abbrev pub IsTokenWord : List ℕ → Type 0
IsTokenWord word = (word ≢ []) × HasNoSpace word

abbrev pub AreTokenWords : List (List ℕ) → Type 0
AreTokenWords [] = Unit {0}
AreTokenWords (word ∷ words) = IsTokenWord word × AreTokenWords words

-- words with one space between two of them
abbrev pub IsToken : List ℕ → Type 0
IsToken text = (words : List (List ℕ)) × AreTokenWords words × (text ≡ joined_by_spaces words)

-- ---- the values of each type

abbrev pub IsUntypedValue : AtomValue → Type 0
IsUntypedValue (Untyped text) = Unit {0}
IsUntypedValue _ = ⊥

-- a string of which P holds
abbrev pub IsStringWith : (List ℕ → Type 0) → AtomValue → Type 0
IsStringWith P (Str text) = P text
IsStringWith P _ = ⊥

abbrev pub IsBooleanValue : AtomValue → Type 0
IsBooleanValue (Truth b) = Unit {0}
IsBooleanValue _ = ⊥

abbrev pub IsDecimalValue : AtomValue → Type 0
IsDecimalValue (Num (Dec u)) = FitsDecimal u
IsDecimalValue _ = ⊥

-- an xs:integer from the least to the greatest number
abbrev pub IsIntegerWithin : ℤ → ℤ → AtomValue → Type 0
IsIntegerWithin least greatest (Num (Int i)) = FitsInteger i × (least ≤ℤ i) × (i ≤ℤ greatest)
IsIntegerWithin least greatest _ = ⊥

abbrev pub IsIntegerType : Builtin → Type 0
IsIntegerType types.AnyType = ⊥
IsIntegerType types.Untyped = ⊥
IsIntegerType types.AnySimple = ⊥
IsIntegerType types.AnyAtomic = ⊥
IsIntegerType types.UntypedAtomic = ⊥
IsIntegerType types.Str = ⊥
IsIntegerType types.NormalizedStr = ⊥
IsIntegerType types.Token = ⊥
IsIntegerType types.Boolean = ⊥
IsIntegerType types.Decimal = ⊥
IsIntegerType _ = Unit {0}

-- the value is one of the type; xs:anyAtomicType and types that are not atomic have none of their own
abbrev pub FitsType : Builtin → AtomValue → Type 0
FitsType types.AnyType value = ⊥
FitsType types.Untyped value = ⊥
FitsType types.AnySimple value = ⊥
FitsType types.AnyAtomic value = ⊥
FitsType types.UntypedAtomic value = IsUntypedValue value
FitsType types.Str value = IsStringWith (λ text. Unit {0}) value
FitsType types.NormalizedStr value = IsStringWith HasSpacesAlone value
FitsType types.Token value = IsStringWith IsToken value
FitsType types.Boolean value = IsBooleanValue value
FitsType types.Decimal value = IsDecimalValue value
FitsType kind value = IsIntegerWithin (least_of kind) (greatest_of kind) value

-- ---- numbers by their forms

-- the answer at an integer type is the integer that the text's form gives, where that lies within the type's range
abbrev pub ReadsByIntegerForm : Builtin → List ℕ → Type 0
ReadsByIntegerForm kind text =
    (read : Result ℤ NumRead) × ReadsInteger (lexical_form text) read × (value_of kind text ≡ integer_within (least_of kind) (greatest_of kind) read)

-- the answer at xs:decimal is the number that the text's form gives
abbrev pub ReadsByDecimalForm : List ℕ → Type 0
ReadsByDecimalForm text =
    (read : Result ℤ NumRead) × ReadsDecimal (lexical_form text) read × (value_of types.Decimal text ≡ value_of_decimal read)
