-- What is printed of a value, read again.
use Rattle.std.proofs.Common.{◌≡◌, ◌≢◌, ℕ, zero, suc, ◌<◌, Bool, true, false, T, List, [], ◌∷◌, ◌++◌, ℤ, ◌≤ℤ◌, refl, ap, sym, ◌∙◌, subst, arith, rules, inl, inr, append-nil}
use Rattle.std.specs.Prelude.{int_le, Ok, codes}
use Rattle.std.specs.Char.{digit_value}
use Rattle.std.specs.Str.{chars, encode_utf8_all, IsAscii}
use Rattle.std.specs.Str.Parse.{AllDigits}
use Rattle.std.proofs.lemmas.Bool.Decides.{nat_tests}
use Rattle.std.proofs.lemmas.Str.{chars-IsAscii, encodes-IsAscii, IsAscii-append}
use Rattle.std.proofs.lemmas.Str.Parse.{digit_from_value}
use Rattle.std.proofs.lemmas.Fmt.{IsAscii-from_digits}
use Rattle.gx_base.specs.declared.type_name.Builtin.{Builtin}
use Rattle.gx_base.specs.declared.type_name.Builtin.TheVariants as types
use Rattle.gx_num.specs.declared.Number.TheVariants.{Int, Dec}
use Rattle.gx_num.specs.Number.{FitsInteger, FitsDecimal}
use Rattle.gx_num.specs.Lexical.{NumeralSign, unsigned, plus, minus, sign_text, IntegerForm, DecimalForm, ReadsInteger, ReadsDecimal, integer_of, decimal_of}
use Rattle.gx_num.specs.Printed.{printed}
use Rattle.gx_base.specs.WhiteSpace.{is_white_space}
use Rattle.gx_facets.specs.WhiteSpace.{space_for, replaced, before_part, parts_of, joined_by_spaces, parts_behind_spaces, collapsed}
use Rattle.gx_facets.specs.declared.AtomValue.{AtomValue}
use Rattle.gx_facets.specs.declared.AtomValue.TheVariants.{Untyped, Str, Truth, Num}
use Rattle.gx_facets.specs.Value.{value_of, lexical_form, boolean_value, value_of_decimal, integer_within, least_of, greatest_of, printed_value}
use Rattle.gx_facets.specs.ValueSpace.{HasNoSpace, HasSpacesAlone, AreTokenWords, IsToken, IsUntypedValue, IsStringWith, IsBooleanValue, IsDecimalValue, IsIntegerWithin, FitsType, IsIntegerType, ReadsByIntegerForm, ReadsByDecimalForm}

-- ---- texts without white space

pub no_space-append : (xs ys : List ℕ) → HasNoSpace xs → HasNoSpace ys → HasNoSpace (xs ++ ys)
no_space-append [] ys p q = q
no_space-append (c ∷ cs) ys p q = (p.0, no_space-append cs ys p.1 q)

-- a word, and then the parts of what follows it
abbrev pub before_parts : List ℕ → List (List ℕ) → List (List ℕ)
before_parts [] parts = parts
before_parts (c ∷ cs) parts = before_part c (before_parts cs parts)

parts_of-no_space : (word rest : List ℕ) → HasNoSpace word → parts_of (word ++ rest) ≡ before_parts word (parts_of rest)
parts_of-no_space [] rest p = refl
parts_of-no_space (c ∷ cs) rest p = rw p.0 (ap (before_part c) (parts_of-no_space cs rest p.1))

before_parts-cons : (word part : List ℕ) (parts : List (List ℕ)) → before_parts word (part ∷ parts) ≡ (word ++ part) ∷ parts
before_parts-cons [] part parts = refl
before_parts-cons (c ∷ cs) part parts = ap (before_part c) (before_parts-cons cs part parts)

parts_of-word : (word : List ℕ) → HasNoSpace word → parts_of word ≡ word ∷ []
parts_of-word word p = ap parts_of (sym (append-nil word)) ∙ parts_of-no_space word [] p ∙ before_parts-cons word [] [] ∙ ap (λ w. w ∷ []) (append-nil word)

joined-one : (word : List ℕ) → joined_by_spaces (word ∷ []) ≡ word
joined-one [] = refl
joined-one (c ∷ cs) = append-nil (c ∷ cs)

pub collapsed-no_space : (text : List ℕ) → HasNoSpace text → collapsed text ≡ text
collapsed-no_space text p = ap joined_by_spaces (parts_of-word text p) ∙ joined-one text

-- ---- tokens

parts_of-word_and_others : (word : List ℕ) (words : List (List ℕ)) → HasNoSpace word → parts_of (parts_behind_spaces words) ≡ [] ∷ words → parts_of (word ++ parts_behind_spaces words) ≡ word ∷ words
parts_of-word_and_others word words p e =
    parts_of-no_space word (parts_behind_spaces words) p ∙ ap (before_parts word) e ∙ before_parts-cons word [] words ∙ ap (λ w. w ∷ words) (append-nil word)

parts_of-behind : (words : List (List ℕ)) → AreTokenWords words → parts_of (parts_behind_spaces words) ≡ [] ∷ words
parts_of-behind [] p = refl
parts_of-behind ([] ∷ words) p = absurd (p.0.0 refl)
parts_of-behind ((c ∷ cs) ∷ words) p = ap (λ ps. [] ∷ ps) (parts_of-word_and_others (c ∷ cs) words p.0.1 (parts_of-behind words p.1))

parts_of-token : (words : List (List ℕ)) → AreTokenWords words → joined_by_spaces (parts_of (joined_by_spaces words)) ≡ joined_by_spaces words
parts_of-token [] p = refl
parts_of-token ([] ∷ words) p = absurd (p.0.0 refl)
parts_of-token ((c ∷ cs) ∷ words) p = ap joined_by_spaces (parts_of-word_and_others (c ∷ cs) words p.0.1 (parts_of-behind words p.1))

pub collapsed-token : (text : List ℕ) → IsToken text → collapsed text ≡ text
collapsed-token text (words, are, e) = ap collapsed e ∙ parts_of-token words are ∙ sym e

-- ---- texts with spaces alone

space_for-kept : (c : ℕ) → c ≢ 9 → c ≢ 10 → c ≢ 13 → space_for c ≡ c
space_for-kept c p q r = grind (arith, nat_tests)

pub replaced-spaces_alone : (text : List ℕ) → HasSpacesAlone text → replaced text ≡ text
replaced-spaces_alone [] p = refl
replaced-spaces_alone (c ∷ cs) (p, q, r, rest) = ap (λ d. d ∷ replaced cs) (space_for-kept c p q r) ∙ ap (λ ds. c ∷ ds) (replaced-spaces_alone cs rest)

-- ---- numbers

digit_is_no_space : (c : ℕ) → digit_value c < 10 → is_white_space c ≡ false
digit_is_no_space c h = let range = digit_from_value c h in grind (arith, nat_tests)

pub digits_no_space : (ds : List ℕ) → AllDigits 10 ds → HasNoSpace ds
digits_no_space [] all = tt
digits_no_space (c ∷ cs) all = (digit_is_no_space c all.0, digits_no_space cs all.1)

sign_no_space : (sign : NumeralSign) → HasNoSpace (sign_text sign)
sign_no_space unsigned = tt
sign_no_space plus = (refl, tt)
sign_no_space minus = (refl, tt)

one_ascii : (c : ℕ) → c < 128 → IsAscii (c ∷ [])
one_ascii c h zero = h
one_ascii c h (suc i) = omega arith

none_ascii : IsAscii []
none_ascii i = omega arith

sign_ascii : (sign : NumeralSign) → IsAscii (sign_text sign)
sign_ascii unsigned = none_ascii
sign_ascii plus = one_ascii 43 (omega arith)
sign_ascii minus = one_ascii 45 (omega arith)

-- a text that reading takes as it is
pub record IsPlain (text : List ℕ) : Type 0 where
  pub no_space : HasNoSpace text
  pub ascii : IsAscii text

signed_digits_plain : (sign : NumeralSign) (ds : List ℕ) → AllDigits 10 ds → IsPlain (sign_text sign ++ ds)
signed_digits_plain sign ds all = record {
  no_space = no_space-append (sign_text sign) ds (sign_no_space sign) (digits_no_space ds all);
  ascii = IsAscii-append (sign_text sign) ds (sign_ascii sign) (IsAscii-from_digits ds all);
}

integer_form_plain : (text : List ℕ) (z : ℤ) → IntegerForm text z → IsPlain text
integer_form_plain text z form = subst IsPlain (sym form.written) (signed_digits_plain form.sign form.magnitude form.numeral.1)

point_plain : (fraction : List ℕ) → AllDigits 10 fraction → IsPlain (46 ∷ fraction)
point_plain fraction all = record {
  no_space = (refl, digits_no_space fraction all);
  ascii = IsAscii-append (46 ∷ []) fraction (one_ascii 46 (omega arith)) (IsAscii-from_digits fraction all);
}

plain-append : (xs ys : List ℕ) → IsPlain xs → IsPlain ys → IsPlain (xs ++ ys)
plain-append xs ys p q = record { no_space = no_space-append xs ys p.no_space q.no_space; ascii = IsAscii-append xs ys p.ascii q.ascii }

digits_plain : (ds : List ℕ) → AllDigits 10 ds → IsPlain ds
digits_plain ds all = record { no_space = digits_no_space ds all; ascii = IsAscii-from_digits ds all }

sign_plain : (sign : NumeralSign) → IsPlain (sign_text sign)
sign_plain sign = record { no_space = sign_no_space sign; ascii = sign_ascii sign }

decimal_form_plain : (text : List ℕ) (sign : NumeralSign) (whole fraction : List ℕ) → DecimalForm text sign whole fraction → IsPlain text
decimal_form_plain text sign whole fraction form = elim form.written [
  | inl e ↦ subst IsPlain (sym e) (plain-append (sign_text sign) (whole ++ 46 ∷ fraction) (sign_plain sign)
      (plain-append whole (46 ∷ fraction) (digits_plain whole form.whole_digits) (point_plain fraction form.fraction_digits)))
  | inr e ↦ subst IsPlain (sym e.0) (plain-append (sign_text sign) whole (sign_plain sign) (digits_plain whole form.whole_digits))
]

pub plain_form : (text : List ℕ) → IsPlain text → lexical_form text ≡ text
plain_form text p = ap encode_utf8_all (collapsed-no_space text p.no_space) ∙ encodes-IsAscii text p.ascii

plain_characters : (text : List ℕ) → IsPlain text → lexical_form (chars text) ≡ text
plain_characters text p = ap lexical_form (chars-IsAscii text p.ascii) ∙ plain_form text p

-- ---- the values of each type

-- what is known of numbers
pub record NumbersAreRead : Type 0 where
  pub integer_forms : (text : List ℕ) → ReadsInteger text (integer_of text)
  pub decimal_forms : (text : List ℕ) → ReadsDecimal text (decimal_of text)
  pub integers_back : (i : ℤ) → FitsInteger i → integer_of (printed (Int i)) ≡ Ok i
  pub decimals_back : (u : ℤ) → FitsDecimal u → decimal_of (printed (Dec u)) ≡ Ok u

true_from_T : (b : Bool) → T b → b ≡ true
true_from_T true t = refl
true_from_T false t = absurd t

within : (least greatest i : ℤ) → least ≤ℤ i → i ≤ℤ greatest → integer_within least greatest (Ok i) ≡ Ok (Num (Int i))
within least greatest i low high = rw (true_from_T (int_le least i) low.le, true_from_T (int_le i greatest) high.le) refl

integer_back : NumbersAreRead → (least greatest : ℤ) (value : AtomValue) → IsIntegerWithin least greatest value
    → integer_within least greatest (integer_of (lexical_form (printed_value value))) ≡ Ok value
integer_back read least greatest (Num (Int i)) p =
    let text = printed (Int i) in
    let again : integer_of text ≡ Ok i = read.integers_back i p.0 in
    let form : ReadsInteger text (Ok i) = subst (ReadsInteger text) again (read.integer_forms text) in
    ap (λ t. integer_within least greatest (integer_of t)) (plain_characters text (integer_form_plain text i form.0))
    ∙ ap (integer_within least greatest) again ∙ within least greatest i p.1 p.2
integer_back read least greatest _ p = absurd p

decimal_back : NumbersAreRead → (value : AtomValue) → IsDecimalValue value → value_of types.Decimal (printed_value value) ≡ Ok value
decimal_back read (Num (Dec u)) p =
    let text = printed (Dec u) in
    let again : decimal_of text ≡ Ok u = read.decimals_back u p in
    let form : ReadsDecimal text (Ok u) = subst (ReadsDecimal text) again (read.decimal_forms text) in
    let parts = form.0 in
    ap (λ t. value_of_decimal (decimal_of t)) (plain_characters text (decimal_form_plain text parts.0 parts.1 parts.2 parts.3)) ∙ ap value_of_decimal again
decimal_back read _ p = absurd p

untyped_back : (value : AtomValue) → IsUntypedValue value → value_of types.UntypedAtomic (printed_value value) ≡ Ok value
untyped_back (Untyped text) p = refl
untyped_back _ p = absurd p

string_back : (value : AtomValue) → IsStringWith (λ text. Unit {0}) value → value_of types.Str (printed_value value) ≡ Ok value
string_back (Str text) p = refl
string_back _ p = absurd p

normalized_back : (value : AtomValue) → IsStringWith HasSpacesAlone value → value_of types.NormalizedStr (printed_value value) ≡ Ok value
normalized_back (Str text) p = ap (λ t. Ok (Str t)) (replaced-spaces_alone text p)
normalized_back _ p = absurd p

token_back : (value : AtomValue) → IsStringWith IsToken value → value_of types.Token (printed_value value) ≡ Ok value
token_back (Str text) p = ap (λ t. Ok (Str t)) (collapsed-token text p)
token_back _ p = absurd p

true_plain : IsPlain (codes "true")
true_plain = record { no_space = (refl, (refl, (refl, (refl, tt)))); ascii = search rules }

false_plain : IsPlain (codes "false")
false_plain = record { no_space = (refl, (refl, (refl, (refl, (refl, tt))))); ascii = search rules }

boolean_back : (value : AtomValue) → IsBooleanValue value → value_of types.Boolean (printed_value value) ≡ Ok value
boolean_back (Truth true) p = ap boolean_value (plain_form (codes "true") true_plain)
boolean_back (Truth false) p = ap boolean_value (plain_form (codes "false") false_plain)
boolean_back _ p = absurd p

pub printed_back : NumbersAreRead → (kind : Builtin) (value : AtomValue) → FitsType kind value → value_of kind (printed_value value) ≡ Ok value
printed_back read types.AnyType value p = absurd p
printed_back read types.Untyped value p = absurd p
printed_back read types.AnySimple value p = absurd p
printed_back read types.AnyAtomic value p = absurd p
printed_back read types.UntypedAtomic value p = untyped_back value p
printed_back read types.Str value p = string_back value p
printed_back read types.NormalizedStr value p = normalized_back value p
printed_back read types.Token value p = token_back value p
printed_back read types.Boolean value p = boolean_back value p
printed_back read types.Decimal value p = decimal_back read value p
printed_back read kind value p = integer_back read (least_of kind) (greatest_of kind) value p

-- ---- numbers by their forms

pub integers_by_form : ((text : List ℕ) → ReadsInteger text (integer_of text)) → (kind : Builtin) (text : List ℕ) → IsIntegerType kind → ReadsByIntegerForm kind text
integers_by_form read types.AnyType text p = absurd p
integers_by_form read types.Untyped text p = absurd p
integers_by_form read types.AnySimple text p = absurd p
integers_by_form read types.AnyAtomic text p = absurd p
integers_by_form read types.UntypedAtomic text p = absurd p
integers_by_form read types.Str text p = absurd p
integers_by_form read types.NormalizedStr text p = absurd p
integers_by_form read types.Token text p = absurd p
integers_by_form read types.Boolean text p = absurd p
integers_by_form read types.Decimal text p = absurd p
integers_by_form read kind text p = (integer_of (lexical_form text), read (lexical_form text), refl)

pub decimals_by_form : ((text : List ℕ) → ReadsDecimal text (decimal_of text)) → (text : List ℕ) → ReadsByDecimalForm text
decimals_by_form read text = (decimal_of (lexical_form text), read (lexical_form text), refl)
