-- What reading gives is a value of the type.
use Rattle.std.proofs.Common.{◌≡◌, ◌≢◌, ℕ, Bool, true, false, cond, T, List, [], ◌∷◌, ◌++◌, ℤ, refl, ap, subst, arith}
use Rattle.std.specs.Prelude.{int_le, Result, Ok, Err}
use Rattle.std.proofs.lemmas.Bool.Decides.{nat_tests}
use Rattle.gx_base.specs.WhiteSpace.{is_white_space}
use Rattle.gx_base.specs.declared.type_name.Builtin.{Builtin}
use Rattle.gx_base.specs.declared.type_name.Builtin.TheVariants as types
use Rattle.gx_num.specs.declared.Number.TheVariants.{Int, Dec}
use Rattle.gx_num.specs.declared.NumRead.{NumRead}
use Rattle.gx_num.specs.Lexical.{ReadsInteger, ReadsDecimal, integer_of, decimal_of}
use Rattle.gx_facets.specs.WhiteSpace.{space_for, replaced, before_part, parts_of, joined_by_spaces, parts_behind_spaces, collapsed}
use Rattle.gx_facets.specs.declared.AtomValue.{AtomValue}
use Rattle.gx_facets.specs.declared.AtomValue.TheVariants.{Untyped, Str, Truth, Num}
use Rattle.gx_facets.specs.declared.ValueRead.{ValueRead}
use Rattle.gx_facets.specs.declared.ValueRead.TheVariants.{NotLexical}
use Rattle.gx_facets.specs.Value.{value_of, lexical_form, value_of_decimal, integer_within, least_of, greatest_of}
use Rattle.gx_facets.specs.ValueSpace.{HasNoSpace, HasSpacesAlone, AreTokenWords, IsToken, IsStringWith, IsUntypedValue, IsBooleanValue, IsDecimalValue, IsIntegerWithin, FitsType}

by_bool : {P : Type 0} (b : Bool) → (b ≡ true → P) → (b ≡ false → P) → P
by_bool true f g = f refl
by_bool false f g = g refl

-- ---- white space

space_for-alone : (c : ℕ) → (space_for c ≢ 9) × (space_for c ≢ 10) × (space_for c ≢ 13)
space_for-alone c = by_bool (is_white_space c)
    (λ e. (rw e (omega arith), rw e (omega arith), rw e (omega arith)))
    (λ e. (λ f. grind (arith, nat_tests), λ f. grind (arith, nat_tests), λ f. grind (arith, nat_tests)))

replaced-alone : (text : List ℕ) → HasSpacesAlone (replaced text)
replaced-alone [] = tt
replaced-alone (c ∷ cs) = let here = space_for-alone c in (here.0, here.1, here.2, replaced-alone cs)

abbrev HaveNoSpace : List (List ℕ) → Type 0
HaveNoSpace [] = Unit {0}
HaveNoSpace (part ∷ parts) = HasNoSpace part × HaveNoSpace parts

before_part-no_space : (c : ℕ) (parts : List (List ℕ)) → is_white_space c ≡ false → HaveNoSpace parts → HaveNoSpace (before_part c parts)
before_part-no_space c [] e p = ((e, tt), tt)
before_part-no_space c (part ∷ parts) e p = ((e, p.0), p.1)

parts_of-have_no_space : (text : List ℕ) → HaveNoSpace (parts_of text)
parts_of-have_no_space [] = (tt, tt)
parts_of-have_no_space (c ∷ cs) = by_bool (is_white_space c)
    (λ e. rw e (tt, parts_of-have_no_space cs))
    (λ e. rw e (before_part-no_space c (parts_of cs) e (parts_of-have_no_space cs)))

-- the parts that are not empty
abbrev full : List (List ℕ) → List (List ℕ)
full [] = []
full ([] ∷ parts) = full parts
full ((c ∷ cs) ∷ parts) = (c ∷ cs) ∷ full parts

full_words : (parts : List (List ℕ)) → HaveNoSpace parts → AreTokenWords (full parts)
full_words [] p = tt
full_words ([] ∷ parts) p = full_words parts p.1
full_words ((c ∷ cs) ∷ parts) p = ((λ e. cc, p.0), full_words parts p.1)

behind-full : (parts : List (List ℕ)) → parts_behind_spaces parts ≡ parts_behind_spaces (full parts)
behind-full [] = refl
behind-full ([] ∷ parts) = behind-full parts
behind-full ((c ∷ cs) ∷ parts) = ap (λ t. 32 ∷ ((c ∷ cs) ++ t)) (behind-full parts)

joined-full : (parts : List (List ℕ)) → joined_by_spaces parts ≡ joined_by_spaces (full parts)
joined-full [] = refl
joined-full ([] ∷ parts) = joined-full parts
joined-full ((c ∷ cs) ∷ parts) = ap (λ t. (c ∷ cs) ++ t) (behind-full parts)

collapsed-is_token : (text : List ℕ) → IsToken (collapsed text)
collapsed-is_token text = (full (parts_of text), full_words (parts_of text) (parts_of-have_no_space text), joined-full (parts_of text))

-- ---- the value that a reading answers

T_from_true : (b : Bool) → b ≡ true → T b
T_from_true true e = tt
T_from_true false e = absurd (cc)

same_value : (a v : AtomValue) → ◌≡◌ {A = Result AtomValue ValueRead} (Ok a) (Ok v) → a ≡ v
same_value a v e = cc

answered : (P : AtomValue → Type 0) (a v : AtomValue) → P a → ◌≡◌ {A = Result AtomValue ValueRead} (Ok a) (Ok v) → P v
answered P a v p e = subst P (same_value a v e) p

refused : {P : Type 0} (e : ValueRead) (v : AtomValue) → ◌≡◌ {A = Result AtomValue ValueRead} (Err e) (Ok v) → P
refused e v f = absurd (cc)

integer_reads_fit : (least greatest : ℤ) (text : List ℕ) (read : Result ℤ NumRead) (v : AtomValue) → ReadsInteger text read → integer_within least greatest read ≡ Ok v
    → IsIntegerWithin least greatest v
integer_reads_fit least greatest text (Ok i) v r e = by_bool (int_le least i)
    (λ low. by_bool (int_le i greatest)
    (λ high. answered (IsIntegerWithin least greatest) (Num (Int i)) v (r.1, record { le = T_from_true _ low }, record { le = T_from_true _ high }) (rw (low, high) at e))
    (λ high. refused NotLexical v (rw (low, high) at e)))
    (λ low. refused NotLexical v (rw low at e))
integer_reads_fit least greatest text (Err f) v r e = refused _ v e

decimal_reads_fit : (text : List ℕ) (read : Result ℤ NumRead) (v : AtomValue) → ReadsDecimal text read → value_of_decimal read ≡ Ok v → IsDecimalValue v
decimal_reads_fit text (Ok u) v r e = answered IsDecimalValue (Num (Dec u)) v r.1 e
decimal_reads_fit text (Err f) v r e = refused _ v e

boolean_reads_fit : (a b : Bool) (v : AtomValue)
    → ◌≡◌ {A = Result AtomValue ValueRead} (cond a (Ok (Truth true)) (cond b (Ok (Truth false)) (Err NotLexical))) (Ok v) → IsBooleanValue v
boolean_reads_fit true b v e = answered IsBooleanValue (Truth true) v tt e
boolean_reads_fit false true v e = answered IsBooleanValue (Truth false) v tt e
boolean_reads_fit false false v e = refused NotLexical v e

pub reads_fit : ((text : List ℕ) → ReadsInteger text (integer_of text)) → ((text : List ℕ) → ReadsDecimal text (decimal_of text))
    → (kind : Builtin) (text : List ℕ) (v : AtomValue) → value_of kind text ≡ Ok v → FitsType kind v
reads_fit integers decimals types.AnyType text v e = refused NotLexical v e
reads_fit integers decimals types.Untyped text v e = refused NotLexical v e
reads_fit integers decimals types.AnySimple text v e = refused NotLexical v e
reads_fit integers decimals types.AnyAtomic text v e = refused NotLexical v e
reads_fit integers decimals types.UntypedAtomic text v e = answered IsUntypedValue (Untyped text) v tt e
reads_fit integers decimals types.Str text v e = answered (IsStringWith (λ t. Unit {0})) (Str text) v tt e
reads_fit integers decimals types.NormalizedStr text v e = answered (IsStringWith HasSpacesAlone) (Str (replaced text)) v (replaced-alone text) e
reads_fit integers decimals types.Token text v e = answered (IsStringWith IsToken) (Str (collapsed text)) v (collapsed-is_token text) e
reads_fit integers decimals types.Boolean text v e = boolean_reads_fit _ _ v e
reads_fit integers decimals types.Decimal text v e = decimal_reads_fit (lexical_form text) (decimal_of (lexical_form text)) v (decimals (lexical_form text)) e
reads_fit integers decimals kind text v e =
    integer_reads_fit (least_of kind) (greatest_of kind) (lexical_form text) (integer_of (lexical_form text)) v (integers (lexical_form text)) e
