-- Results of arithmetic belong to its type.
use Rattle.std.proofs.Common.{◌≡◌, ℤ, int_rem, Bool, true, false, ◌&&◌, [], ◌∷◌, Option, Some, Result, Ok, Err, refl, sym, subst}
use Rattle.std.proofs.lemmas.Bool.{and_parts}
use Rattle.gx_base.specs.declared.type_name.Builtin.{Builtin}
use Rattle.gx_base.specs.declared.type_name.Builtin.TheVariants.{Integer, Decimal}
use Rattle.gx_base.specs.declared.type_name.TypeName.{TypeName}
use Rattle.gx_base.specs.declared.type_name.TypeName.TheVariants as names
use Rattle.gx_num.specs.declared.Number.{Number}
use Rattle.gx_num.specs.declared.Number.TheVariants.{Int, Dec}
use Rattle.gx_num.specs.declared.NumFault.{NumFault}
use Rattle.gx_num.specs.Number.{is_zero}
use Rattle.gx_num.specs.Arithmetic.{ranged, divided, exact_negation, in_range_or_overflow}
use Rattle.gx_facets.specs.declared.AtomValue.{AtomValue}
use Rattle.gx_facets.specs.declared.AtomValue.TheVariants as values
use Rattle.gx_types.specs.SchemaSet.{SchemaSet}
use Rattle.gx_types.specs.Derivation.{DerivesFrom}
use Rattle.gx_types.specs.Occurs.{Occurs}
use Rattle.gx_types.specs.Occurrence.{occurrence_of}
use Rattle.gx_types.specs.SequenceType.{SequenceType}
use Rattle.gx_types.specs.TypeRules.{times_of}
use Rattle.gx_types.specs.Laws.{Allows}
use Rattle.gx_model.specs.Forest.{Forest}
use Rattle.gx_model.specs.Honest.{IsHonest}
use Rattle.gx_model.specs.Item.{Item, atom, Items}
use Rattle.gx_model.specs.Belongs.{ValueFits, Belongs}
use Rattle.gx_core.specs.declared.expression.ArithmeticOp.{ArithmeticOp}
use Rattle.gx_core.specs.declared.expression.ArithmeticOp.TheVariants.{Add, Sub, Mul, Div, IDiv, Mod}
use Rattle.gx_core.specs.declared.expression.BinaryClass.TheVariants as classes
use Rattle.gx_core.specs.declared.operator.Operator.TheVariants as operators
use Rattle.gx_core.specs.Outcome.{given}
use Rattle.gx_core.specs.Meaning.{binary_meaning}
use Rattle.gx_funcs.specs.Numbers.{number_of_value, type_of_number, number_atom}
use Rattle.gx_core.specs.Arithmetic.{number_of_item, computed, integer_result, result_of, computed_of_items, negation_of_item, negation}
use Rattle.gx_core.specs.Soundness.{typed_setting, IsOfType, Keeps}
use Rattle.gx_core.proofs.KeptFacts.{fact_at_once}
use Rattle.gx_static.specs.Rule.{atomic, is_all_in, is_at_most_one, is_optional_in, integer_if, number_type, arithmetic_type}
use Rattle.gx_static.specs.Laws.{ArithmeticKeepsType, NegationKeepsType}
use Rattle.gx_static.proofs.ItemLemmas.{IsAtomIn, items_are_in, the_item}
use Rattle.gx_static.proofs.LiteralLemmas.{string_is_no_number, boolean_is_no_number, untyped_is_no_number, number_fits}
use Rattle.gx_static.proofs.Keeping.{type_so, pair_keeps, single_keeps}
use Rattle.gx_static.proofs.Singles.{atom_belongs, one_keeps, two_keep}

-- an item whose type is derived from xs:decimal is a number
pub value_is_number : (s : SchemaSet) (v : AtomValue) (kind : TypeName) → ValueFits s v kind → DerivesFrom s kind (names.Builtin Decimal) → (n : Number) × (number_of_value v ≡ Some n)
value_is_number s (values.Untyped t) kind f d = absurd (untyped_is_no_number s kind f d)
value_is_number s (values.Str t) kind f d = absurd (string_is_no_number s kind f d)
value_is_number s (values.Truth b) kind f d = absurd (boolean_is_no_number s kind f d)
value_is_number s (values.Num n) kind f d = (n, refl)

abbrev pub IsNumber : Item → Type 0
IsNumber x = (n : Number) × (number_of_item x ≡ Some n)

pub item_is_number : (s : SchemaSet) (x : Item) → IsAtomIn s Decimal x → IsNumber x
item_is_number s x a = subst IsNumber (sym a.is) (value_is_number s a.value.value a.value.kind a.fits a.derived)

-- and one whose type is derived from xs:integer is an integer
value_is_integer : (s : SchemaSet) (v : AtomValue) (kind : TypeName) (n : Number) → ValueFits s v kind → DerivesFrom s kind (names.Builtin Integer) → number_of_value v ≡ Some n → (i : ℤ) × (n ≡ Int i)
value_is_integer s (values.Untyped t) kind n f d e = absurd (cc)
value_is_integer s (values.Str t) kind n f d e = absurd (cc)
value_is_integer s (values.Truth b) kind n f d e = absurd (cc)
value_is_integer s (values.Num (Int i)) kind n f d e = let same : Int i ≡ n = cc in (i, sym same)
value_is_integer s (values.Num (Dec u)) kind n f d e = absurd (f.1 d)

pub item_is_integer : (s : SchemaSet) (x : Item) (n : Number) → IsAtomIn s Integer x → number_of_item x ≡ Some n → (i : ℤ) × (n ≡ Int i)
item_is_integer s x n a e = value_is_integer s a.value.value a.value.kind n a.fits a.derived (subst (λ (y : Item). number_of_item y ≡ Some n) a.is e)

pub number_is_decimal : (s : SchemaSet) (n : Number) → DerivesFrom s (names.Builtin (type_of_number n)) (names.Builtin Decimal)
number_is_decimal s (Int i) = (1, (names.Builtin Decimal, refl, refl))
number_is_decimal s (Dec u) = (0, refl)

pub number_belongs : (s : SchemaSet) (forest : Forest) (b : Builtin) (o : Occurs) (n : Number) → DerivesFrom s (names.Builtin (type_of_number n)) (names.Builtin b) → Allows o 1 → Belongs s forest (atom (number_atom n) ∷ []) (times_of (atomic b) o)
number_belongs s forest b o n d w = atom_belongs s forest (names.Builtin b) o (number_atom n) (number_fits s n) d w

computed_keeps : (s : SchemaSet) (forest : Forest) (t : SequenceType) (r : Result Number NumFault) → IsHonest s forest → ((n : Number) → r ≡ Ok n → Belongs s forest (atom (number_atom n) ∷ []) t) → Keeps (typed_setting s) forest t (computed r forest)
computed_keeps s forest t (Ok n) honest h = fact_at_once (typed_setting s) forest (IsOfType s t) (atom (number_atom n) ∷ []) honest (h n refl)
computed_keeps s forest t (Err fault) honest h = tt

-- ---- what an operation yields of two integers is an integer

abbrev pub IsInteger : Number → Type 0
IsInteger n = (i : ℤ) × (n ≡ Int i)

ranged_is : {T : Type 0} (fits : Bool) (x n : T) → ranged fits x ≡ Ok n → n ≡ x
ranged_is true x n e = cc
ranged_is false x n e = absurd (cc)

divided_is : {T : Type 0} (zero fits : Bool) (x n : T) → divided zero fits x ≡ Ok n → n ≡ x
divided_is true fits x n e = absurd (cc)
divided_is false fits x n e = ranged_is fits x n e

integer_results : (r : Result ℤ NumFault) (n : Number) → integer_result r ≡ Ok n → IsInteger n
integer_results (Ok i) n e = let same : ◌≡◌ {A = Result Number NumFault} (Ok (Int i)) (Ok n) = e in (i, cc)
integer_results (Err fault) n e = absurd (cc)

integers_yield_integers : (operation : ArithmeticOp) (i j : ℤ) (n : Number) → result_of operation (Int i) (Int j) ≡ Ok n → (operation ≡ Div → ⊥) → IsInteger n
integers_yield_integers Add i j n e h = (_, ranged_is _ _ n e)
integers_yield_integers Sub i j n e h = (_, ranged_is _ _ n e)
integers_yield_integers Mul i j n e h = (_, ranged_is _ _ n e)
integers_yield_integers Div i j n e h = absurd (h refl)
integers_yield_integers IDiv i j n e h = integer_results _ n e
integers_yield_integers Mod i j n e h = (int_rem i j, divided_is (is_zero (Int j)) true (Int (int_rem i j)) n e)

integer_derives : (s : SchemaSet) (n : Number) → IsInteger n → DerivesFrom s (names.Builtin (type_of_number n)) (names.Builtin Integer)
integer_derives s n k = subst (λ (a : Number). DerivesFrom s (names.Builtin (type_of_number a)) (names.Builtin Integer)) (sym k.1) (0, refl)

pub both_integers : (s : SchemaSet) (operation : ArithmeticOp) (m n r : Number) → (operation ≡ Div → ⊥) → IsInteger m → IsInteger n → result_of operation m n ≡ Ok r → IsInteger r
both_integers s operation m n r h i j e =
    integers_yield_integers operation i.0 j.0 r (subst (λ (a : Number). result_of operation a (Int j.0) ≡ Ok r) i.1 (subst (λ (a : Number). result_of operation m a ≡ Ok r) j.1 e)) h

pub if_whole : (s : SchemaSet) (whole : Bool) (n : Number) → (whole ≡ true → IsInteger n) → DerivesFrom s (names.Builtin (type_of_number n)) (names.Builtin (integer_if whole))
if_whole s true n h = integer_derives s n (h refl)
if_whole s false n h = number_is_decimal s n

result_derives : (s : SchemaSet) (operation : ArithmeticOp) (t u : SequenceType) (m n r : Number) → ((is_all_in s Integer t && is_all_in s Integer u) ≡ true → IsInteger m × IsInteger n) → result_of operation m n ≡ Ok r
    → DerivesFrom s (names.Builtin (type_of_number r)) (names.Builtin (number_type s operation t u))
result_derives s Add t u m n r h e = if_whole s (is_all_in s Integer t && is_all_in s Integer u) r (λ w. both_integers s Add m n r (λ d. cc) (h w).0 (h w).1 e)
result_derives s Sub t u m n r h e = if_whole s (is_all_in s Integer t && is_all_in s Integer u) r (λ w. both_integers s Sub m n r (λ d. cc) (h w).0 (h w).1 e)
result_derives s Mul t u m n r h e = if_whole s (is_all_in s Integer t && is_all_in s Integer u) r (λ w. both_integers s Mul m n r (λ d. cc) (h w).0 (h w).1 e)
result_derives s Div t u m n r h e = number_is_decimal s r
result_derives s IDiv t u m n r h e = integer_derives s r (integer_results _ r e)
result_derives s Mod t u m n r h e = if_whole s (is_all_in s Integer t && is_all_in s Integer u) r (λ w. both_integers s Mod m n r (λ d. cc) (h w).0 (h w).1 e)

-- ---- two operands

computed_items_keep : (s : SchemaSet) (forest : Forest) (operation : ArithmeticOp) (b : Builtin) (o : Occurs) (x y : Item) → IsHonest s forest → IsNumber x → IsNumber y
    → ((m n r : Number) → number_of_item x ≡ Some m → number_of_item y ≡ Some n → result_of operation m n ≡ Ok r → DerivesFrom s (names.Builtin (type_of_number r)) (names.Builtin b)) → Allows o 1
    → Keeps (typed_setting s) forest (times_of (atomic b) o) (computed_of_items operation x y forest)
computed_items_keep s forest operation b o x y honest p q h w =
    subst (λ (m : Option Number). Keeps (typed_setting s) forest (times_of (atomic b) o) (given m (λ m. given (number_of_item y) (λ n. computed (result_of operation m n) forest)))) (sym p.1)
    (subst (λ (n : Option Number). Keeps (typed_setting s) forest (times_of (atomic b) o) (given n (λ n. computed (result_of operation p.0 n) forest))) (sym q.1)
    (computed_keeps s forest (times_of (atomic b) o) (result_of operation p.0 q.0) honest (λ r e. number_belongs s forest b o r (h p.0 q.0 r p.1 q.1 e) w)))

the_number : (s : SchemaSet) (forest : Forest) (t : SequenceType) (xs : Items) (x : Item) → is_all_in s Decimal t ≡ true → Belongs s forest xs t → xs ≡ x ∷ [] → IsNumber x
the_number s forest t xs x e b i = item_is_number s x (the_item (IsAtomIn s Decimal) xs x i (items_are_in s forest Decimal xs t e b))

the_integer : (s : SchemaSet) (forest : Forest) (t : SequenceType) (xs : Items) (x : Item) (n : Number) → is_all_in s Integer t ≡ true → Belongs s forest xs t → xs ≡ x ∷ [] → number_of_item x ≡ Some n → IsInteger n
the_integer s forest t xs x n e b i f = item_is_integer s x n (the_item (IsAtomIn s Integer) xs x i (items_are_in s forest Integer xs t e b)) f

pub arithmetic_keeps : ArithmeticKeepsType
arithmetic_keeps operation s operator class = pair_keeps s operator (classes.Arithmetic operation) class (λ a b t forest xs ys e honest h k.
    let r = type_so (is_optional_in s Decimal a && is_optional_in s Decimal b) (arithmetic_type s operation a b) t e in
    let both = and_parts (is_optional_in s Decimal a) (is_optional_in s Decimal b) r.0 in
    let p = and_parts (is_at_most_one a) (is_all_in s Decimal a) both.0 in
    let q = and_parts (is_at_most_one b) (is_all_in s Decimal b) both.1 in
    subst (λ (u : SequenceType). Keeps (typed_setting s) forest u (binary_meaning (classes.Arithmetic operation) xs ys forest)) r.1
    (two_keep s forest a b (atomic (number_type s operation a b)) (computed_of_items operation) xs ys honest p.0 q.0 h k
    (λ x y o i j w. computed_items_keep s forest operation (number_type s operation a b) o x y honest (the_number s forest a xs x p.1 h i) (the_number s forest b ys y q.1 k j)
    (λ m n r f g o. result_derives s operation a b m n r
    (λ whole. let v = and_parts (is_all_in s Integer a) (is_all_in s Integer b) whole in (the_integer s forest a xs x m v.0 h i f, the_integer s forest b ys y n v.1 k j g)) o) w)))

-- ---- the negation of one

negation_is_integer : (n r : Number) → IsInteger n → in_range_or_overflow (exact_negation n) ≡ Ok r → IsInteger r
negation_is_integer n r i e =
    let f = subst (λ (m : Number). in_range_or_overflow (exact_negation m) ≡ Ok r) i.1 e in (_, ranged_is _ _ r f)

pub negation_keeps : NegationKeepsType
negation_keeps s = single_keeps s operators.Neg (λ a t forest xs e honest h.
    let r = type_so (is_optional_in s Decimal a) (times_of (atomic (integer_if (is_all_in s Integer a))) (occurrence_of a)) t e in
    let p = and_parts (is_at_most_one a) (is_all_in s Decimal a) r.0 in
    subst (λ (u : SequenceType). Keeps (typed_setting s) forest u (negation xs forest)) r.1
    (one_keeps s forest a (atomic (integer_if (is_all_in s Integer a))) negation_of_item xs honest p.0 h
    (λ x o i w. negated_keeps s forest (integer_if (is_all_in s Integer a)) o x honest (the_number s forest a xs x p.1 h i)
    (λ n r f g. if_whole s (is_all_in s Integer a) r (λ whole. negation_is_integer n r (the_integer s forest a xs x n whole h i f) g)) w)))
    (λ t e. cc) (λ a b t ps e. cc)
  where
    negated_keeps : (s : SchemaSet) (forest : Forest) (b : Builtin) (o : Occurs) (x : Item) → IsHonest s forest → IsNumber x
        → ((n r : Number) → number_of_item x ≡ Some n → in_range_or_overflow (exact_negation n) ≡ Ok r → DerivesFrom s (names.Builtin (type_of_number r)) (names.Builtin b)) → Allows o 1
        → Keeps (typed_setting s) forest (times_of (atomic b) o) (negation_of_item x forest)
    negated_keeps s forest b o x honest p h w =
        subst (λ (n : Option Number). Keeps (typed_setting s) forest (times_of (atomic b) o) (given n (λ n. computed (in_range_or_overflow (exact_negation n)) forest))) (sym p.1)
        (computed_keeps s forest (times_of (atomic b) o) (in_range_or_overflow (exact_negation p.0)) honest (λ r e. number_belongs s forest b o r (h p.0 r p.1 e) w))
