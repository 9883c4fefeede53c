-- What functions over atomic values answer is of the type of their rule.
use Rattle.std.proofs.Common.{◌≡◌, ◌≤◌, ◌<◌, ℕ, zero, suc, ℤ, ◌+◌, Bool, true, false, ◌&&◌, List, [], ◌∷◌, ◌++◌, length, Option, None, Some, refl, sym, ◌∙◌, ap, subst, arith, cond, filter, if◌then◌else◌}
use Rattle.std.specs.Prelude.{Result, Ok, Err, not, pos, ◌+ℤ◌}
use Rattle.std.proofs.lemmas.Bool.{and_parts}
use Rattle.std.proofs.lemmas.List.{length-map}
use Rattle.gx_base.specs.declared.code.Code.{Code}
use Rattle.gx_base.specs.declared.type_name.Builtin.{Builtin}
use Rattle.gx_base.specs.declared.type_name.Builtin.TheVariants.{Integer, Decimal, Str}
use Rattle.gx_base.specs.declared.type_name.TypeName.TheVariants as names
use Rattle.gx_num.specs.declared.Number.{Number}
use Rattle.gx_num.specs.declared.Number.TheVariants.{Int}
use Rattle.gx_num.specs.declared.NumFault.{NumFault}
use Rattle.gx_num.specs.Arithmetic.{sum_of, exact_magnitude, exact_floor, exact_ceiling, exact_round, in_range_or_overflow, ranged}
use Rattle.gx_num.specs.Number.{in_range}
use Rattle.gx_facets.specs.declared.Atomic.{Atomic}
use Rattle.gx_types.specs.SchemaSet.{SchemaSet}
use Rattle.gx_types.specs.SchemaInvariant.{IsSchemaSet}
use Rattle.gx_types.specs.SequenceType.{SequenceType, star}
use Rattle.gx_types.specs.Occurs.{Occurs}
use Rattle.gx_types.specs.Occurrence.{occurrence_of, occurs}
use Rattle.gx_types.specs.Prime.{prime_of}
use Rattle.gx_types.specs.TypeRules.{times_of}
use Rattle.gx_types.specs.Laws.{Allows}
use Rattle.gx_atomic.specs.declared.comparison.Op.{Op}
use Rattle.gx_atomic.specs.declared.comparison.Op.TheVariants.{Lt, Gt}
use Rattle.gx_core.specs.declared.expression.ArithmeticOp.TheVariants.{Add}
use Rattle.gx_funcs.specs.declared.function.Parameter.{Parameter}
use Rattle.gx_funcs.specs.declared.value_function.ValueFunction.{ValueFunction}
use Rattle.gx_funcs.specs.declared.value_function.ValueFunction.TheVariants as values
use Rattle.gx_funcs.specs.Function.{value_parameters_of, any_numbers, number_at_most, one_number, any_integers, any_values, one_value, string_at_most, one_string, integer_atom, string_atom}
use Rattle.gx_funcs.specs.Numbers.{number_atom, number_first, numbers_of_values, number_answer, summed, total, divided_by, average, compares, foremost, foremost_of, of_one_number}
use Rattle.gx_funcs.specs.Positions.{from_position, so_many_from}
use Rattle.gx_funcs.specs.Strings.{Form, Nfc, compared_texts, codepoints_of, text_of_codepoints, form_name, form_named, normalized_as}
use Rattle.gx_funcs.specs.Distinct.{are_equal_values, distinct_values, positions_from, equal_positions}
use Rattle.gx_funcs.specs.Texts.{Text}
use Rattle.gx_funcs.specs.Values.{ValueAnswer, answer_with, with_numbers, answers, printed_values, string_or_empty, one_string_of, only_number, one_number_of, integer_behind, integers_of_values, compared, string_answer, value_answer}
use Rattle.gx_model.specs.Forest.{Forest}
use Rattle.gx_model.specs.Honest.{IsHonest}
use Rattle.gx_model.specs.Item.{atom, Items, atoms}
use Rattle.gx_model.specs.Belongs.{Belongs, HaveShapes}
use Rattle.gx_model.proofs.PublicLaws.{growth_is_an_order}
use Rattle.gx_core.specs.Arguments.{all_argument_values}
use Rattle.gx_core.specs.Calling.{answered, value_called}
use Rattle.gx_core.specs.Outcome.{given}
use Rattle.gx_core.specs.Soundness.{typed_setting, AreOfTypes, IsOfType, Keeps}
use Rattle.gx_core.proofs.KeptFacts.{fact_after, fact_at_once}
use Rattle.gx_static.specs.Rule.{atomic, all_items, is_atomic, is_all_in, is_at_most_one, is_at_least_one, integer_if, one_of_type, as_optional, rounded_type, takes_argument, type_ruled, first_seen, value_answer_type, is_of_family}
use Rattle.gx_static.specs.declared.comparison.Family.TheVariants as families
use Rattle.gx_static.proofs.Arithmetic.{IsInteger, item_is_number, item_is_integer, number_is_decimal, number_belongs, both_integers, if_whole}
use Rattle.gx_static.proofs.ItemLemmas.{EachItem, IsAtomIn, items_are_in, belongs_within}
use Rattle.gx_static.proofs.LiteralLemmas.{number_fits}
use Rattle.gx_static.proofs.Loops.{EachBelongs, items_belong, joined_belongs_times, JoinedLists}
use Rattle.gx_static.proofs.Keeping.{have_joined}
use Rattle.gx_static.proofs.Orders.{least_is_small}
use Rattle.gx_static.proofs.Picking.{ArePicked, picked_belongs}
use Rattle.gx_static.proofs.Ranges.{integer_of}
use Rattle.gx_static.proofs.Singles.{nothing_belongs, atom_belongs, one_atom_belongs}
use Rattle.gx_static.proofs.TextCalls.{AreTaken, few_items, some_item, optional_there, one_there}
use Rattle.gx_static.proofs.ValueArguments.{AllConvert, AreSeen, all_values_keep}

-- an answer of a type, or the code of an error
abbrev IsAnswerOf : SchemaSet → Forest → SequenceType → ValueAnswer → Type 0
IsAnswerOf s forest t None = ⊥
IsAnswerOf s forest t (Some (Ok items)) = Belongs s forest (atoms items) t
IsAnswerOf s forest t (Some (Err code)) = Unit {0}

answer_keeps : (s : SchemaSet) (forest : Forest) (t : SequenceType) (answer : ValueAnswer) → IsHonest s forest → IsAnswerOf s forest t answer → Keeps (typed_setting s) forest t (given answer (λ found. answered found forest))
answer_keeps s forest t None honest h = absurd h
answer_keeps s forest t (Some (Ok items)) honest h = fact_at_once (typed_setting s) forest (IsOfType s t) (atoms items) honest h
answer_keeps s forest t (Some (Err code)) honest h = tt

-- ---- values of a type

how_many : (values : List Atomic) → length (atoms values) ≡ length values
how_many values = length-map values atom

printed_count : (values : List Atomic) → length (printed_values values) ≡ length values
printed_count values = length-map values _

few : (s : SchemaSet) (forest : Forest) (u : SequenceType) (values : List Atomic) → is_at_most_one u ≡ true → Belongs s forest (atoms values) u → length values ≤ 1
few s forest u values e b = let l = few_items s forest u (atoms values) e b in let m = how_many values in omega (arith, l, m)

some : (s : SchemaSet) (forest : Forest) (u : SequenceType) (values : List Atomic) → is_at_least_one u ≡ true → Belongs s forest (atoms values) u → 1 ≤ length values
some s forest u values e b = let l = some_item s forest u (atoms values) e b in let m = how_many values in omega (arith, l, m)

-- as many items of a type as an occurrence allows
each_joined : (s : SchemaSet) (forest : Forest) (t : SequenceType) (xs : Items) → EachBelongs s forest t xs → (ss : _) × HaveShapes s forest xs ss × JoinedLists s t (length xs) ss
each_joined s forest t [] h = ([], tt, record { parts = []; joined = refl; each = tt; count = refl })
each_joined s forest t (x ∷ xs) h =
    let r = each_joined s forest t xs h.1 in (
      h.0.seen ++ r.0,
      have_joined s forest (x ∷ []) xs h.0.seen r.0 h.0.shaped r.1,
      record { parts = h.0.seen ∷ r.2.parts; joined = ap (λ ss. h.0.seen ++ ss) r.2.joined; each = (h.0.taken, r.2.each); count = ap suc r.2.count },
    )

pub each_belongs_times : (s : SchemaSet) (forest : Forest) (t : SequenceType) (o : Occurs) (xs : Items) → EachBelongs s forest t xs → Allows o (length xs) → Belongs s forest xs (times_of t o)
each_belongs_times s forest t o xs h w = let r = each_joined s forest t xs h in joined_belongs_times s forest t o (length xs) xs r.0 w r.1 r.2

any_count : (n : ℕ) → Allows (occurs 0 2) n
any_count n = record { least = omega arith; greatest = λ small. absurd (omega (arith, small)) }

integer_belongs : (s : SchemaSet) (forest : Forest) (i : ℤ) → Belongs s forest (atom (integer_atom i) ∷ []) (atomic Integer)
integer_belongs s forest i = one_atom_belongs s forest (names.Builtin Integer) (integer_atom i) (0, refl) (0, refl)

string_belongs : (s : SchemaSet) (forest : Forest) (t : Text) → Belongs s forest (atom (string_atom t) ∷ []) (atomic Str)
string_belongs s forest t = one_atom_belongs s forest (names.Builtin Str) (string_atom t) (0, refl) (0, refl)

-- ---- numbers

abbrev AreWhole : List Number → Type 0
AreWhole [] = Unit {0}
AreWhole (n ∷ ns) = IsInteger n × AreWhole ns

record AreNumbers (s : SchemaSet) (values : List Atomic) : Type 0 where
  numbers : List Number
  are : numbers_of_values values ≡ Some numbers
  count : length numbers ≡ length values
  whole : EachItem (IsAtomIn s Integer) (atoms values) → AreWhole numbers

numbers_found : (s : SchemaSet) (values : List Atomic) → EachItem (IsAtomIn s Decimal) (atoms values) → AreNumbers s values
numbers_found s [] h = record { numbers = []; are = refl; count = refl; whole = λ _. tt }
numbers_found s (a ∷ values) h =
    let n = item_is_number s (atom a) h.0 in
    let rest = numbers_found s values h.1 in
    record {
      numbers = n.0 ∷ rest.numbers;
      are = ap (λ (o : Option Number). number_first o (numbers_of_values values)) n.1 ∙ ap (λ (o : Option (List Number)). number_first (Some n.0) o) rest.are;
      count = ap suc rest.count;
      whole = λ k. (item_is_integer s (atom a) n.0 k.0 n.1, rest.whole k.1);
    }

-- numbers of a type
numbers_of : (s : SchemaSet) (forest : Forest) (u : SequenceType) (values : List Atomic) → is_all_in s Decimal u ≡ true → Belongs s forest (atoms values) u → AreNumbers s values
numbers_of s forest u values e b = numbers_found s values (items_are_in s forest Decimal (atoms values) u e b)

with_found : {A : Type 0} (s : SchemaSet) (forest : Forest) (t : SequenceType) (o : Option A) (found : A) (next : A → ValueAnswer) → o ≡ Some found → IsAnswerOf s forest t (next found) → IsAnswerOf s forest t (answer_with o next)
with_found s forest t o found next e h = subst (λ o. IsAnswerOf s forest t (answer_with o next)) (sym e) h

number_is_answer : (s : SchemaSet) (forest : Forest) (t : SequenceType) (r : Result Number NumFault) → ((n : Number) → r ≡ Ok n → Belongs s forest (atom (number_atom n) ∷ []) t) → IsAnswerOf s forest t (Some (number_answer r))
number_is_answer s forest t (Ok n) h = h n refl
number_is_answer s forest t (Err fault) h = tt

-- ---- sums and averages

error_stays : (fault : NumFault) (ns : List Number) → summed (Err fault) ns ≡ Err fault
error_stays fault [] = refl
error_stays fault (n ∷ ns) = error_stays fault ns

added_whole : (s : SchemaSet) (ns : List Number) (m r : Number) → IsInteger m → AreWhole ns → summed (Ok m) ns ≡ Ok r → IsInteger r
added_whole s [] m r i h e = let same : m ≡ r = cc in subst IsInteger same i
added_whole s (n ∷ ns) m r i h e =
    elim (sum_of m n) as (λ (sum : Result Number NumFault). sum_of m n ≡ sum → summed sum ns ≡ Ok r → IsInteger r) [
      | Ok k ↦ λ same f. added_whole s ns k r (both_integers s Add m n k (λ d. cc) i h.0 same) h.1 f
      | Err fault ↦ λ same f. let stays = error_stays fault ns in absurd (cc)
    ] refl e

sum_is_answer : (s : SchemaSet) (forest : Forest) (u : SequenceType) (a : List Atomic) → is_all_in s Decimal u ≡ true → Belongs s forest (atoms a) u
    → IsAnswerOf s forest (atomic (integer_if (is_all_in s Integer u))) (with_numbers a (λ ns. Some (number_answer (total ns))))
sum_is_answer s forest u a e b =
    let k = numbers_of s forest u a e b in
    let t : SequenceType = atomic (integer_if (is_all_in s Integer u)) in
    with_found s forest t (numbers_of_values a) k.numbers (λ ns. Some (number_answer (total ns))) k.are
    (number_is_answer s forest t (total k.numbers)
    (λ n same. one_atom_belongs s forest (names.Builtin (integer_if (is_all_in s Integer u))) (number_atom n) (number_fits s n)
    (if_whole s (is_all_in s Integer u) n (λ whole. added_whole s k.numbers (Int (pos 0)) n (pos 0, refl) (k.whole (items_are_in s forest Integer (atoms a) u whole b)) same))))

-- one value, or none where there may be none
pub one_allowed : (u : SequenceType) → Allows (occurs (occurrence_of u).least 1) 1
one_allowed u = record { least = least_is_small u; greatest = λ g. omega arith }

none_allowed : (s : SchemaSet) (forest : Forest) (u : SequenceType) (a : List Atomic) → length a ≡ 0 → Belongs s forest (atoms a) u → Allows (occurs (occurrence_of u).least 1) 0
none_allowed s forest u a e b = let w = belongs_within s forest u (atoms a) b in let m = how_many a in record { least = omega (arith, w.least, m, e); greatest = λ g. omega arith }

average_is_answer : (s : SchemaSet) (forest : Forest) (u : SequenceType) (a : List Atomic) → is_all_in s Decimal u ≡ true → Belongs s forest (atoms a) u
    → IsAnswerOf s forest (as_optional u (atomic Decimal)) (with_numbers a (λ ns. Some (average ns)))
average_is_answer s forest u a e b =
    let k = numbers_of s forest u a e b in
    with_found s forest (as_optional u (atomic Decimal)) (numbers_of_values a) k.numbers (λ ns. Some (average ns)) k.are (by_numbers k.numbers k.count)
  where
    by_numbers : (ns : List Number) → length ns ≡ length a → IsAnswerOf s forest (as_optional u (atomic Decimal)) (Some (average ns))
    by_numbers [] c = nothing_belongs s forest (atomic Decimal) (occurs (occurrence_of u).least 1) (none_allowed s forest u a (sym c) b)
    by_numbers (n ∷ ns) c =
        number_is_answer s forest (as_optional u (atomic Decimal)) (divided_by (total (n ∷ ns)) (pos (length (n ∷ ns))))
        (λ m same. number_belongs s forest Decimal (occurs (occurrence_of u).least 1) m (number_is_decimal s m) (one_allowed u))

-- ---- the least and the greatest

foremost_belongs : (s : SchemaSet) (forest : Forest) (t : SequenceType) (op : Op) (a : Atomic) (values : List Atomic) → EachBelongs s forest t (atoms (a ∷ values)) → Belongs s forest (atom (foremost op a values) ∷ []) t
foremost_belongs s forest t op a [] h = h.0
foremost_belongs s forest t op a (b ∷ values) h =
    elim (compares op b a) as (λ (test : Bool). Belongs s forest (atom (foremost op (if test then b else a) values) ∷ []) t) [
      | true ↦ foremost_belongs s forest t op b values h.1
      | false ↦ foremost_belongs s forest t op a values (h.0, h.1.1)
    ]

foremost_is_answer : (s : SchemaSet) (forest : Forest) (u : SequenceType) (op : Op) (a : List Atomic) → is_all_in s Decimal u ≡ true → Belongs s forest (atoms a) u
    → IsAnswerOf s forest (one_of_type true u) (with_numbers a (λ ns. answers (foremost_of op a)))
foremost_is_answer s forest u op a e b =
    let k = numbers_of s forest u a e b in
    with_found s forest (one_of_type true u) (numbers_of_values a) k.numbers (λ ns. answers (foremost_of op a)) k.are
    (picked_belongs s forest u true (atoms a) (atoms (foremost_of op a)) (belongs_within s forest u (atoms a) b) (picked a (items_belong s forest u (atoms a) b)) (λ _. certain a))
  where
    picked : (values : List Atomic) → EachBelongs s forest (prime_of u) (atoms values) → ArePicked s forest (prime_of u) (atoms values) (atoms (foremost_of op values))
    picked [] h = record { each = tt; one = omega arith; fewer = omega arith }
    picked (a ∷ values) h = record { each = (foremost_belongs s forest (prime_of u) op a values h, tt); one = omega arith; fewer = omega arith }

    certain : (values : List Atomic) → 1 ≤ length (atoms values) → 1 ≤ length (atoms (foremost_of op values))
    certain [] h = absurd (omega (arith, h))
    certain (a ∷ values) h = omega arith

-- ---- functions of one number

ranged_same : (fits : Bool) (n r : Number) → ranged fits n ≡ Ok r → n ≡ r
ranged_same true n r e = cc
ranged_same false n r e = absurd (cc)

rounded_is_answer : (s : SchemaSet) (forest : Forest) (u : SequenceType) (made : Number → Number) (a : List Atomic) → ((i : ℤ) → IsInteger (made (Int i))) → (is_at_most_one u && is_all_in s Decimal u) ≡ true
    → Belongs s forest (atoms a) u → IsAnswerOf s forest (rounded_type s u) (with_numbers a (of_one_number made))
rounded_is_answer s forest u made a still e b =
    let both = and_parts (is_at_most_one u) (is_all_in s Decimal u) e in
    let k = numbers_of s forest u a both.1 b in
    with_found s forest (rounded_type s u) (numbers_of_values a) k.numbers (of_one_number made) k.are
    (by_numbers k.numbers k.count (few s forest u a both.0 b) (λ whole. k.whole (items_are_in s forest Integer (atoms a) u whole b)))
  where
    kind : Builtin
    kind = integer_if (is_all_in s Integer u)

    whole_made : (n r : Number) → IsInteger n → in_range_or_overflow (made n) ≡ Ok r → IsInteger r
    whole_made n r i f = subst IsInteger (ranged_same (in_range (made n)) (made n) r f) (subst (λ (m : Number). IsInteger (made m)) (sym i.1) (still i.0))

    by_numbers : (ns : List Number) → length ns ≡ length a → length a ≤ 1 → (is_all_in s Integer u ≡ true → AreWhole ns) → IsAnswerOf s forest (rounded_type s u) (of_one_number made ns)
    by_numbers [] c l w = nothing_belongs s forest (atomic kind) (occurs (occurrence_of u).least 1) (none_allowed s forest u a (sym c) b)
    by_numbers (n ∷ []) c l w =
        number_is_answer s forest (rounded_type s u) (in_range_or_overflow (made n))
        (λ r same. number_belongs s forest kind (occurs (occurrence_of u).least 1) r (if_whole s (is_all_in s Integer u) r (λ whole. whole_made n r (w whole).0 same)) (one_allowed u))
    by_numbers (n ∷ m ∷ ns) c l w = absurd (omega (arith, c, l))

-- ---- strings

text_there : (s : SchemaSet) (forest : Forest) (u : SequenceType) (a : List Atomic) → (is_at_most_one u && all_items (is_of_family s families.Text) u) ≡ true → Belongs s forest (atoms a) u → (t : Text) × (string_or_empty a ≡ Some t)
text_there s forest u a e b =
    let l = few s forest u a (and_parts (is_at_most_one u) (all_items (is_of_family s families.Text) u) e).0 b in let m = printed_count a in optional_there (printed_values a) (omega (arith, l, m))

one_text_there : (s : SchemaSet) (forest : Forest) (u : SequenceType) (a : List Atomic) → (is_at_least_one u && is_at_most_one u && all_items (is_of_family s families.Text) u) ≡ true → Belongs s forest (atoms a) u
    → (t : Text) × (one_string_of a ≡ Some t)
one_text_there s forest u a e b =
    let both = and_parts (is_at_least_one u && is_at_most_one u) (all_items (is_of_family s families.Text) u) e in
    let one = and_parts (is_at_least_one u) (is_at_most_one u) both.0 in
    let k = some s forest u a one.0 b in
    let l = few s forest u a one.1 b in
    let m = printed_count a in
    one_there (printed_values a) (omega (arith, k, m), omega (arith, l, m))

only_there : (ns : List Number) → length ns ≡ 1 → (n : Number) × (only_number (Some ns) ≡ Some n)
only_there [] e = absurd (cc)
only_there (n ∷ []) e = (n, refl)
only_there (n ∷ m ∷ ns) e = absurd (cc)

one_number_there : (s : SchemaSet) (forest : Forest) (u : SequenceType) (a : List Atomic) → (is_at_least_one u && is_at_most_one u && is_all_in s Decimal u) ≡ true → Belongs s forest (atoms a) u → (n : Number) × (one_number_of a ≡ Some n)
one_number_there s forest u a e b =
    let both = and_parts (is_at_least_one u && is_at_most_one u) (is_all_in s Decimal u) e in
    let one = and_parts (is_at_least_one u) (is_at_most_one u) both.0 in
    let k = numbers_of s forest u a both.1 b in
    let low = some s forest u a one.0 b in
    let high = few s forest u a one.1 b in
    let n = only_there k.numbers (omega (arith, k.count, low, high)) in (n.0, ap only_number k.are ∙ n.1)

-- one value for each of two strings
compared_is_answer : (s : SchemaSet) (forest : Forest) (ts us : List Text) → length ts ≤ 1 → length us ≤ 1 → IsAnswerOf s forest (times_of (atomic Integer) (occurs 0 1)) (compared ts us)
compared_is_answer s forest [] [] l m = nothing_belongs s forest (atomic Integer) (occurs 0 1) (record { least = omega arith; greatest = λ g. omega arith })
compared_is_answer s forest (t ∷ []) [] l m = nothing_belongs s forest (atomic Integer) (occurs 0 1) (record { least = omega arith; greatest = λ g. omega arith })
compared_is_answer s forest [] (u ∷ []) l m = nothing_belongs s forest (atomic Integer) (occurs 0 1) (record { least = omega arith; greatest = λ g. omega arith })
compared_is_answer s forest (t ∷ []) (u ∷ []) l m =
    atom_belongs s forest (names.Builtin Integer) (occurs 0 1) (compared_texts t u) (0, refl) (0, refl) (record { least = omega arith; greatest = λ g. omega arith })
compared_is_answer s forest (t ∷ v ∷ ts) us l m = absurd (omega (arith, l))
compared_is_answer s forest ts (u ∷ v ∷ us) l m = absurd (omega (arith, m))

normalized_is_answer : (s : SchemaSet) (forest : Forest) (form : Option (Option Form)) (t : Text) → IsAnswerOf s forest (atomic Str) (Some (normalized_as form t))
normalized_is_answer s forest None t = tt
normalized_is_answer s forest (Some form) t = string_belongs s forest _

string_is_answer : (s : SchemaSet) (forest : Forest) (r : Result Text Code) → IsAnswerOf s forest (atomic Str) (Some (string_answer r))
string_is_answer s forest (Ok t) = string_belongs s forest t
string_is_answer s forest (Err code) = tt

-- ---- code points and positions

integers_found : (s : SchemaSet) (values : List Atomic) → EachItem (IsAtomIn s Integer) (atoms values) → (is : List ℤ) × (integers_of_values values ≡ Some is)
integers_found s [] h = ([], refl)
integers_found s (a ∷ values) h =
    let i = integer_of s (atom a) h.0 in
    let rest = integers_found s values h.1 in
    (i.0 ∷ rest.0, ap (λ (o : Option ℤ). integer_behind o (integers_of_values values)) i.1 ∙ ap (λ (o : Option (List ℤ)). integer_behind (Some i.0) o) rest.1)

codepoints_are_answer : (s : SchemaSet) (forest : Forest) (u : SequenceType) (a : List Atomic) → is_all_in s Integer u ≡ true → Belongs s forest (atoms a) u
    → IsAnswerOf s forest (atomic Str) (answer_with (integers_of_values a) (λ is. Some (string_answer (text_of_codepoints is))))
codepoints_are_answer s forest u a e b =
    let i = integers_found s a (items_are_in s forest Integer (atoms a) u e b) in
    with_found s forest (atomic Str) (integers_of_values a) i.0 (λ is. Some (string_answer (text_of_codepoints is))) i.1 (string_is_answer s forest (text_of_codepoints i.0))

codepoints_belong : (s : SchemaSet) (forest : Forest) (cs : Text) → EachBelongs s forest (atomic Integer) (atoms (codepoints_of cs))
codepoints_belong s forest [] = tt
codepoints_belong s forest (c ∷ cs) = (integer_belongs s forest (pos c), codepoints_belong s forest cs)

positions_belong : (s : SchemaSet) (forest : Forest) (position : ℤ) (searched : Atomic) (values : List Atomic) → EachBelongs s forest (atomic Integer) (atoms (positions_from position searched values))
positions_belong s forest position searched [] = tt
positions_belong s forest position searched (a ∷ values) =
    elim (are_equal_values a searched) as (λ (same : Bool). EachBelongs s forest (atomic Integer)
    (atoms (if same then integer_atom position ∷ positions_from (position +ℤ pos 1) searched values else positions_from (position +ℤ pos 1) searched values))) [
      | true ↦ (integer_belongs s forest position, positions_belong s forest (position +ℤ pos 1) searched values)
      | false ↦ positions_belong s forest (position +ℤ pos 1) searched values
    ]

-- ---- values, each once

kept_belong : (s : SchemaSet) (forest : Forest) (t : SequenceType) (test : Atomic → Bool) (values : List Atomic) → EachBelongs s forest t (atoms values) → EachBelongs s forest t (atoms (filter test values)) × (length (filter test values) ≤ length values)
kept_belong s forest t test [] h = (tt, omega arith)
kept_belong s forest t test (a ∷ values) h = by_test (test a) (kept_belong s forest t test values h.1)
  where
    by_test : (kept : Bool) → EachBelongs s forest t (atoms (filter test values)) × (length (filter test values) ≤ length values)
        → EachBelongs s forest t (atoms (cond kept (a ∷ filter test values) (filter test values))) × (length (cond kept (a ∷ filter test values) (filter test values)) ≤ suc (length values))
    by_test true k = ((h.0, k.0), omega (arith, k.1))
    by_test false k = (k.0, omega (arith, k.1))

distinct_belong : (s : SchemaSet) (forest : Forest) (t : SequenceType) (values : List Atomic) → EachBelongs s forest t (atoms values) → EachBelongs s forest t (atoms (distinct_values values)) × (length (distinct_values values) ≤ length values)
distinct_belong s forest t [] h = (tt, omega arith)
distinct_belong s forest t (a ∷ values) h =
    let rest = distinct_belong s forest t values h.1 in
    let kept = kept_belong s forest t (λ b. not (are_equal_values a b)) (distinct_values values) rest.0 in
    ((h.0, kept.0), omega (arith, kept.1, rest.1))

as_often : (least greatest n m : ℕ) → least ≤ 1 → least ≤ n → (greatest < 2 → n ≤ greatest) → m ≤ n → (1 ≤ n → 1 ≤ m) → Allows (occurs least greatest) m
as_often least greatest zero m small low high fewer some = record { least = omega (arith, low); greatest = λ g. omega (arith, fewer) }
as_often least greatest (suc n) m small low high fewer some = let l = some (omega arith) in record { least = omega (arith, small, l); greatest = λ g. let h = high g in omega (arith, h, fewer) }

distinct_is_answer : (s : SchemaSet) (forest : Forest) (u : SequenceType) (a : List Atomic) → Belongs s forest (atoms a) u → IsAnswerOf s forest (times_of (prime_of u) (occurrence_of u)) (answers (distinct_values a))
distinct_is_answer s forest u a b =
    let d = distinct_belong s forest (prime_of u) a (items_belong s forest u (atoms a) b) in
    let w = belongs_within s forest u (atoms a) b in
    let m = how_many a in
    let n = how_many (distinct_values a) in
    each_belongs_times s forest (prime_of u) (occurrence_of u) (atoms (distinct_values a)) d.0
    (as_often (occurrence_of u).least (occurrence_of u).greatest (length (atoms a)) (length (atoms (distinct_values a))) (least_is_small u) w.least w.greatest (omega (arith, d.1, m, n)) (some_stay a))
  where
    some_stay : (values : List Atomic) → 1 ≤ length (atoms values) → 1 ≤ length (atoms (distinct_values values))
    some_stay [] h = absurd (omega (arith, h))
    some_stay (a ∷ values) h = omega arith

positions_are_answer : (s : SchemaSet) (forest : Forest) (u v : SequenceType) (a b : List Atomic) → (is_at_least_one v && is_at_most_one v && all_items is_atomic v) ≡ true → Belongs s forest (atoms b) v
    → IsAnswerOf s forest (times_of (atomic Integer) (occurs 0 2)) (value_answer values.IndexOf (a ∷ b ∷ []))
positions_are_answer s forest u v a b e h =
    let both = and_parts (is_at_least_one v && is_at_most_one v) (all_items is_atomic v) e in
    let one = and_parts (is_at_least_one v) (is_at_most_one v) both.0 in by_values b (some s forest v b one.0 h) (few s forest v b one.1 h)
  where
    by_values : (ys : List Atomic) → 1 ≤ length ys → length ys ≤ 1 → IsAnswerOf s forest (times_of (atomic Integer) (occurs 0 2)) (value_answer values.IndexOf (a ∷ ys ∷ []))
    by_values [] l m = absurd (omega (arith, l))
    by_values (searched ∷ []) l m = each_belongs_times s forest (atomic Integer) (occurs 0 2) (atoms (equal_positions searched a)) (positions_belong s forest (pos 1) searched a) (any_count _)
    by_values (x ∷ y ∷ ys) l m = absurd (omega (arith, m))

-- ---- arguments that are seen

record OneSeen (s : SchemaSet) (p : Parameter) (arguments : List SequenceType) (forest : Forest) (lists : List (List Atomic)) : Type 0 where
  seen : SequenceType
  taken : takes_argument s p.takes seen ≡ true
  first : first_seen s (p ∷ []) arguments ≡ seen
  values : List Atomic
  are : lists ≡ values ∷ []
  belong : Belongs s forest (atoms values) seen

one_seen : (s : SchemaSet) (p : Parameter) (arguments : List SequenceType) (taken : AreTaken s (p ∷ []) arguments) (forest : Forest) (lists : List (List Atomic)) → AreSeen s (p ∷ []) arguments taken forest lists → OneSeen s p arguments forest lists
one_seen s p [] taken forest lists h = absurd taken
one_seen s p (a ∷ b ∷ arguments) taken forest lists h = absurd taken.1
one_seen s p (a ∷ []) taken forest [] h = absurd h
one_seen s p (a ∷ []) taken forest (values ∷ other ∷ lists) h = absurd h.1
one_seen s p (a ∷ []) taken forest (values ∷ []) h =
    record { seen = taken.0.seen; taken = taken.0.taken; first = ap type_ruled taken.0.as_seen; values = values; are = refl; belong = h.0 }

record TwoSeen (s : SchemaSet) (p q : Parameter) (arguments : List SequenceType) (forest : Forest) (lists : List (List Atomic)) : Type 0 where
  seen : SequenceType
  other_seen : SequenceType
  taken : takes_argument s p.takes seen ≡ true
  other_taken : takes_argument s q.takes other_seen ≡ true
  values : List Atomic
  others : List Atomic
  are : lists ≡ values ∷ others ∷ []
  belong : Belongs s forest (atoms values) seen
  others_belong : Belongs s forest (atoms others) other_seen

two_seen : (s : SchemaSet) (p q : Parameter) (arguments : List SequenceType) (taken : AreTaken s (p ∷ q ∷ []) arguments) (forest : Forest) (lists : List (List Atomic)) → AreSeen s (p ∷ q ∷ []) arguments taken forest lists
    → TwoSeen s p q arguments forest lists
two_seen s p q [] taken forest lists h = absurd taken
two_seen s p q (a ∷ []) taken forest lists h = absurd taken.1
two_seen s p q (a ∷ b ∷ c ∷ arguments) taken forest lists h = absurd taken.1.1
two_seen s p q (a ∷ b ∷ []) taken forest [] h = absurd h
two_seen s p q (a ∷ b ∷ []) taken forest (values ∷ []) h = absurd h.1
two_seen s p q (a ∷ b ∷ []) taken forest (values ∷ others ∷ more ∷ lists) h = absurd h.1.1
two_seen s p q (a ∷ b ∷ []) taken forest (values ∷ others ∷ []) h =
    record {
      seen = taken.0.seen;
      other_seen = taken.1.0.seen;
      taken = taken.0.taken;
      other_taken = taken.1.0.taken;
      values = values;
      others = others;
      are = refl;
      belong = h.0;
      others_belong = h.1.0;
    }

substring_is_answer : (s : SchemaSet) (arguments : List SequenceType) (taken : AreTaken s (string_at_most ∷ one_number ∷ one_number ∷ []) arguments) (forest : Forest) (lists : List (List Atomic))
    → AreSeen s (string_at_most ∷ one_number ∷ one_number ∷ []) arguments taken forest lists → IsAnswerOf s forest (atomic Str) (value_answer values.Substring lists)
substring_is_answer s (a ∷ b ∷ c ∷ []) taken forest (x ∷ y ∷ z ∷ []) h =
    let t = text_there s forest taken.0.seen x taken.0.taken h.0 in
    let start = one_number_there s forest taken.1.0.seen y taken.1.0.taken h.1.0 in
    let count = one_number_there s forest taken.1.1.0.seen z taken.1.1.0.taken h.1.1.0 in
    with_found s forest (atomic Str) (string_or_empty x) t.0 _ t.1
    (with_found s forest (atomic Str) (one_number_of y) start.0 _ start.1
    (with_found s forest (atomic Str) (one_number_of z) count.0 (λ length. answers (string_atom (so_many_from start.0 length t.0) ∷ [])) count.1 (string_belongs s forest (so_many_from start.0 count.0 t.0))))
substring_is_answer s [] taken forest lists h = absurd taken
substring_is_answer s (a ∷ []) taken forest lists h = absurd taken.1
substring_is_answer s (a ∷ b ∷ []) taken forest lists h = absurd taken.1.1
substring_is_answer s (a ∷ b ∷ c ∷ d ∷ arguments) taken forest lists h = absurd taken.1.1.1
substring_is_answer s (a ∷ b ∷ c ∷ []) taken forest [] h = absurd h
substring_is_answer s (a ∷ b ∷ c ∷ []) taken forest (x ∷ []) h = absurd h.1
substring_is_answer s (a ∷ b ∷ c ∷ []) taken forest (x ∷ y ∷ []) h = absurd h.1.1
substring_is_answer s (a ∷ b ∷ c ∷ []) taken forest (x ∷ y ∷ z ∷ w ∷ lists) h = absurd h.1.1.1

-- ---- each function

of_one : (s : SchemaSet) (function : ValueFunction) (p : Parameter) (arguments : List SequenceType) (taken : AreTaken s (p ∷ []) arguments) (forest : Forest) (lists : List (List Atomic))
    → ((u : SequenceType) (a : List Atomic) → takes_argument s p.takes u ≡ true → Belongs s forest (atoms a) u → IsAnswerOf s forest (value_answer_type s function u) (value_answer function (a ∷ [])))
    → AreSeen s (p ∷ []) arguments taken forest lists → IsAnswerOf s forest (value_answer_type s function (first_seen s (p ∷ []) arguments)) (value_answer function lists)
of_one s function p arguments taken forest lists answer h =
    let o = one_seen s p arguments taken forest lists h in
    subst (λ (u : SequenceType). IsAnswerOf s forest (value_answer_type s function u) (value_answer function lists)) (sym o.first)
    (subst (λ (all : List (List Atomic)). IsAnswerOf s forest (value_answer_type s function o.seen) (value_answer function all)) (sym o.are) (answer o.seen o.values o.taken o.belong))

of_two : (s : SchemaSet) (function : ValueFunction) (p q : Parameter) (t : SequenceType) (arguments : List SequenceType) (taken : AreTaken s (p ∷ q ∷ []) arguments) (forest : Forest) (lists : List (List Atomic))
    → ((u v : SequenceType) (a b : List Atomic) → takes_argument s p.takes u ≡ true → takes_argument s q.takes v ≡ true → Belongs s forest (atoms a) u → Belongs s forest (atoms b) v
    → IsAnswerOf s forest t (value_answer function (a ∷ b ∷ [])))
    → AreSeen s (p ∷ q ∷ []) arguments taken forest lists → IsAnswerOf s forest t (value_answer function lists)
of_two s function p q t arguments taken forest lists answer h =
    let o = two_seen s p q arguments taken forest lists h in
    subst (λ (all : List (List Atomic)). IsAnswerOf s forest t (value_answer function all)) (sym o.are) (answer o.seen o.other_seen o.values o.others o.taken o.other_taken o.belong o.others_belong)

is_answer : (s : SchemaSet) (function : ValueFunction) (arguments : List SequenceType) (taken : AreTaken s (value_parameters_of function) arguments) (forest : Forest) (lists : List (List Atomic))
    → AreSeen s (value_parameters_of function) arguments taken forest lists → IsAnswerOf s forest (value_answer_type s function (first_seen s (value_parameters_of function) arguments)) (value_answer function lists)
is_answer s values.Sum arguments taken forest lists h = of_one s values.Sum any_numbers arguments taken forest lists (λ u a e b. sum_is_answer s forest u a e b) h
is_answer s values.Average arguments taken forest lists h = of_one s values.Average any_numbers arguments taken forest lists (λ u a e b. average_is_answer s forest u a e b) h
is_answer s values.Min arguments taken forest lists h = of_one s values.Min any_numbers arguments taken forest lists (λ u a e b. foremost_is_answer s forest u Lt a e b) h
is_answer s values.Max arguments taken forest lists h = of_one s values.Max any_numbers arguments taken forest lists (λ u a e b. foremost_is_answer s forest u Gt a e b) h
is_answer s values.Abs arguments taken forest lists h = of_one s values.Abs number_at_most arguments taken forest lists (λ u a e b. rounded_is_answer s forest u exact_magnitude a (λ i. (_, refl)) e b) h
is_answer s values.Floor arguments taken forest lists h = of_one s values.Floor number_at_most arguments taken forest lists (λ u a e b. rounded_is_answer s forest u exact_floor a (λ i. (_, refl)) e b) h
is_answer s values.Ceiling arguments taken forest lists h = of_one s values.Ceiling number_at_most arguments taken forest lists (λ u a e b. rounded_is_answer s forest u exact_ceiling a (λ i. (_, refl)) e b) h
is_answer s values.Round arguments taken forest lists h = of_one s values.Round number_at_most arguments taken forest lists (λ u a e b. rounded_is_answer s forest u exact_round a (λ i. (_, refl)) e b) h
is_answer s values.SubstringFrom arguments taken forest lists h =
    of_two s values.SubstringFrom string_at_most one_number (atomic Str) arguments taken forest lists
    (λ u v a b e f c d. let t = text_there s forest u a e c in let n = one_number_there s forest v b f d in
    with_found s forest (atomic Str) (string_or_empty a) t.0 _ t.1
    (with_found s forest (atomic Str) (one_number_of b) n.0 (λ start. answers (string_atom (from_position start t.0) ∷ [])) n.1 (string_belongs s forest (from_position n.0 t.0)))) h
is_answer s values.Substring arguments taken forest lists h = substring_is_answer s arguments taken forest lists h
is_answer s values.Compare arguments taken forest lists h =
    of_two s values.Compare string_at_most string_at_most (times_of (atomic Integer) (occurs 0 1)) arguments taken forest lists
    (λ u v a b e f c d.
    let l = few s forest u a (and_parts (is_at_most_one u) (all_items (is_of_family s families.Text) u) e).0 c in
    let m = few s forest v b (and_parts (is_at_most_one v) (all_items (is_of_family s families.Text) v) f).0 d in
    let i = printed_count a in
    let j = printed_count b in compared_is_answer s forest (printed_values a) (printed_values b) (omega (arith, l, i)) (omega (arith, m, j))) h
is_answer s values.Normalize arguments taken forest lists h =
    of_one s values.Normalize string_at_most arguments taken forest lists
    (λ u a e b. let t = text_there s forest u a e b in
    with_found s forest (atomic Str) (string_or_empty a) t.0 (λ t. Some (normalized_as (Some (Some Nfc)) t)) t.1 (normalized_is_answer s forest (Some (Some Nfc)) t.0)) h
is_answer s values.NormalizeTo arguments taken forest lists h =
    of_two s values.NormalizeTo string_at_most one_string (atomic Str) arguments taken forest lists
    (λ u v a b e f c d. let t = text_there s forest u a e c in let name = one_text_there s forest v b f d in
    with_found s forest (atomic Str) (string_or_empty a) t.0 _ t.1
    (with_found s forest (atomic Str) (one_string_of b) name.0 (λ name. Some (normalized_as (form_named (form_name name)) t.0)) name.1 (normalized_is_answer s forest (form_named (form_name name.0)) t.0))) h
is_answer s values.CodepointsToString arguments taken forest lists h = of_one s values.CodepointsToString any_integers arguments taken forest lists (λ u a e b. codepoints_are_answer s forest u a e b) h
is_answer s values.StringToCodepoints arguments taken forest lists h =
    of_one s values.StringToCodepoints string_at_most arguments taken forest lists
    (λ u a e b. let t = text_there s forest u a e b in
    with_found s forest (star (atomic Integer)) (string_or_empty a) t.0 (λ t. answers (codepoints_of t)) t.1
    (each_belongs_times s forest (atomic Integer) (occurs 0 2) (atoms (codepoints_of t.0)) (codepoints_belong s forest t.0) (any_count _))) h
is_answer s values.DistinctValues arguments taken forest lists h = of_one s values.DistinctValues any_values arguments taken forest lists (λ u a e b. distinct_is_answer s forest u a b) h
is_answer s values.IndexOf arguments taken forest lists h =
    of_two s values.IndexOf any_values one_value (times_of (atomic Integer) (occurs 0 2)) arguments taken forest lists (λ u v a b e f c d. positions_are_answer s forest u v a b f d) h

-- ---- the law

all_convert : (function : ValueFunction) → AllConvert (value_parameters_of function)
all_convert values.Substring = (λ e. cc, (λ e. cc, (λ e. cc, tt)))
all_convert values.SubstringFrom = (λ e. cc, (λ e. cc, tt))
all_convert values.Compare = (λ e. cc, (λ e. cc, tt))
all_convert values.NormalizeTo = (λ e. cc, (λ e. cc, tt))
all_convert values.IndexOf = (λ e. cc, (λ e. cc, tt))
all_convert _ = (λ e. cc, tt)

pub value_call_keeps : (s : SchemaSet) → IsSchemaSet s → (forest : Forest) (function : ValueFunction) (arguments : List SequenceType) (taken : AreTaken s (value_parameters_of function) arguments) (xss : List Items) → IsHonest s forest
    → AreOfTypes s arguments forest xss → Keeps (typed_setting s) forest (value_answer_type s function (first_seen s (value_parameters_of function) arguments)) (value_called s function xss forest)
value_call_keeps s is forest function arguments taken xss honest b =
    let ps : List Parameter = value_parameters_of function in
    let t : SequenceType = value_answer_type s function (first_seen s ps arguments) in
    fact_after (typed_setting s) forest (AreSeen s ps arguments taken) (IsOfType s t) (all_argument_values s ps xss forest) (λ lists left. given (value_answer function lists) (λ answer. answered answer left))
    (all_values_keep s is ps arguments taken xss forest forest (all_convert function) (growth_is_an_order.reflexive forest) honest b)
    (λ lists left grown still seen. answer_keeps s left t (value_answer function lists) still (is_answer s function arguments taken left lists seen))
