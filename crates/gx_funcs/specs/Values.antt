-- Functions over atomic values: what each answers of the values of its arguments.
use Rattle.std.specs.Global.{Global}
use Rattle.std.specs.Prelude.{◌≡◌, ℤ, Vec, List, [], ◌∷◌, map, Option, None, Some, Result, Ok, Err}
use Rattle.gx_base.specs.declared.code.Code.{Code}
use Rattle.gx_num.specs.declared.Number.{Number}
use Rattle.gx_num.specs.declared.Number.TheVariants.{Int}
use Rattle.gx_num.specs.Arithmetic.{exact_magnitude, exact_floor, exact_ceiling, exact_round}
use Rattle.gx_facets.specs.declared.Atomic.{Atomic}
use Rattle.gx_facets.specs.declared.AtomValue.{AtomValue}
use Rattle.gx_facets.specs.declared.AtomValue.TheVariants.{Num}
use Rattle.gx_facets.specs.Value.{printed_value}
use Rattle.gx_atomic.specs.declared.comparison.Op.TheVariants.{Lt, Gt}
use Rattle.unicode_normalization.specs.Forms.{Nfc}
use Rattle.gx_funcs.specs.declared.values.CallError.{CallError}
use Rattle.gx_funcs.specs.declared.values.CallError.TheVariants.{Raised, NotOfParameters, Memory}
use Rattle.gx_funcs.specs.declared.value_function.ValueFunction.{ValueFunction}
use Rattle.gx_funcs.specs.declared.value_function.ValueFunction.TheVariants as values
use Rattle.gx_funcs.specs.Function.{string_atom}
use Rattle.gx_funcs.specs.Texts.{Text, text_or_empty, one_text}
use Rattle.gx_funcs.specs.Numbers.{numbers_of_values, total, average, number_answer, foremost_of, of_one_number}
use Rattle.gx_funcs.specs.Positions.{from_position, so_many_from}
use Rattle.gx_funcs.specs.Strings.{compared_texts, codepoints_of, text_of_codepoints, form_name, form_named, normalized_as}
use Rattle.gx_funcs.specs.Distinct.{distinct_values, equal_positions}

abbrev pub ValueAnswer : Type 0
ValueAnswer = Option (Result (List Atomic) Code)

-- ---- arguments

-- the string of at most one value, which is empty where there is none, and that of one value
abbrev pub printed_values : List Atomic → List Text
printed_values = map (λ (a : Atomic). printed_value a.value)

abbrev pub string_or_empty : List Atomic → Option Text
string_or_empty values = text_or_empty (printed_values values)

abbrev pub one_string_of : List Atomic → Option Text
one_string_of values = one_text (printed_values values)

-- the one number
abbrev pub only_number : Option (List Number) → Option Number
only_number (Some (n ∷ [])) = Some n
only_number _ = None

abbrev pub one_number_of : List Atomic → Option Number
one_number_of values = only_number (numbers_of_values values)

abbrev pub answer_with : {A : Type 0} → Option A → (A → ValueAnswer) → ValueAnswer
answer_with None next = None
answer_with (Some found) next = next found

-- the integers that values are, if all are integers
abbrev pub integer_of_value : AtomValue → Option ℤ
integer_of_value (Num (Int i)) = Some i
integer_of_value _ = None

abbrev pub integer_behind : Option ℤ → Option (List ℤ) → Option (List ℤ)
integer_behind None others = None
integer_behind (Some i) None = None
integer_behind (Some i) (Some others) = Some (i ∷ others)

abbrev pub integers_of_values : List Atomic → Option (List ℤ)
integers_of_values [] = Some []
integers_of_values (a ∷ values) = integer_behind (integer_of_value a.value) (integers_of_values values)

-- ---- answers

abbrev pub answers : List Atomic → ValueAnswer
answers values = Some (Ok values)

abbrev pub string_answer : Result Text Code → Result (List Atomic) Code
string_answer (Ok t) = Ok (string_atom t ∷ [])
string_answer (Err code) = Err code

abbrev pub with_numbers : List Atomic → (List Number → ValueAnswer) → ValueAnswer
with_numbers values next = answer_with (numbers_of_values values) next

-- at most one string and at most one other: nothing where one is missing
abbrev pub compared : List Text → List Text → ValueAnswer
compared [] [] = answers []
compared (t ∷ []) [] = answers []
compared [] (u ∷ []) = answers []
compared (t ∷ []) (u ∷ []) = answers (compared_texts t u ∷ [])
compared _ _ = None

-- what a function answers of its arguments, values or the code of a dynamic error; nothing where the arguments are not of its parameters
abbrev pub value_answer : ValueFunction → List (List Atomic) → ValueAnswer
value_answer values.Sum (a ∷ []) = with_numbers a (λ ns. Some (number_answer (total ns)))
value_answer values.Average (a ∷ []) = with_numbers a (λ ns. Some (average ns))
value_answer values.Min (a ∷ []) = with_numbers a (λ ns. answers (foremost_of Lt a))
value_answer values.Max (a ∷ []) = with_numbers a (λ ns. answers (foremost_of Gt a))
value_answer values.Abs (a ∷ []) = with_numbers a (of_one_number exact_magnitude)
value_answer values.Floor (a ∷ []) = with_numbers a (of_one_number exact_floor)
value_answer values.Ceiling (a ∷ []) = with_numbers a (of_one_number exact_ceiling)
value_answer values.Round (a ∷ []) = with_numbers a (of_one_number exact_round)
value_answer values.SubstringFrom (a ∷ b ∷ []) =
    answer_with (string_or_empty a) (λ t. answer_with (one_number_of b) (λ start. answers (string_atom (from_position start t) ∷ [])))
value_answer values.Substring (a ∷ b ∷ c ∷ []) =
    answer_with (string_or_empty a)
    (λ t. answer_with (one_number_of b) (λ start. answer_with (one_number_of c) (λ length. answers (string_atom (so_many_from start length t) ∷ []))))
value_answer values.Compare (a ∷ b ∷ []) = compared (printed_values a) (printed_values b)
value_answer values.Normalize (a ∷ []) = answer_with (string_or_empty a) (λ t. Some (normalized_as (Some (Some Nfc)) t))
value_answer values.NormalizeTo (a ∷ b ∷ []) =
    answer_with (string_or_empty a) (λ t. answer_with (one_string_of b) (λ name. Some (normalized_as (form_named (form_name name)) t)))
value_answer values.CodepointsToString (a ∷ []) = answer_with (integers_of_values a) (λ is. Some (string_answer (text_of_codepoints is)))
value_answer values.StringToCodepoints (a ∷ []) = answer_with (string_or_empty a) (λ t. answers (codepoints_of t))
value_answer values.DistinctValues (a ∷ []) = answers (distinct_values a)
value_answer values.IndexOf (a ∷ (searched ∷ []) ∷ []) = answers (equal_positions searched a)
value_answer _ _ = None

-- ---- how a call ends

abbrev pub lists_of : List (Vec Atomic Global) → List (List Atomic)
lists_of = map (λ (v : Vec Atomic Global). v.items)

-- a call fails with the code that is its answer, or where there is no answer; memory may run out
abbrev pub FailsCall : CallError → ValueAnswer → Type 0
FailsCall (Raised code) answer = answer ≡ Some (Err code)
FailsCall NotOfParameters answer = answer ≡ None
FailsCall Memory answer = Unit {0}

abbrev pub AnswersCall : Result (Vec Atomic Global) CallError → ValueAnswer → Type 0
AnswersCall (Ok v) answer = answer ≡ Some (Ok v.items)
AnswersCall (Err error) answer = FailsCall error answer
