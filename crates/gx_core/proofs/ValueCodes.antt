-- Functions over atomic values answer the codes of dynamic errors alone.
use Rattle.std.proofs.Common.{◌≡◌, ℕ, ℤ, true, List, [], ◌∷◌, Option, None, Some, refl}
use Rattle.std.specs.Prelude.{Result, Ok, Err}
use Rattle.gx_base.specs.declared.code.Code.{Code}
use Rattle.gx_base.specs.Code.{is_dynamic}
use Rattle.gx_num.specs.declared.Number.{Number}
use Rattle.gx_num.specs.declared.NumFault.{NumFault}
use Rattle.gx_num.specs.declared.NumFault.TheVariants.{Overflow, DivZero}
use Rattle.gx_num.specs.Arithmetic.{exact_magnitude, exact_floor, exact_ceiling, exact_round, in_range_or_overflow}
use Rattle.gx_facets.specs.declared.Atomic.{Atomic}
use Rattle.gx_atomic.specs.declared.comparison.Op.TheVariants.{Lt, Gt}
use Rattle.gx_funcs.specs.declared.value_function.ValueFunction.{ValueFunction}
use Rattle.gx_funcs.specs.declared.value_function.ValueFunction.TheVariants as values
use Rattle.gx_funcs.specs.Function.{string_atom}
use Rattle.gx_funcs.specs.Numbers.{numbers_of_values, total, average, number_answer, divided_by, foremost_of, of_one_number}
use Rattle.gx_funcs.specs.Positions.{from_position, so_many_from}
use Rattle.gx_funcs.specs.Strings.{Form, Nfc, codepoints_of, character_with_code, character_behind, text_of_codepoints, form_name, form_named, normalized_as}
use Rattle.gx_funcs.specs.Texts.{Text}
use Rattle.gx_funcs.specs.Values.{ValueAnswer, answer_with, answers, compared, printed_values, string_or_empty, one_string_of, one_number_of, integers_of_values, string_answer, value_answer}

-- values, or the code of a dynamic error
abbrev pub AnswersDynamically : ValueAnswer → Type 0
AnswersDynamically None = Unit {0}
AnswersDynamically (Some (Ok items)) = Unit {0}
AnswersDynamically (Some (Err code)) = is_dynamic code ≡ true

with_dynamic : {A : Type 0} (x : Option A) (next : A → ValueAnswer) → ((found : A) → AnswersDynamically (next found)) → AnswersDynamically (answer_with x next)
with_dynamic None next h = tt
with_dynamic (Some found) next h = h found

number_dynamic : (r : Result Number NumFault) → AnswersDynamically (Some (number_answer r))
number_dynamic (Ok n) = tt
number_dynamic (Err Overflow) = refl
number_dynamic (Err DivZero) = refl

average_dynamic : (ns : List Number) → AnswersDynamically (Some (average ns))
average_dynamic [] = tt
average_dynamic (n ∷ ns) = number_dynamic (divided_by (total (n ∷ ns)) _)

one_number_dynamic : (made : Number → Number) (ns : List Number) → AnswersDynamically (of_one_number made ns)
one_number_dynamic made [] = tt
one_number_dynamic made (n ∷ []) = number_dynamic (in_range_or_overflow (made n))
one_number_dynamic made (n ∷ m ∷ ns) = tt

compared_dynamic : (ts us : List Text) → AnswersDynamically (compared ts us)
compared_dynamic [] [] = tt
compared_dynamic (t ∷ []) [] = tt
compared_dynamic [] (u ∷ []) = tt
compared_dynamic (t ∷ []) (u ∷ []) = tt
compared_dynamic _ _ = tt

normalized_dynamic : (form : Option (Option Form)) (t : Text) → AnswersDynamically (Some (normalized_as form t))
normalized_dynamic None t = refl
normalized_dynamic (Some form) t = tt

character_dynamic : (c : Option ℕ) (rest : Result Text Code) → AnswersDynamically (Some (string_answer rest)) → AnswersDynamically (Some (string_answer (character_behind c rest)))
character_dynamic None rest h = refl
character_dynamic (Some c) (Ok cs) h = tt
character_dynamic (Some c) (Err code) h = h

codepoints_dynamic : (codepoints : List ℤ) → AnswersDynamically (Some (string_answer (text_of_codepoints codepoints)))
codepoints_dynamic [] = tt
codepoints_dynamic (i ∷ codepoints) = character_dynamic (character_with_code i) (text_of_codepoints codepoints) (codepoints_dynamic codepoints)

pub values_dynamic : (function : ValueFunction) (arguments : List (List Atomic)) → AnswersDynamically (value_answer function arguments)
values_dynamic values.Sum (a ∷ []) = with_dynamic (numbers_of_values a) (λ ns. Some (number_answer (total ns))) (λ ns. number_dynamic (total ns))
values_dynamic values.Average (a ∷ []) = with_dynamic (numbers_of_values a) (λ ns. Some (average ns)) average_dynamic
values_dynamic values.Min (a ∷ []) = with_dynamic (numbers_of_values a) (λ ns. answers (foremost_of Lt a)) (λ ns. tt)
values_dynamic values.Max (a ∷ []) = with_dynamic (numbers_of_values a) (λ ns. answers (foremost_of Gt a)) (λ ns. tt)
values_dynamic values.Abs (a ∷ []) = with_dynamic (numbers_of_values a) (of_one_number exact_magnitude) (one_number_dynamic exact_magnitude)
values_dynamic values.Floor (a ∷ []) = with_dynamic (numbers_of_values a) (of_one_number exact_floor) (one_number_dynamic exact_floor)
values_dynamic values.Ceiling (a ∷ []) = with_dynamic (numbers_of_values a) (of_one_number exact_ceiling) (one_number_dynamic exact_ceiling)
values_dynamic values.Round (a ∷ []) = with_dynamic (numbers_of_values a) (of_one_number exact_round) (one_number_dynamic exact_round)
values_dynamic values.SubstringFrom (a ∷ b ∷ []) =
    with_dynamic (string_or_empty a) (λ t. answer_with (one_number_of b) (λ start. answers (string_atom (from_position start t) ∷ [])))
    (λ t. with_dynamic (one_number_of b) (λ start. answers (string_atom (from_position start t) ∷ [])) (λ start. tt))
values_dynamic values.Substring (a ∷ b ∷ c ∷ []) =
    with_dynamic (string_or_empty a)
    (λ t. answer_with (one_number_of b) (λ start. answer_with (one_number_of c) (λ length. answers (string_atom (so_many_from start length t) ∷ []))))
    (λ t. with_dynamic (one_number_of b) (λ start. answer_with (one_number_of c) (λ length. answers (string_atom (so_many_from start length t) ∷ [])))
    (λ start. with_dynamic (one_number_of c) (λ length. answers (string_atom (so_many_from start length t) ∷ [])) (λ length. tt)))
values_dynamic values.Compare (a ∷ b ∷ []) = compared_dynamic (printed_values a) (printed_values b)
values_dynamic values.Normalize (a ∷ []) =
    with_dynamic (string_or_empty a) (λ t. Some (normalized_as (Some (Some Nfc)) t)) (λ t. normalized_dynamic (Some (Some Nfc)) t)
values_dynamic values.NormalizeTo (a ∷ b ∷ []) =
    with_dynamic (string_or_empty a) (λ t. answer_with (one_string_of b) (λ name. Some (normalized_as (form_named (form_name name)) t)))
    (λ t. with_dynamic (one_string_of b) (λ name. Some (normalized_as (form_named (form_name name)) t)) (λ name. normalized_dynamic (form_named (form_name name)) t))
values_dynamic values.CodepointsToString (a ∷ []) = with_dynamic (integers_of_values a) (λ is. Some (string_answer (text_of_codepoints is))) codepoints_dynamic
values_dynamic values.StringToCodepoints (a ∷ []) = with_dynamic (string_or_empty a) (λ t. answers (codepoints_of t)) (λ t. tt)
values_dynamic values.DistinctValues (a ∷ []) = tt
values_dynamic values.IndexOf (a ∷ (searched ∷ []) ∷ []) = tt
values_dynamic _ _ = tt
