-- Numbers among values.
use Rattle.std.proofs.Common.{◌≡◌, ◌≢◌, ℕ, suc, ◌≤◌, ◌<◌, true, false, List, [], ◌∷◌, length, Option, None, Some, refl, sym, ◌∙◌, ap, arith, pos}
use Rattle.std.specs.Prelude.{option_map, is_some, Result}
use Rattle.gx_num.specs.declared.Number.{Number}
use Rattle.gx_num.specs.declared.NumFault.{NumFault}
use Rattle.gx_facets.specs.declared.Atomic.{Atomic}
use Rattle.gx_funcs.specs.Numbers.{number_of_value, number_first, numbers_of_values, number_answer, sum_with, summed, total, divided_by, average, of_one_number}
use Rattle.gx_funcs.specs.Values.{ValueAnswer, answer_with, with_numbers, one_number_of, only_number}

-- ---- one value more

pub number_here : (a : Atomic) (others : List Atomic) (n : Number) → number_of_value a.value ≡ Some n → is_some (numbers_of_values (a ∷ others)) ≡ is_some (numbers_of_values others)
number_here a others n e = rw e (by (numbers_of_values others))
  where
    by : (o : Option (List Number)) → is_some (number_first (Some n) o) ≡ is_some o
    by None = refl
    by (Some ns) = refl

pub number_missing : (a : Atomic) (others : List Atomic) → number_of_value a.value ≡ None → numbers_of_values (a ∷ others) ≡ None
number_missing a others e = rw e refl

pub one_number_more : (sum : Result Number NumFault) (a : Atomic) (n : Number) (others : List Atomic) → number_of_value a.value ≡ Some n
    → option_map (summed (sum_with sum n)) (numbers_of_values others) ≡ option_map (summed sum) (numbers_of_values (a ∷ others))
one_number_more sum a n others e = rw e (by (numbers_of_values others))
  where
    by : (o : Option (List Number)) → option_map (summed (sum_with sum n)) o ≡ option_map (summed sum) (number_first (Some n) o)
    by None = refl
    by (Some ns) = refl

-- ---- all values

pub numbers_there : (values : List Atomic) (answer : ValueAnswer) → is_some (numbers_of_values values) ≡ true → with_numbers values (λ ns. answer) ≡ answer
numbers_there values answer e = by (numbers_of_values values) refl e
  where
    by : (o : Option (List Number)) → numbers_of_values values ≡ o → is_some o ≡ true → with_numbers values (λ ns. answer) ≡ answer
    by None same h = absurd (cc)
    by (Some ns) same h = rw same refl

pub numbers_missing : (values : List Atomic) (next : List Number → ValueAnswer) → is_some (numbers_of_values values) ≡ false → with_numbers values next ≡ None
numbers_missing values next e = by (numbers_of_values values) refl e
  where
    by : (o : Option (List Number)) → numbers_of_values values ≡ o → is_some o ≡ false → with_numbers values next ≡ None
    by None same h = rw same refl
    by (Some ns) same h = absurd (cc)

pub sum_there : (values : List Atomic) (sum : Result Number NumFault) → Some sum ≡ option_map total (numbers_of_values values)
    → with_numbers values (λ ns. Some (number_answer (total ns))) ≡ Some (number_answer sum)
sum_there values sum e = by (numbers_of_values values) refl e
  where
    by : (o : Option (List Number)) → numbers_of_values values ≡ o → Some sum ≡ option_map total o → with_numbers values (λ ns. Some (number_answer (total ns))) ≡ Some (number_answer sum)
    by None same h = absurd (cc)
    by (Some ns) same h = rw same (let k : sum ≡ total ns = cc in ap (λ (r : Result Number NumFault). Some (number_answer r)) (sym k))

pub sum_missing : (values : List Atomic) (next : List Number → ValueAnswer) → None ≡ option_map total (numbers_of_values values) → with_numbers values next ≡ None
sum_missing values next e = by (numbers_of_values values) refl e
  where
    by : (o : Option (List Number)) → numbers_of_values values ≡ o → None ≡ option_map total o → with_numbers values next ≡ None
    by None same h = rw same refl
    by (Some ns) same h = absurd (cc)

numbers_count : (values : List Atomic) (ns : List Number) → numbers_of_values values ≡ Some ns → length ns ≡ length values
numbers_count [] ns e = let k : [] ≡ ns = cc in ap length (sym k)
numbers_count (a ∷ values) ns e = by (λ ms same. numbers_count values ms same) (number_of_value a.value) (numbers_of_values values) refl e
  where
    by : ((ms : List Number) → numbers_of_values values ≡ Some ms → length ms ≡ length values)
        → (m : Option Number) (o : Option (List Number)) → numbers_of_values values ≡ o → number_first m o ≡ Some ns → length ns ≡ length (a ∷ values)
    by rest None o same h = absurd (cc)
    by rest (Some n) None same h = absurd (cc)
    by rest (Some n) (Some others) same h =
        let k : n ∷ others ≡ ns = cc in
        ap length (sym k) ∙ ap suc (rest others same)

averaged : (sum : Result Number NumFault) (ns : List Number) (count : ℕ) → 0 < count → length ns ≡ count → sum ≡ total ns → Some (average ns) ≡ Some (number_answer (divided_by sum (pos count)))
averaged sum [] count some same h = absurd (omega arith)
averaged sum (n ∷ ns) count some same h = λ i. Some (number_answer (divided_by (sym h i) (pos (same i))))

pub average_there : (values : List Atomic) (sum : Result Number NumFault) → 0 < length values → Some sum ≡ option_map total (numbers_of_values values)
    → with_numbers values (λ ns. Some (average ns)) ≡ Some (number_answer (divided_by sum (pos (length values))))
average_there values sum some e = by (numbers_of_values values) refl e
  where
    by : (o : Option (List Number)) → numbers_of_values values ≡ o → Some sum ≡ option_map total o → with_numbers values (λ ns. Some (average ns)) ≡ Some (number_answer (divided_by sum (pos (length values))))
    by None same h = absurd (cc)
    by (Some ns) same h = rw same (let k : sum ≡ total ns = cc in averaged sum ns (length values) some (numbers_count values ns same) k)

-- ---- at most one value

two_numbers : (m n : Option Number) (o : Option (List Number)) (made : Number → Number) → answer_with (number_first m (number_first n o)) (of_one_number made) ≡ None
two_numbers None n o made = refl
two_numbers (Some m) None o made = refl
two_numbers (Some m) (Some n) None made = refl
two_numbers (Some m) (Some n) (Some ns) made = refl

pub no_one_number : (made : Number → Number) (values : List Atomic) → 2 ≤ length values → with_numbers values (of_one_number made) ≡ None
no_one_number made [] more = absurd (omega arith)
no_one_number made (a ∷ []) more = absurd (omega arith)
no_one_number made (a ∷ b ∷ values) more = two_numbers (number_of_value a.value) (number_of_value b.value) (numbers_of_values values) made

two_are_not_one : (m n : Option Number) (o : Option (List Number)) → only_number (number_first m (number_first n o)) ≡ None
two_are_not_one None n o = refl
two_are_not_one (Some m) None o = refl
two_are_not_one (Some m) (Some n) None = refl
two_are_not_one (Some m) (Some n) (Some ns) = refl

pub not_one_number : (values : List Atomic) → length values ≢ 1 → one_number_of values ≡ None
not_one_number [] one = refl
not_one_number (a ∷ []) one = absurd (one refl)
not_one_number (a ∷ b ∷ values) one = two_are_not_one (number_of_value a.value) (number_of_value b.value) (numbers_of_values values)

pub one_number_alone : (a : Atomic) → one_number_of (a ∷ []) ≡ number_of_value a.value
one_number_alone a = by (number_of_value a.value)
  where
    by : (m : Option Number) → only_number (number_first m (Some [])) ≡ m
    by None = refl
    by (Some n) = refl
