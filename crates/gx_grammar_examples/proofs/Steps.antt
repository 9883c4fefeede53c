-- The guards of the grammar of steps decide.
use Rattle.std.proofs.Common.{◌≡◌, ℕ, ◌+◌, nat_le, Bool, true, false, if◌then◌else◌, List, [], ◌∷◌, ◌++◌, inl, inr, length, refl, sym, subst, ◌∙◌, codes, arith}
use Rattle.std.proofs.lemmas.Bool.{and_parts, leb-true}
use Rattle.std.specs.List.{list_all}
use Rattle.gx_grammar.specs.Value.{characters, node, pair}
use Rattle.gx_grammar.specs.Grammar.{token, empty, ◌&◌, keyed, choose, many, rule, made}
use Rattle.gx_grammar.specs.Derivation.{Derives}
use Rattle.gx_grammar.specs.Opening.{Opens, open_first, open_left, open_made, open_right, open_token}
use Rattle.gx_grammar.specs.Laws.{LawfulTokens}
use Rattle.gx_grammar.specs.Levels.{takes_some, HasRanksBelow, IsShielded, IsLevelled}
use Rattle.gx_grammar.specs.Text.{AtEnd, IsReadable, IsVerdict, Nowhere}
use Rattle.gx_grammar.specs.First.{IsIn, AllOf, AreFronts, Fronts, IsSorted, by_character, first_of, first_behind}
use Rattle.gx_grammar.specs.Apart.{HasShape, all_apart, is, shape_begins}
use Rattle.gx_grammar.specs.Sums.{is_digit, is_letter, no_character}
use Rattle.gx_grammar.proofs.PublicLaws.{character_chooses, computed_apart, computed_words, exact_text, never_too_deep, sorted_readable, tokens_repeat, unique}
use Rattle.gx_grammar_examples.specs.Tokens.{IsTree, derives, first_value, second_value, Token, keyword, name, digits, is_name_character, opens, lexeme}
use Rattle.gx_grammar_examples.specs.Steps.{name_step, wildcard, literal, call, conditional, applied_to, operations_made, arguments_in, literal_made, conditional_made, third_value, Made, Production, expression, Phrase, closing, slash, star, plus, minus, operations, is_if, bare_name, some_arguments, arguments, name_or_call, step_of_name, by_name, other_step, step, path_from, times_or_div, product_from, plus_or_minus, sum_from, behind_if, begun_by, rules, following, steps, steps_text, read_steps}
use Rattle.gx_grammar_examples.proofs.Worth.{IsWorth, MayMake, derived_made}
use Rattle.gx_grammar_examples.proofs.Tokens.{takes, token_shape, fronts_of, lawful, shaped, named_head, other_head, taken, right, by_first, many_first}

digit_no_letter : (c : ℕ) → is_digit c ≡ true → is_letter c ≡ false
digit_no_letter c e = go (nat_le 97 c) refl
  where
    go : (b : Bool) → nat_le 97 c ≡ b → is_letter c ≡ false
    go true f = absurd (let d = and_parts (nat_le 48 c) (nat_le c 57) e in let g = leb-true c 57 d.1 in let h = leb-true 97 c f in omega (arith, g, h))
    go false f = rw f refl

-- with what each production begins
abbrev pub firsts : Production → List Token
firsts expression = name ∷ star ∷ digits ∷ []

rules_taken : (p : Production) → takes_some steps (fronts_of rules following firsts).takings (rules p) ≡ true
unfolding by_name sum_from product_from path_from operations other_step
rules_taken expression = refl

rules_begin : (p : Production) → AllOf (IsIn (firsts p)) (first_of steps (fronts_of rules following firsts) (rules p))
unfolding by_name sum_from product_from path_from operations other_step
rules_begin expression = (inl refl, (inr (inl refl), (inr (inr (inl refl)), tt)))

abbrev fronts : Fronts steps
fronts = fronts_of rules following firsts

tokens_lawful : LawfulTokens steps
tokens_lawful = lawful rules following

tokens_shaped : (t : Token) → HasShape steps t (token_shape t)
tokens_shaped = shaped rules following

fronts_right : AreFronts steps fronts
fronts_right = right rules following firsts rules_taken rules_begin

abbrev Sorts : Phrase → List Token → Type 0
Sorts A us = IsSorted steps fronts A us

-- what may stand behind a product, a path and a step
abbrev behind_product : List Token
behind_product = plus ∷ minus ∷ following

abbrev behind_path : List Token
behind_path = star ∷ keyword (codes "div") ∷ behind_product

abbrev behind_step : List Token
behind_step = slash ∷ behind_path

-- A choice by the first character.
abbrev choice : (k : ℕ) (A B : Phrase) (us : List Token) → takes_some steps fronts.takings A ≡ true
    → list_all (λ t. shape_begins k true (token_shape t)) (first_of steps fronts A) ≡ true
    → list_all (λ t. shape_begins k false (token_shape t)) (first_behind steps fronts B us) ≡ true
    → Sorts A us → Sorts B us → Sorts (choose (by_character (is k)) A B) us
choice = by_first rules following firsts rules_taken rules_begin

-- A choice of what begins with a name, before what begins with `*` or a number.
by_letter : (behind : Made → Phrase) (B : Phrase) (us : List Token) → first_behind steps fronts B us ≡ star ∷ digits ∷ []
    → ((v : Made) → Sorts (behind v) us) → Sorts B us → Sorts (choose (by_character is_letter) (by_name behind) B) us
unfolding by_name
by_letter behind B us e a b = (
  character_chooses steps is_letter fronts fronts_right _ B us
      (record {
        takes = refl;
        passes = (named_head rules following is_letter is_name_character no_character, tt);
        fails = rw e ((computed_words steps token_shape tokens_shaped is_letter false (star ∷ []) refl).0, (other_head rules following is_digit is_digit is_letter is_letter digit_no_letter, tt));
      }),
  (λ v. (tt, a v)),
  b,
)

-- operators and operands

operations_sorted : (first : Phrase) (operators : List Token) (operator operand : Phrase) (us : List Token)
    → takes_some steps fronts.takings (operator & operand) ≡ true
    → AllOf (IsIn operators) (first_of steps fronts (operator & operand))
    → AllOf (λ t. takes t ≡ true) operators
    → AllOf (λ t. (x : List ℕ) → opens t x → Opens steps (operator & operand) x) operators
    → all_apart token_shape operators us ≡ true
    → Sorts first (first_of steps fronts (operator & operand) ++ us)
    → Sorts (operator & operand) (first_of steps fronts (operator & operand) ++ us)
    → Sorts (operations first operators operator operand) us
unfolding operations
operations_sorted first operators operator operand us t b f o e a i = (
  a,
  (
    tokens_repeat steps tokens_lawful fronts fronts_right operators (operator & operand) us
        (record { takes = t; first = b; full = f; opening = o; apart = computed_apart steps token_shape tokens_shaped operators us e }),
    t,
    i,
  ),
)

-- names and calls

arguments_sorted : (us : List Token) → Sorts arguments us
unfolding arguments some_arguments
arguments_sorted us = (
  (tt, tt),
  choice 41 _ _ us refl refl refl (tt, tt) (
    (inr (inl refl), (inl refl, tt)),
    (many_first rules following firsts rules_taken rules_begin 44 _ (closing ∷ []) refl refl refl ((tt, tt), (inr (inl refl), (inl refl, tt))), (tt, tt)),
  ),
)

name_or_call_sorted : (v : Made) (us : List Token) → list_all (λ t. shape_begins 40 false (token_shape t)) us ≡ true → Sorts (name_or_call v) us
unfolding name_or_call bare_name arguments
name_or_call_sorted v us e = choice 40 _ _ us refl refl e (arguments_sorted us) tt

either : (b : Bool) (A B : Phrase) (us : List Token) → Sorts A us → Sorts B us → Sorts (if b then A else B) us
either true A B us a b = a
either false A B us a b = b

step_of_name_sorted : (v : Made) → Sorts (step_of_name v) behind_step
unfolding step_of_name bare_name
step_of_name_sorted v = either (is_if v) _ _ behind_step tt (name_or_call_sorted v behind_step refl)

other_sorted : (us : List Token) → Sorts other_step us
unfolding other_step
other_sorted us = choice 42 _ _ us refl refl refl (tt, tt) (tt, tt)

step_sorted : Sorts step behind_step
unfolding step other_step
step_sorted = by_letter step_of_name other_step behind_step refl step_of_name_sorted (other_sorted behind_step)

path_sorted : (first : Phrase) → Sorts first behind_step → Sorts (path_from first) behind_path
unfolding path_from step by_name other_step
path_sorted first s = operations_sorted first _ _ _ behind_path refl (inl refl, tt) (refl, tt) ((λ x o. open_first (open_made (open_first (open_token o)))), tt) refl s ((tt, tt), step_sorted)

product_sorted : (first : Phrase) → Sorts first behind_step → Sorts (product_from first) behind_product
unfolding product_from times_or_div path_from operations step by_name other_step
product_sorted first s =
    operations_sorted (path_from first) (star ∷ keyword (codes "div") ∷ []) times_or_div (path_from step) behind_product refl (inl refl, (inr (inl refl), tt)) (refl, (refl, tt))
    ((λ x o. open_first (open_left (open_made (open_first (open_token o))))), ((λ x o. open_first (open_right (open_made (open_first (open_token o))))), tt)) refl (path_sorted first s)
    (choice 42 _ _ (name ∷ star ∷ digits ∷ []) refl refl refl (tt, tt) (tt, tt), path_sorted step step_sorted)

sum_sorted : (first : Phrase) → Sorts first behind_step → Sorts (sum_from first) following
unfolding sum_from plus_or_minus product_from path_from operations step by_name other_step
sum_sorted first s =
    operations_sorted (product_from first) (plus ∷ minus ∷ []) plus_or_minus (product_from step) following refl (inl refl, (inr (inl refl), tt)) (refl, (refl, tt))
    ((λ x o. open_first (open_left (open_made (open_first (open_token o))))), ((λ x o. open_first (open_right (open_made (open_first (open_token o))))), tt)) refl (product_sorted first s)
    (choice 43 _ _ (name ∷ star ∷ digits ∷ []) refl refl refl (tt, tt) (tt, tt), product_sorted step step_sorted)

-- expressions

if_sorted : Sorts behind_if following
unfolding behind_if
if_sorted = ((tt, tt), ((inl refl, tt), ((tt, tt), ((tt, tt), ((inr (inr (inr (inl refl))), tt), ((tt, tt), (inl refl, (inr (inl refl), (inr (inr (inl refl)), (inr (inr (inr (inl refl))), tt))))))))))

begun_by_sorted : (v : Made) → Sorts (begun_by v) following
unfolding begun_by behind_if bare_name sum_from plus_or_minus product_from times_or_div path_from operations
begun_by_sorted v =
    either (is_if v) _ _ following
    (choice 40 behind_if (sum_from (bare_name v)) following refl refl refl if_sorted (sum_sorted (bare_name v) tt))
    (sum_sorted (name_or_call v) (name_or_call_sorted v behind_step refl))

rules_sorted : (p : Production) → Sorts (rules p) following
unfolding sum_from product_from path_from operations other_step
rules_sorted expression = by_letter begun_by (sum_from other_step) following refl begun_by_sorted (sum_sorted other_step (other_sorted behind_step))

-- What the language owes is met.
pub steps_readable : IsReadable steps steps_text
steps_readable = sorted_readable steps tokens_lawful fronts fronts_right steps_text rules_sorted (tt, tt)

-- An expression stands in another behind at least one character.

abbrev rank : Production → ℕ
rank p = 0

all_low : (A : Phrase) → HasRanksBelow steps rank 1 A
all_low (token t) = tt
all_low empty = tt
all_low (A & B) = (all_low A, all_low B)
all_low (keyed t f) = λ v. all_low (f v)
all_low (choose g A B) = (all_low A, all_low B)
all_low (many g A) = all_low A
all_low (rule p) = omega arith
all_low (made f A) = all_low A

abbrev Shields : Phrase → Type 0
Shields A = IsShielded steps fronts.takings rank 0 A

rules_shielded : (p : Production) → Shields (rules p)
unfolding by_name sum_from product_from path_from operations other_step
rules_shielded expression = (
  inl (refl, λ v. (tt, all_low (begun_by v))),
  (
    (
      (((tt, inr tt), (tt, inr tt)), inl (refl, (all_low (lexeme slash), all_low step))),
      inl (refl, (all_low times_or_div, all_low (path_from step))),
    ),
    inl (refl, (all_low plus_or_minus, all_low (product_from step))),
  ),
)

abbrev steps_levelled : IsLevelled steps fronts.takings
steps_levelled = record { takings = taken rules following firsts rules_taken rules_begin; rank = rank; shielded = rules_shielded }

pub steps_verdict : (text : List ℕ) → IsVerdict steps steps_text text (read_steps text)
steps_verdict text =
    exact_text steps steps_readable.tokens steps_readable.productions steps_text steps_readable.top (1 + length text) text
    (never_too_deep steps steps_text steps_readable fronts.takings steps_levelled 1 (all_low steps_text) (1 + length text) text (omega arith))

pub one_tree : (text : List ℕ) (v w : Made) → Derives steps steps_text v text [] → Derives steps steps_text w text [] → v ≡ w
one_tree text v w d e = (unique steps steps_readable.tokens steps_readable.productions d e AtEnd Nowhere steps_readable.top refl refl).0

-- an expression makes a tree

abbrev MakesTree : Production → Made → Type 0
MakesTree p v = IsTree v

abbrev Trees : Phrase → Type 0
Trees A = (v : Made) → MayMake steps MakesTree A v → IsTree v

lexeme_worth : (t : Token) (v : Made) → MayMake steps MakesTree (lexeme t) v → IsWorth steps t v
lexeme_worth t v m =
    let k = m.3 in
    let e = m.2 in
    let f = k.2 in
    let j : v ≡ first_value (pair k.0 k.1) = cc (e, f) in
    (k.3.0, k.3.1, subst (λ u. derives t u k.3.0 k.3.1) (sym j) k.3.2)

other_tree : Trees other_step
unfolding other_step
other_tree v (inl m) = (wildcard, m.2)
other_tree v (inr m) =
    let d = (lexeme_worth digits m.1 m.3).2 in
    let e = m.2 in
    let i = d.others.same in
    let j : v ≡ literal_made (characters (d.head ∷ d.others.run)) = cc (e, i) in
    (literal (d.head ∷ d.others.run), j)

bare_tree : (letters : List ℕ) → Trees (bare_name (characters letters))
unfolding bare_name
bare_tree letters v m = (name_step letters, m.2)

name_or_call_tree : (letters : List ℕ) → Trees (name_or_call (characters letters))
unfolding name_or_call
name_or_call_tree letters v (inl m) = (call letters (arguments_in m.1), m.2)
name_or_call_tree letters v (inr m) = bare_tree letters v m

operations_tree : (first : Phrase) (operators : List Token) (operator operand : Phrase) → Trees first → Trees (operations first operators operator operand)
unfolding operations
operations_tree first operators operator operand h v m =
    let k = m.3 in
    let t = h k.0 k.3 in
    let e = m.2 in
    let f = k.2 in
    let g = t.1 in
    let j : v ≡ operations_made (pair (node t.0) k.1) = cc (e, f, g) in
    (applied_to t.0 k.1, j)

sum_tree : (first : Phrase) → Trees first → Trees (sum_from first)
unfolding sum_from product_from path_from
sum_tree first h =
    operations_tree (product_from first) (plus ∷ minus ∷ []) plus_or_minus (product_from step)
    (operations_tree (path_from first) (star ∷ keyword (codes "div") ∷ []) times_or_div (path_from step) (operations_tree first (slash ∷ []) (lexeme slash) step h))

if_tree : Trees behind_if
unfolding behind_if
if_tree v m =
    let open_part = m.3 in
    let test_part = open_part.4 in
    let close_part = test_part.4 in
    let then_part = close_part.4 in
    let chosen_part = then_part.4 in
    let else_part = chosen_part.4 in
    let test = test_part.3 in
    let chosen = chosen_part.3 in
    let otherwise = else_part.4 in
    let a = m.2 in
    let b = open_part.2 in
    let c = test_part.2 in
    let d = close_part.2 in
    let e = then_part.2 in
    let f = chosen_part.2 in
    let g = else_part.2 in
    let h = test.1 in
    let i = chosen.1 in
    let k = otherwise.1 in
    let j : v ≡ conditional_made (pair open_part.0 (pair (node test.0) (pair close_part.0 (pair then_part.0 (pair (node chosen.0) (pair else_part.0 (node otherwise.0))))))) =
    cc (a, b, c, d, e, f, g, h, i, k) in
    (conditional test.0 chosen.0 otherwise.0, j)

either_tree : (b : Bool) (A B : Phrase) → Trees A → Trees B → Trees (if b then A else B)
either_tree true A B h k = h
either_tree false A B h k = k

choice_tree : (k : ℕ) (A B : Phrase) → Trees A → Trees B → Trees (choose (by_character (is k)) A B)
choice_tree k A B h i v (inl m) = h v m
choice_tree k A B h i v (inr m) = i v m

begun_tree : (letters : List ℕ) → Trees (begun_by (characters letters))
unfolding begun_by
begun_tree letters =
    either_tree (is_if (characters letters)) _ _ (choice_tree 40 behind_if (sum_from (bare_name (characters letters))) if_tree (sum_tree (bare_name (characters letters)) (bare_tree letters)))
    (sum_tree (name_or_call (characters letters)) (name_or_call_tree letters))

expression_tree : (p : Production) → Trees (rules p)
unfolding by_name
expression_tree expression v (inl m) =
    let k = m.3 in
    let q = k.4 in
    let d = k.3.2 in
    let i = d.others.same in
    let t = begun_tree (d.head ∷ d.others.run) q.1 (subst (λ u. MayMake steps MakesTree (begun_by u) q.1) i q.4) in
    let e = m.2 in
    let f = k.2 in
    let g = q.2 in
    let j : v ≡ third_value (pair k.0 (pair q.0 q.1)) = cc (e, f, g) in
    (t.0, j ∙ t.1)
expression_tree expression v (inr m) = sum_tree other_step other_tree v m

pub steps_tree : (text : List ℕ) (v : Made) → Derives steps steps_text v text [] → IsTree v
steps_tree text v d =
    let m = derived_made steps MakesTree expression_tree d in
    let k = m.3 in
    let e = m.2 in
    let f = k.2 in
    let j : v ≡ second_value (pair k.0 k.1) = cc (e, f) in
    (k.4.0, j ∙ k.4.1)
