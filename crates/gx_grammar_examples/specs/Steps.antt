-- Paths, products, sums and conditionals, where each word may also be a name.
--   Expression ::= "if" "(" Expression ")" "then" Expression "else" Expression | Sum
--   Sum ::= Product (("+" | "-") Product)*
--   Product ::= Path (("*" | "div") Path)*
--   Path ::= Step ("/" Step)*
--   Step ::= Name | Name "(" (Expression ("," Expression)*)? ")" | "*" | Number
-- White space and comments may stand between tokens. No call has the name `if`. So a name is read first, and decides what
-- may stand behind it.
use Rattle.std.specs.Prelude.{ℕ, List, [], ◌∷◌, ◌+◌, length, codes, Bool, false, if◌then◌else◌, nat_eq, Result}
use Rattle.std.specs.Cmp.Lexicographic.{pointwise}
use Rattle.gx_grammar.specs.Value.{Value, nothing, characters, node, pair, no_item, an_item}
use Rattle.gx_grammar.specs.Grammar.{Grammar, token, empty, ◌&◌, keyed, choose, many, rule, made}
use Rattle.gx_grammar.specs.Language.{Language}
use Rattle.gx_grammar.specs.First.{by_character, by_tokens}
use Rattle.gx_grammar.specs.Apart.{is}
use Rattle.gx_grammar.specs.Reading.{Refusal}
use Rattle.gx_grammar.specs.Text.{read_text}
use Rattle.gx_grammar.specs.Sums.{is_letter}
use Rattle.gx_grammar_examples.specs.Tokens.{Token, gap, symbol, keyword, name, digits, scan, seen, faults, second_value, lexeme, language_of}

mutual
  -- an expression
  pub data Tree : Type 0 where
    name_step : (letters : List ℕ) → Tree
    wildcard : Tree
    literal : (digits : List ℕ) → Tree
    call : (letters : List ℕ) → (arguments : Arguments) → Tree
    binary : (operator : List ℕ) → (left right : Tree) → Tree
    conditional : (test chosen otherwise : Tree) → Tree

  -- the arguments of a call
  pub data Arguments : Type 0 where
    no_argument : Arguments
    an_argument : (first : Tree) → (others : Arguments) → Arguments

abbrev pub Made : Type 0
Made = Value Tree

pub data Production : Type 0 where
  expression : Production

abbrev pub Phrase : Type 0
Phrase = Grammar Token Production Tree

abbrev pub opening : Token
opening = symbol (codes "(")

abbrev pub closing : Token
closing = symbol (codes ")")

abbrev pub comma : Token
comma = symbol (codes ",")

abbrev pub slash : Token
slash = symbol (codes "/")

abbrev pub star : Token
star = symbol (codes "*")

abbrev pub plus : Token
plus = symbol (codes "+")

abbrev pub minus : Token
minus = symbol (codes "-")

-- operators with an operand behind each

-- Operators have their operands from the left.
abbrev pub applied_to : Tree → Made → Tree
applied_to left (an_item (pair (characters operator) (node right)) others) = applied_to (binary operator left right) others
applied_to left _ = left

abbrev pub operations_made : Made → Made
operations_made (pair (node first) others) = node (applied_to first others)
operations_made _ = nothing

-- an operand, and others behind operators that are tokens of the list
unfoldable pub operations : Phrase → List Token → Phrase → Phrase → Phrase
operations first operators operator operand = made (λ left v. operations_made v) (first & many (by_tokens {Node = Tree} scan faults seen operators) (operator & operand))

-- steps

abbrev pub is_if : Made → Bool
is_if (characters letters) = pointwise nat_eq letters (codes "if")
is_if _ = false

abbrev pub name_step_made : Made → Made
name_step_made (characters letters) = node (name_step letters)
name_step_made _ = nothing

abbrev pub literal_made : Made → Made
literal_made (characters digits) = node (literal digits)
literal_made _ = nothing

abbrev pub arguments_in : Made → Arguments
arguments_in (an_item (node t) others) = an_argument t (arguments_in others)
arguments_in _ = no_argument

abbrev pub call_made : Made → Made → Made
call_made (characters letters) v = node (call letters (arguments_in v))
call_made _ v = nothing

-- an argument, others behind commas, and `)`
abbrev pub arguments_made : Made → Made
arguments_made (pair first (pair others close)) = an_item first others
arguments_made _ = nothing

-- the name that was read, with nothing behind it
unfoldable pub bare_name : Made → Phrase
bare_name v = made (λ left w. name_step_made v) empty

unfoldable pub some_arguments : Phrase
some_arguments = made (λ left v. arguments_made v) (rule expression & many (by_character (is 44)) (made (λ left v. second_value v) (lexeme comma & rule expression)) & lexeme closing)

unfoldable pub arguments : Phrase
arguments = made (λ left v. second_value v) (lexeme opening & choose (by_character (is 41)) (made (λ left v. no_item) (lexeme closing)) some_arguments)

-- the name that was read, or a call of it
unfoldable pub name_or_call : Made → Phrase
name_or_call v = choose (by_character (is 40)) (made (λ left w. call_made v w) arguments) (bare_name v)

unfoldable pub step_of_name : Made → Phrase
step_of_name v = if is_if v then (bare_name v) else (name_or_call v)

-- behind a name and a gap
abbrev pub third_value : Made → Made
third_value (pair letters (pair space v)) = v
third_value _ = nothing

-- a name, and what its letters let stand behind it
unfoldable pub by_name : (Made → Phrase) → Phrase
by_name behind = made (λ left v. third_value v) (keyed name (λ v. token gap & behind v))

unfoldable pub other_step : Phrase
other_step = choose (by_character (is 42)) (made (λ left v. node wildcard) (lexeme star)) (made (λ left v. literal_made v) (lexeme digits))

unfoldable pub step : Phrase
step = choose (by_character is_letter) (by_name step_of_name) other_step

-- paths, products and sums, whose first step is given

unfoldable pub path_from : Phrase → Phrase
path_from first = operations first (slash ∷ []) (lexeme slash) step

unfoldable pub times_or_div : Phrase
times_or_div = choose (by_character (is 42)) (lexeme star) (lexeme (keyword (codes "div")))

unfoldable pub product_from : Phrase → Phrase
product_from first = operations (path_from first) (star ∷ keyword (codes "div") ∷ []) times_or_div (path_from step)

unfoldable pub plus_or_minus : Phrase
plus_or_minus = choose (by_character (is 43)) (lexeme plus) (lexeme minus)

unfoldable pub sum_from : Phrase → Phrase
sum_from first = operations (product_from first) (plus ∷ minus ∷ []) plus_or_minus (product_from step)

-- expressions

-- `(`, an expression, `)`, `then`, an expression, `else` and an expression
abbrev pub conditional_made : Made → Made
conditional_made (pair begin (pair (node test) (pair close (pair then_word (pair (node chosen) (pair else_word (node otherwise))))))) =
    node (conditional test chosen otherwise)
conditional_made _ = nothing

-- what stands behind the word `if` of a conditional
unfoldable pub behind_if : Phrase
behind_if =
    made (λ left v. conditional_made v)
    (lexeme opening & rule expression & lexeme closing & lexeme (keyword (codes "then")) & rule expression & lexeme (keyword (codes "else")) & rule expression)

-- an expression whose first name was read
unfoldable pub begun_by : Made → Phrase
begun_by v = if is_if v then (choose (by_character (is 40)) behind_if (sum_from (bare_name v))) else (sum_from (name_or_call v))

abbrev pub rules : Production → Phrase
rules expression = choose (by_character is_letter) (by_name begun_by) (sum_from other_step)

-- what may stand behind an expression
abbrev pub following : List Token
following = closing ∷ comma ∷ keyword (codes "then") ∷ keyword (codes "else") ∷ []

abbrev pub steps : Language
steps = language_of rules following

abbrev pub steps_text : Phrase
steps_text = made (λ left v. second_value v) (token gap & rule expression)

-- what a text reads as
abbrev pub read_steps : List ℕ → Result Made Refusal
read_steps text = read_text steps (1 + length text) steps_text text
