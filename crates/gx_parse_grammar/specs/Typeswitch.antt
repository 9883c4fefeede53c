-- The parts of typeswitches.
--   Switch ::= "typeswitch" "(" Expr ")" Case+ "default" Var? "return" Single
--   Case ::= "case" (Var "as")? SeqType "return" Single
-- A typeswitch has at most 64 cases.
use Rattle.std.specs.Prelude.{ℕ, zero, suc, [], ◌∷◌, codes, Option, Some, None, if◌then◌else◌}
use Rattle.gx_base.specs.declared.place.Place.{Place}
use Rattle.gx_ast.specs.SyntaxTree.{Cases, no_case, a_case, at as located, typeswitch as typeswitch_form}
use Rattle.gx_ast.specs.declared.expression.Case.{Case}
use Rattle.gx_ast.specs.declared.sequence_type.CaseHead.{CaseHead}
use Rattle.gx_ast.specs.declared.sequence_type.DefaultHead.{DefaultHead}
use Rattle.gx_grammar.specs.Value.{nothing, node, pair}
use Rattle.gx_grammar.specs.Grammar.{token, empty, ◌&◌, choose, rule, made}
use Rattle.gx_parse_grammar.specs.declared.word.Word.TheVariants as word
use Rattle.gx_parse_grammar.specs.declared.word.WordSet.TheVariants as set
use Rattle.gx_parse_grammar.specs.declared.word.Branching.{Branching}
use Rattle.gx_parse_grammar.specs.declared.word.Branching.TheVariants as branching_is
use Rattle.gx_parse_grammar.specs.Nodes.{Made, Tree, MaybeBound, TypeOf, HeadOfCase, HeadOfDefault, tree}
use Rattle.gx_parse_grammar.specs.Tokens.{barred_words}
use Rattle.gx_parse_grammar.specs.Basics.{Phrase, single, word_of, lexeme, keyword, at_tokens, is_name}
use Rattle.gx_parse_grammar.specs.Types.{sequence_type}
use Rattle.gx_parse_grammar.specs.Bound.{case_variable, default_variable}

-- what the name begins where a `(` stands behind it
abbrev pub branching_named : Made → Option Branching
branching_named v = if is_name (codes "if") v then (Some branching_is.If) else (if is_name (codes "typeswitch") v then (Some branching_is.Typeswitch) else None)

abbrev pub case_head_made : CaseHead → Made
case_head_made h = node (HeadOfCase h)

abbrev pub default_head_made : DefaultHead → Made
default_head_made h = node (HeadOfDefault h)

abbrev pub case_made : Case → Made
case_made c = pair (case_head_made c.head) (tree c.body)

abbrev pub cases_in : Made → Cases
cases_in (pair (pair (node (HeadOfCase h)) (node (Tree t))) others) = a_case h t (cases_in others)
cases_in _ = no_case

-- `case`, a variable or none, a type and `return`
abbrev pub case_head_value : Place → Made → Made
case_head_value place (pair w (pair (node (MaybeBound x)) (pair (node (TypeOf k)) r))) = case_head_made (record { place = place; variable = x; kind = k })
case_head_value place _ = nothing

-- `default`, a variable or none and `return`
abbrev pub default_head_value : Place → Made → Made
default_head_value place (pair w (pair (node (MaybeBound x)) r)) = default_head_made (record { place = place; variable = x })
default_head_value place _ = nothing

-- `(`, an expression, `)`, cases, and the default with its expression
abbrev pub typeswitch_value : Place → Made → Made
typeswitch_value place (pair opening (pair gap (pair (node (Tree operand)) (pair close (pair cs (pair (node (HeadOfDefault h)) (node (Tree otherwise)))))))) = tree (located place (typeswitch_form operand (cases_in cs) h otherwise))
typeswitch_value place _ = nothing

-- The place of a token is `at` of the number of characters that are left there.
module _ (at : ℕ → Place) where
  -- what stands in front of the expression of a case
  unfoldable pub case_head : Phrase
  case_head = made (λ left v. case_head_value (at left) v) (lexeme (word_of word.Case) & case_variable at & sequence_type at & keyword word.Return)

  unfoldable pub case : ℕ → Phrase
  case n = case_head & rule (single n)

  -- at most so many further cases
  unfoldable pub more_cases : ℕ → ℕ → Phrase
  more_cases n zero = choose (at_tokens (barred_words (set.Only word.Case) ∷ [])) (token (barred_words (set.Only word.Case))) empty
  more_cases n (suc k) = choose (at_tokens (word_of word.Case ∷ [])) (case n & more_cases n k) empty

  -- 1 to 64 cases
  unfoldable pub cases : ℕ → Phrase
  cases n = case n & more_cases n 63

  -- what stands in front of the expression of the default
  unfoldable pub default_head : Phrase
  default_head = made (λ left v. default_head_value (at left) v) (lexeme (word_of word.Default) & default_variable at & keyword word.Return)
