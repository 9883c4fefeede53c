-- The operators with a type on their right, between signs and `intersect`.
--   Inst ::= Treat ("instance" "of" SeqType)?          Treat ::= Castable ("treat" "as" SeqType)?
--   Castable ::= Cast ("castable" "as" QName "?"?)?    Cast ::= Unary ("cast" "as" QName "?"?)?
use Rattle.std.specs.Prelude.{ℕ, List, [], ◌∷◌, ◌&&◌, Bool}
use Rattle.gx_base.specs.declared.place.Place.{Place}
use Rattle.gx_ast.specs.SyntaxTree.{SyntaxTree, SyntaxForm, at as located, instance_of, treat_as, castable_as, cast_as}
use Rattle.gx_ast.specs.declared.sequence_type.SequenceType.{SequenceType}
use Rattle.gx_ast.specs.declared.sequence_type.SingleType.{SingleType}
use Rattle.gx_grammar.specs.Value.{nothing, node, pair}
use Rattle.gx_grammar.specs.Grammar.{empty, ◌&◌, choose, made}
use Rattle.gx_grammar.specs.Apart.{all_apart}
use Rattle.gx_parse_grammar.specs.declared.word.Word.{Word}
use Rattle.gx_parse_grammar.specs.declared.word.Word.TheVariants as word
use Rattle.gx_parse_grammar.specs.declared.word.WordSet.TheVariants as set
use Rattle.gx_parse_grammar.specs.declared.casts.TypeTest.{TypeTest}
use Rattle.gx_parse_grammar.specs.declared.casts.TypeTest.TheVariants as test
use Rattle.gx_parse_grammar.specs.declared.casts.CastTest.{CastTest}
use Rattle.gx_parse_grammar.specs.declared.casts.CastTest.TheVariants as cast
use Rattle.gx_parse_grammar.specs.Nodes.{Made, Tree, Operator, TypeOf, Casting, tree}
use Rattle.gx_parse_grammar.specs.Tokens.{Token, shape_of_token}
use Rattle.gx_parse_grammar.specs.Basics.{Phrase, word_of, lexeme, at_tokens, operator}
use Rattle.gx_parse_grammar.specs.Types.{sequence_type, single_type}

-- the words of an operator

abbrev pub test_word : TypeTest → Word
test_word test.InstanceOf = word.Instance
test_word test.TreatAs = word.Treat

abbrev pub test_second : TypeTest → Word
test_second test.InstanceOf = word.Of
test_second test.TreatAs = word.As

abbrev pub cast_word : CastTest → Word
cast_word cast.CastableAs = word.Castable
cast_word cast.CastAs = word.Cast

abbrev pub test_form : TypeTest → SyntaxTree → SequenceType → SyntaxForm
test_form test.InstanceOf t k = instance_of t k
test_form test.TreatAs t k = treat_as t k

abbrev pub cast_form : CastTest → SyntaxTree → SingleType → SyntaxForm
cast_form cast.CastableAs t k = castable_as t k
cast_form cast.CastAs t k = cast_as t k

abbrev pub test_value : TypeTest → Made → Made
test_value o (pair (node (Tree t)) (pair (node (Operator place w)) (pair second (node (TypeOf k))))) = tree (located place (test_form o t k))
test_value o (pair (node (Tree t)) nothing) = tree t
test_value o _ = nothing

abbrev pub cast_made : CastTest → Made → Made
cast_made o (pair (node (Tree t)) (pair (node (Operator place w)) (pair second (node (Casting k))))) = tree (located place (cast_form o t k))
cast_made o (pair (node (Tree t)) nothing) = tree t
cast_made o _ = nothing

-- The place of a token is `at` of the number of characters that are left there.
module _ (at : ℕ → Place) where
  unfoldable pub type_test : TypeTest → Phrase → Phrase
  type_test o operand =
      made (λ left v. test_value o v) (operand & choose (at_tokens (word_of (test_word o) ∷ [])) (operator at (set.Only (test_word o)) & lexeme (word_of (test_second o)) & sequence_type at) empty)

  unfoldable pub cast_test : CastTest → Phrase → Phrase
  cast_test o operand =
      made (λ left v. cast_made o v) (operand & choose (at_tokens (word_of (cast_word o) ∷ [])) (operator at (set.Only (cast_word o)) & lexeme (word_of word.As) & single_type at) empty)

  -- an operand with the operators behind it, each at most once
  unfoldable pub casts : Phrase → Phrase
  casts operand = type_test test.InstanceOf (type_test test.TreatAs (cast_test cast.CastableAs (cast_test cast.CastAs operand)))

-- what may follow these operators, where `us` may follow all of them

abbrev pub behind_instance : List Token → List Token
behind_instance us = word_of word.Instance ∷ us

abbrev pub behind_treat : List Token → List Token
behind_treat us = word_of word.Treat ∷ behind_instance us

abbrev pub behind_castable : List Token → List Token
behind_castable us = word_of word.Castable ∷ behind_treat us

abbrev pub behind_cast : List Token → List Token
behind_cast us = word_of word.Cast ∷ behind_castable us

-- the tokens stand apart from what they follow
abbrev pub casts_fit : List Token → Bool
casts_fit us =
    all_apart shape_of_token (word_of word.Open ∷ word_of word.Instance ∷ []) us
    && (all_apart shape_of_token (word_of word.Open ∷ word_of word.Treat ∷ []) (behind_instance us)
    && (all_apart shape_of_token (word_of word.Question ∷ word_of word.Castable ∷ []) (behind_treat us) && all_apart shape_of_token (word_of word.Question ∷ word_of word.Cast ∷ []) (behind_castable us)))
