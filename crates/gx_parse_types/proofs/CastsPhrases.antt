-- What the operators with a type on their right read.
use Rattle.std.proofs.Common.{◌≡◌, ℕ, Bool, true, false, List, [], ◌∷◌, subst}
use Rattle.gx_ast.specs.SyntaxTree.{SyntaxTree}
use Rattle.gx_grammar.specs.Value.{nothing, pair}
use Rattle.gx_grammar.specs.Grammar.{empty, ◌&◌, choose}
use Rattle.gx_grammar.specs.Ran.{Standing, Ran, Looked}
use Rattle.gx_parse_grammar.specs.declared.word.Word.{Word}
use Rattle.gx_parse_grammar.specs.declared.word.Word.TheVariants as word
use Rattle.gx_parse_grammar.specs.declared.word.WordSet.{WordSet}
use Rattle.gx_parse_grammar.specs.declared.word.WordSet.TheVariants as set
use Rattle.gx_parse_grammar.specs.declared.casts.TypeTest.{TypeTest}
use Rattle.gx_parse_grammar.specs.declared.casts.CastTest.{CastTest}
use Rattle.gx_parse_grammar.specs.Nodes.{Made, tree}
use Rattle.gx_parse_grammar.specs.Tokens.{one_of}
use Rattle.gx_parse_grammar.specs.Grammar.{Phrase, word_of, lexeme, at_tokens, operator, place_in}
use Rattle.gx_parse_tokens.specs.Reading.{read_in}
use Rattle.gx_parse_grammar.specs.Types.{sequence_type, single_type}
use Rattle.gx_parse_grammar.specs.Casts.{test_word, test_second, cast_word, test_value, cast_made, type_test, cast_test}
use Rattle.gx_parse_parts.proofs.Phrases.{in_both, in_empty, in_left, in_right, in_made}

module _ (text : List ℕ) (n : ℕ) where
  abbrev typed : Word → Word → Phrase → Phrase
  typed w second A = operator (place_in text) (set.Only w) & lexeme (word_of second) & A

  abbrev optional : Word → Word → Phrase → Phrase
  optional w second A = choose (at_tokens (word_of w ∷ [])) (typed w second A) empty

  -- an operand alone, and one with an operator

  alone : (before A : Phrase) (w second : Word) (ws : WordSet) (v : Made) (taken : Bool) (a b c : Standing) → ws ≡ set.Only w → Ran v a b (read_in text n before) → taken ≡ false → Looked taken b c (at_tokens (one_of ws ∷ []))
      → Ran (pair v nothing) a c (read_in text n (before & optional w second A))
  alone before A w second ws v taken a b c s h e k =
      in_both text n before (optional w second A) v nothing a b c h
      (in_right text n (at_tokens (word_of w ∷ [])) (typed w second A) empty nothing taken b c c e (subst (λ x. Looked taken b c (at_tokens (one_of x ∷ []))) s k) (in_empty text n c))

  both_words : (before A : Phrase) (w second : Word) (ws after : WordSet) (v o x y : Made) (taken : Bool) (a b c d e f : Standing) → ws ≡ set.Only w → after ≡ set.Only second → Ran v a b (read_in text n before) → taken ≡ true → Looked taken b c (at_tokens (one_of ws ∷ []))
      → Ran o c d (read_in text n (operator (place_in text) ws)) → Ran x d e (read_in text n (lexeme (one_of after))) → Ran y e f (read_in text n A) → Ran (pair v (pair o (pair x y))) a f (read_in text n (before & optional w second A))
  both_words before A w second ws after v o x y taken a b c d e f s r h t k i j l =
      in_both text n before (optional w second A) v (pair o (pair x y)) a b f h
      (in_left text n (at_tokens (word_of w ∷ [])) (typed w second A) empty (pair o (pair x y)) taken b c f t (subst (λ q. Looked taken b c (at_tokens (one_of q ∷ []))) s k)
      (in_both text n (operator (place_in text) (set.Only w)) (lexeme (word_of second) & A) o (pair x y) c d f (subst (λ q. Ran o c d (read_in text n (operator (place_in text) q))) s i)
      (in_both text n (lexeme (word_of second)) A x y d e f (subst (λ q. Ran x d e (read_in text n (lexeme (one_of q)))) r j) l)))

  pub no_test : (o : TypeTest) (before : Phrase) (ws : WordSet) (t : SyntaxTree) (taken : Bool) (a b c : Standing) → ws ≡ set.Only (test_word o) → Ran (tree t) a b (read_in text n before) → taken ≡ false → Looked taken b c (at_tokens (one_of ws ∷ []))
      → Ran (tree t) a c (read_in text n (type_test (place_in text) o before))
  unfolding type_test
  no_test o before ws t taken a b c s h e k =
      in_made text n (λ left v. test_value o v) (before & optional (test_word o) (test_second o) (sequence_type (place_in text))) (pair (tree t) nothing) a c
      (alone before (sequence_type (place_in text)) (test_word o) (test_second o) ws (tree t) taken a b c s h e k)

  pub test_read : (o : TypeTest) (before : Phrase) (ws after : WordSet) (t : SyntaxTree) (p x y : Made) (taken : Bool) (a b c d e f : Standing) → ws ≡ set.Only (test_word o) → after ≡ set.Only (test_second o) → Ran (tree t) a b (read_in text n before)
      → taken ≡ true → Looked taken b c (at_tokens (one_of ws ∷ [])) → Ran p c d (read_in text n (operator (place_in text) ws)) → Ran x d e (read_in text n (lexeme (one_of after))) → Ran y e f (read_in text n (sequence_type (place_in text)))
      → Ran (test_value o (pair (tree t) (pair p (pair x y)))) a f (read_in text n (type_test (place_in text) o before))
  unfolding type_test
  test_read o before ws after t p x y taken a b c d e f s r h q k i j l =
      in_made text n (λ left v. test_value o v) (before & optional (test_word o) (test_second o) (sequence_type (place_in text))) (pair (tree t) (pair p (pair x y))) a f
      (both_words before (sequence_type (place_in text)) (test_word o) (test_second o) ws after (tree t) p x y taken a b c d e f s r h q k i j l)

  pub no_cast : (o : CastTest) (before : Phrase) (ws : WordSet) (t : SyntaxTree) (taken : Bool) (a b c : Standing) → ws ≡ set.Only (cast_word o) → Ran (tree t) a b (read_in text n before) → taken ≡ false → Looked taken b c (at_tokens (one_of ws ∷ []))
      → Ran (tree t) a c (read_in text n (cast_test (place_in text) o before))
  unfolding cast_test
  no_cast o before ws t taken a b c s h e k =
      in_made text n (λ left v. cast_made o v) (before & optional (cast_word o) word.As (single_type (place_in text))) (pair (tree t) nothing) a c
      (alone before (single_type (place_in text)) (cast_word o) word.As ws (tree t) taken a b c s h e k)

  pub cast_read : (o : CastTest) (before : Phrase) (ws after : WordSet) (t : SyntaxTree) (p x y : Made) (taken : Bool) (a b c d e f : Standing) → ws ≡ set.Only (cast_word o) → after ≡ set.Only word.As → Ran (tree t) a b (read_in text n before)
      → taken ≡ true → Looked taken b c (at_tokens (one_of ws ∷ [])) → Ran p c d (read_in text n (operator (place_in text) ws)) → Ran x d e (read_in text n (lexeme (one_of after))) → Ran y e f (read_in text n (single_type (place_in text)))
      → Ran (cast_made o (pair (tree t) (pair p (pair x y)))) a f (read_in text n (cast_test (place_in text) o before))
  unfolding cast_test
  cast_read o before ws after t p x y taken a b c d e f s r h q k i j l =
      in_made text n (λ left v. cast_made o v) (before & optional (cast_word o) word.As (single_type (place_in text))) (pair (tree t) (pair p (pair x y))) a f
      (both_words before (single_type (place_in text)) (cast_word o) word.As ws after (tree t) p x y taken a b c d e f s r h q k i j l)
