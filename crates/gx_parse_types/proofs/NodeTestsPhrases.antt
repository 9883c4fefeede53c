-- What node tests read.
use Rattle.std.proofs.Common.{◌≡◌, ℕ, ◌+◌, refl, Bool, true, false, List, [], ◌∷◌, sym, subst, Option, Some, None, Result, Ok, Err}
use Rattle.std.specs.Prelude.{IfOk}
use Rattle.gx_base.specs.declared.place.Place.{Place}
use Rattle.gx_ast.specs.declared.name.QName.{QName}
use Rattle.gx_ast.specs.declared.name.Axis.TheVariants as axis
use Rattle.gx_ast.specs.declared.sequence_type.NodeTest.{NodeTest}
use Rattle.gx_grammar.specs.Value.{nothing, node, pair}
use Rattle.gx_grammar.specs.Grammar.{token, empty, ◌&◌, keyed, choose, made}
use Rattle.gx_grammar.specs.Apart.{is}
use Rattle.gx_grammar.specs.First.{by_character}
use Rattle.gx_grammar.specs.Reading.{State, Reading}
use Rattle.gx_grammar.specs.Ran.{Standing, Ran, Looked, IsDone, left_of}
use Rattle.gx_parse_grammar.specs.declared.word.Word.TheVariants as word
use Rattle.gx_parse_grammar.specs.declared.kind_words.KindWord.{KindWord}
use Rattle.gx_parse_grammar.specs.declared.kind_words.TestContent.{TestContent}
use Rattle.gx_base.specs.NameCharacters.{is_ncname_start}
use Rattle.gx_parse_grammar.specs.Nodes.{Made, name_at, name_length, has_prefix, second_value}
use Rattle.gx_parse_grammar.specs.Tokens.{qname, ncname, local_wildcard, gap}
use Rattle.gx_parse_grammar.specs.Grammar.{Phrase, word_of, lexeme, at_tokens, literal, test_or_literal, place_in}
use Rattle.gx_parse_tokens.specs.Reading.{read_in, read_one}
use Rattle.gx_parse_grammar.specs.Types.{Gave, kind_word, content}
use Rattle.gx_parse_grammar.specs.NodeTests.{test_of, test_made, maybe_content, local_value, any_value, test_value, step_made, wildcard_made, in_namespace, if_wildcard, wildcard_or, wildcard, kind_content, behind_test, any_test, any_step, node_test, axis_test, attribute_step, wildcard_step}
use Rattle.gx_parse_parts.specs.Parsing.{KeepsTest}
use Rattle.gx_parse_parts.proofs.Chains.{ran_any}
use Rattle.gx_parse_parts.proofs.Phrases.{in_token, in_both, in_keyed, in_empty, in_left, in_right, in_made, gave_none, loses_done, ran_loses}

-- where a test is kept, it is given
pub gave_test : {E : Type 0} (test : Option NodeTest) (wanted : NodeTest) (made : Result NodeTest E) (a b c : Standing) (read : State → Reading Made)
    → Ran (test_made wanted) a b read → IfOk made (λ t. t ≡ wanted) → KeepsTest test made b c → Gave test_made test a c read
gave_test test wanted (Ok t) a b c read h e k =
    subst (λ o. Gave test_made o a c read) (sym k.0) (subst (λ d. Ran (test_made t) a d read) (sym k.1) (subst (λ x. Ran (test_made x) a b read) (sym e) h))
gave_test test wanted (Err x) a b c read h e k =
    subst (λ o. Gave test_made o a c read) (sym k.0) (gave_none test_made nothing a c read (loses_done b c k.1) (ran_loses (test_made wanted) nothing a b c read h k.1))

module _ (text : List ℕ) (n : ℕ) where
  abbrev reading : Phrase → State → Reading Made
  reading A = read_in text n A

  abbrev with_prefix : Phrase
  with_prefix = token (word_of word.AnyPrefix) & token ncname & token gap

  abbrev local_form : Phrase
  local_form = made (λ left v. local_value (place_in text left) v) with_prefix

  abbrev any_form : Phrase
  any_form = made (λ left v. any_value (place_in text left) v) (lexeme (word_of word.AnyName))

  pub any_read : (place : Place) (v : Made) (taken : Bool) (a b c : Standing) → place ≡ place_in text (left_of b) → taken ≡ false → Looked taken a b (at_tokens (word_of word.AnyPrefix ∷ [])) → Ran v b c (reading (lexeme (word_of word.AnyName)))
      → Ran (any_value place v) a c (reading (wildcard (place_in text)))
  unfolding wildcard
  any_read place v taken a b c e t h k =
      subst (λ p. Ran (any_value p v) a c (reading (wildcard (place_in text)))) (sym e)
      (in_right text n (at_tokens (word_of word.AnyPrefix ∷ [])) local_form any_form (any_value (place_in text (left_of b)) v) taken a b c t h
      (in_made text n (λ left v. any_value (place_in text left) v) (lexeme (word_of word.AnyName)) v b c k))

  pub local_read : (place : Place) (x v : Made) (taken : Bool) (a b c d e : Standing) → place ≡ place_in text (left_of b) → taken ≡ true → Looked taken a b (at_tokens (word_of word.AnyPrefix ∷ [])) → Ran x b c (read_one (word_of word.AnyPrefix))
      → Ran v c d (read_one ncname) → Ran nothing d e (read_one gap) → Ran (local_value place (pair x (pair v nothing))) a e (reading (wildcard (place_in text)))
  unfolding wildcard
  local_read place x v taken a b c d e p t h k l m =
      subst (λ q. Ran (local_value q (pair x (pair v nothing))) a e (reading (wildcard (place_in text)))) (sym p)
      (in_left text n (at_tokens (word_of word.AnyPrefix ∷ [])) local_form any_form (local_value (place_in text (left_of b)) (pair x (pair v nothing))) taken a b e t h
      (in_made text n (λ left v. local_value (place_in text left) v) with_prefix (pair x (pair v nothing)) b e
      (in_both text n (token (word_of word.AnyPrefix)) (token ncname & token gap) x (pair v nothing) b c e (in_token text n (word_of word.AnyPrefix) x b c k)
      (in_both text n (token ncname) (token gap) v nothing c d e (in_token text n ncname v c d l) (in_token text n gap nothing d e m)))))

  pub no_kind : (k : Option KindWord) (a : Standing) → k ≡ None → Ran nothing a a (reading (kind_content (place_in text) k))
  unfolding kind_content
  no_kind k a e = subst (λ q. Ran nothing a a (reading (kind_content (place_in text) q))) (sym e) (in_empty text n a)

  pub no_content : (o : Option KindWord) (k : KindWord) (taken : Bool) (a b : Standing) → o ≡ Some k → taken ≡ false → Looked taken a b (by_character (is 40)) → Ran nothing a b (reading (kind_content (place_in text) o))
  unfolding kind_content
  no_content o k taken a b e t h =
      subst (λ q. Ran nothing a b (reading (kind_content (place_in text) q))) (sym e) (in_right text n (by_character (is 40)) (content (place_in text) k) empty nothing taken a b b t h (in_empty text n b))

  pub content_read : (o : Option KindWord) (k : KindWord) (v : Made) (taken : Bool) (a b c : Standing) → o ≡ Some k → taken ≡ true → Looked taken a b (by_character (is 40)) → Ran v b c (reading (content (place_in text) k)) → Ran v a c (reading (kind_content (place_in text) o))
  unfolding kind_content
  content_read o k v taken a b c e t h r =
      subst (λ q. Ran v a c (reading (kind_content (place_in text) q))) (sym e) (in_left text n (by_character (is 40)) (content (place_in text) k) empty v taken a b c t h r)

  pub test_value_is : (k : Option KindWord) (q : QName) (c : Option TestContent) → test_value k q (pair nothing (maybe_content c)) ≡ test_made (test_of k q c)
  test_value_is k q None = refl
  test_value_is k q (Some c) = refl

  pub test_read : (v u : Made) (k : Option KindWord) (place : Place) (a b c : Standing) → k ≡ kind_word v → place ≡ place_in text (left_of a + name_length v) → Ran nothing a b (read_one gap) → Ran u b c (reading (kind_content (place_in text) k))
      → Ran (test_value k (name_at place v) (pair nothing u)) a c (reading (behind_test (place_in text) v))
  unfolding behind_test
  test_read v u k place a b c s e h r =
      subst (λ p. Ran (test_value k (name_at p v) (pair nothing u)) a c (reading (behind_test (place_in text) v))) (sym e)
      (subst (λ x. Ran (test_value x (name_at (place_in text (left_of a + name_length v)) v) (pair nothing u)) a c (reading (behind_test (place_in text) v))) (sym s)
      (in_made text n (λ left u. test_value (kind_word v) (name_at (place_in text (left + name_length v)) v) u) (token gap & kind_content (place_in text) (kind_word v)) (pair nothing u) a c
      (in_both text n (token gap) (kind_content (place_in text) (kind_word v)) nothing u a b c (in_token text n gap nothing a b h) (subst (λ x. Ran u b c (reading (kind_content (place_in text) x))) s r))))

  -- what stands behind a name with `:*`, and behind one without

  abbrev wildcard_parts : Made → Phrase → Phrase → Phrase
  wildcard_parts v any other = keyed (local_wildcard (has_prefix v)) (λ w. if_wildcard w any other)

  read_as : (found wanted prefixed : Bool) (v : Made) (a b : Standing) → found ≡ wanted → prefixed ≡ has_prefix v → Ran (wildcard_made found) a b (read_one (local_wildcard prefixed)) → Ran (wildcard_made wanted) a b (read_one (local_wildcard (has_prefix v)))
  read_as found wanted prefixed v a b e f h = subst (λ x. Ran (wildcard_made x) a b (read_one (local_wildcard (has_prefix v)))) e (subst (λ p. Ran (wildcard_made found) a b (read_one (local_wildcard p))) f h)

  pub wildcard_stands : (found prefixed : Bool) (v u : Made) (any other : Phrase) (a b c : Standing) → found ≡ true → prefixed ≡ has_prefix v → Ran (wildcard_made found) a b (read_one (local_wildcard prefixed)) → Ran u b c (reading any) → Ran u a c (reading (wildcard_or v any other))
  unfolding wildcard_or
  wildcard_stands found prefixed v u any other a b c e f h k =
      in_made text n (λ left w. second_value w) (wildcard_parts v any other) (pair (wildcard_made true) u) a c
      (in_keyed text n (local_wildcard (has_prefix v)) (λ w. if_wildcard w any other) (wildcard_made true) u a b c (read_as found true prefixed v a b e f h) k)

  pub no_wildcard : (found prefixed : Bool) (v u : Made) (any other : Phrase) (a b c : Standing) → found ≡ false → prefixed ≡ has_prefix v → Ran (wildcard_made found) a b (read_one (local_wildcard prefixed)) → Ran u b c (reading other) → Ran u a c (reading (wildcard_or v any other))
  unfolding wildcard_or
  no_wildcard found prefixed v u any other a b c e f h k =
      in_made text n (λ left w. second_value w) (wildcard_parts v any other) (pair (wildcard_made false) u) a c
      (in_keyed text n (local_wildcard (has_prefix v)) (λ w. if_wildcard w any other) (wildcard_made false) u a b c (read_as found false prefixed v a b e f h) k)

  pub wildcard_gave : (found prefixed : Bool) (v : Made) (o : Option NodeTest) (any other : Phrase) (a b c : Standing) → found ≡ true → prefixed ≡ has_prefix v → Ran (wildcard_made found) a b (read_one (local_wildcard prefixed)) → Gave test_made o b c (reading any)
      → Gave test_made o a c (reading (wildcard_or v any other))
  wildcard_gave found prefixed v None any other a b c e f h g = (g.0, λ w. wildcard_stands found prefixed v w any other a b c e f h (g.1 w))
  wildcard_gave found prefixed v (Some t) any other a b c e f h g = wildcard_stands found prefixed v (test_made t) any other a b c e f h g

  pub other_gave : (found prefixed : Bool) (v : Made) (o : Option NodeTest) (any other : Phrase) (a b c : Standing) → found ≡ false → prefixed ≡ has_prefix v → Ran (wildcard_made found) a b (read_one (local_wildcard prefixed)) → Gave test_made o b c (reading other)
      → Gave test_made o a c (reading (wildcard_or v any other))
  other_gave found prefixed v None any other a b c e f h g = (g.0, λ w. no_wildcard found prefixed v w any other a b c e f h (g.1 w))
  other_gave found prefixed v (Some t) any other a b c e f h g = no_wildcard found prefixed v (test_made t) any other a b c e f h g

  pub any_test_read : (v : Made) (place : Place) (a b : Standing) → place ≡ place_in text ((left_of a + 2) + name_length v) → Ran nothing a b (read_one gap) → Ran (test_made (in_namespace (name_at place v))) a b (reading (any_test (place_in text) v))
  unfolding any_test
  any_test_read v place a b e h =
      subst (λ p. Ran (test_made (in_namespace (name_at p v))) a b (reading (any_test (place_in text) v))) (sym e)
      (in_made text n (λ left u. test_made (in_namespace (name_at (place_in text ((left + 2) + name_length v)) v))) (token gap) nothing a b (in_token text n gap nothing a b h))

  pub any_step_read : (v u : Made) (place : Place) (a b : Standing) → place ≡ place_in text ((left_of a + 2) + name_length v) → Ran u a b (reading (any_test (place_in text) v)) → Ran (step_made place None u) a b (reading (any_step (place_in text) v))
  unfolding any_step
  any_step_read v u place a b e h =
      subst (λ p. Ran (step_made p None u) a b (reading (any_step (place_in text) v))) (sym e) (in_made text n (λ left u. step_made (place_in text ((left + 2) + name_length v)) None u) (any_test (place_in text) v) u a b h)

  abbrev pub behind_test_name : Made → Phrase
  behind_test_name v = wildcard_or v (any_test (place_in text) v) (behind_test (place_in text) v)

  abbrev named_test : Phrase
  named_test = made (λ left v. second_value v) (keyed qname (λ v. behind_test_name v))

  pub node_wildcard : (o : Option NodeTest) (taken : Bool) (a b c : Standing) → taken ≡ false → Looked taken a b (by_character is_ncname_start) → Gave test_made o b c (reading (wildcard (place_in text))) → Gave test_made o a c (reading (node_test (place_in text)))
  unfolding node_test
  node_wildcard None taken a b c t h g = (g.0, λ v. in_right text n (by_character is_ncname_start) named_test (wildcard (place_in text)) v taken a b c t h (g.1 v))
  node_wildcard (Some o) taken a b c t h g = in_right text n (by_character is_ncname_start) named_test (wildcard (place_in text)) (test_made o) taken a b c t h g

  named_read : (v u : Made) (taken : Bool) (a b c d : Standing) → taken ≡ true → Looked taken a b (by_character is_ncname_start) → Ran v b c (read_one qname) → Ran u c d (reading (behind_test_name v)) → Ran u a d (reading (node_test (place_in text)))
  unfolding node_test
  named_read v u taken a b c d t h k l =
      in_left text n (by_character is_ncname_start) named_test (wildcard (place_in text)) u taken a b d t h
      (in_made text n (λ left v. second_value v) (keyed qname (λ v. behind_test_name v)) (pair v u) b d (in_keyed text n qname (λ v. behind_test_name v) v u b c d k l))

  pub node_named : (v : Made) (o : Option NodeTest) (taken : Bool) (a b c d : Standing) → taken ≡ true → Looked taken a b (by_character is_ncname_start) → Ran v b c (read_one qname) → Gave test_made o c d (reading (behind_test_name v))
      → Gave test_made o a d (reading (node_test (place_in text)))
  node_named v None taken a b c d t h k g = (g.0, λ w. named_read v w taken a b c d t h k (g.1 w))
  node_named v (Some o) taken a b c d t h k g = named_read v (test_made o) taken a b c d t h k g

  -- no name was read
  pub node_done : (taken : Bool) (a b c : Standing) → taken ≡ true → Looked taken a b (by_character is_ncname_start) → IsDone c → Ran nothing b c (read_one qname) → Ran nothing c c (reading (behind_test_name nothing)) → Gave test_made None a c (reading (node_test (place_in text)))
  node_done taken a b c t h d k l = (d, λ w. ran_any nothing w a c (reading (node_test (place_in text))) d (named_read nothing nothing taken a b c c t h k l))

  axis_reads : (x v : Made) (a b c : Standing) → Ran x a b (reading (lexeme (word_of word.Colons))) → Ran v b c (reading (node_test (place_in text))) → Ran v a c (reading (axis_test (place_in text)))
  unfolding axis_test
  axis_reads x v a b c h k = in_made text n (λ left v. second_value v) (lexeme (word_of word.Colons) & node_test (place_in text)) (pair x v) a c (in_both text n (lexeme (word_of word.Colons)) (node_test (place_in text)) x v a b c h k)

  pub axis_read : (x : Made) (o : Option NodeTest) (a b c : Standing) → Ran x a b (reading (lexeme (word_of word.Colons))) → Gave test_made o b c (reading (node_test (place_in text))) → Gave test_made o a c (reading (axis_test (place_in text)))
  axis_read x None a b c h g = (g.0, λ w. axis_reads x w a b c h (g.1 w))
  axis_read x (Some t) a b c h g = axis_reads x (test_made t) a b c h g

  pub attribute_read : (place : Place) (x v : Made) (a b c : Standing) → place ≡ place_in text (left_of a) → Ran x a b (reading (lexeme (word_of word.AtSign))) → Ran v b c (reading (node_test (place_in text)))
      → Ran (step_made place (Some axis.Attribute) v) a c (reading (attribute_step (place_in text)))
  unfolding attribute_step
  attribute_read place x v a b c e h k =
      subst (λ p. Ran (step_made p (Some axis.Attribute) v) a c (reading (attribute_step (place_in text)))) (sym e)
      (in_made text n (λ left v. step_made (place_in text left) (Some axis.Attribute) (second_value v)) (lexeme (word_of word.AtSign) & node_test (place_in text)) (pair x v) a c
      (in_both text n (lexeme (word_of word.AtSign)) (node_test (place_in text)) x v a b c h k))

  pub wildcard_read : (place : Place) (v : Made) (a b : Standing) → place ≡ place_in text (left_of a) → Ran v a b (reading (wildcard (place_in text))) → Ran (step_made place None v) a b (reading (wildcard_step (place_in text)))
  unfolding wildcard_step
  wildcard_read place v a b e h = subst (λ p. Ran (step_made p None v) a b (reading (wildcard_step (place_in text)))) (sym e) (in_made text n (λ left v. step_made (place_in text left) None v) (wildcard (place_in text)) v a b h)

  abbrev wildcard_or_literal : Phrase
  wildcard_or_literal = choose (by_character (is 42)) (wildcard_step (place_in text)) (literal (place_in text))

  pub begins_attribute : (v : Made) (taken : Bool) (a b c : Standing) → taken ≡ true → Looked taken a b (by_character (is 64)) → Ran v b c (reading (attribute_step (place_in text))) → Ran v a c (reading (test_or_literal (place_in text)))
  unfolding test_or_literal
  begins_attribute v taken a b c t h k = in_left text n (by_character (is 64)) (attribute_step (place_in text)) wildcard_or_literal v taken a b c t h k

  pub begins_wildcard : (v : Made) (taken one : Bool) (a b c d : Standing) → taken ≡ false → Looked taken a b (by_character (is 64)) → one ≡ true → Looked one b c (by_character (is 42)) → Ran v c d (reading (wildcard_step (place_in text))) → Ran v a d (reading (test_or_literal (place_in text)))
  unfolding test_or_literal
  begins_wildcard v taken one a b c d t h s i k =
      in_right text n (by_character (is 64)) (attribute_step (place_in text)) wildcard_or_literal v taken a b d t h (in_left text n (by_character (is 42)) (wildcard_step (place_in text)) (literal (place_in text)) v one b c d s i k)

  pub begins_literal : (v : Made) (taken one : Bool) (a b c d : Standing) → taken ≡ false → Looked taken a b (by_character (is 64)) → one ≡ false → Looked one b c (by_character (is 42)) → Ran v c d (reading (literal (place_in text))) → Ran v a d (reading (test_or_literal (place_in text)))
  unfolding test_or_literal
  begins_literal v taken one a b c d t h s i k =
      in_right text n (by_character (is 64)) (attribute_step (place_in text)) wildcard_or_literal v taken a b d t h (in_right text n (by_character (is 42)) (wildcard_step (place_in text)) (literal (place_in text)) v one b c d s i k)
