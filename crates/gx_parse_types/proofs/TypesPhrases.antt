-- What the parts of sequence types read.
use Rattle.std.proofs.Common.{◌≡◌, ℕ, ◌+◌, Bool, true, false, List, [], ◌∷◌, sym, subst, Option, Some, None}
use Rattle.gx_base.specs.declared.place.Place.{Place}
use Rattle.gx_ast.specs.declared.sequence_type.SequenceType.{SequenceType}
use Rattle.gx_grammar.specs.Value.{nothing, node, pair}
use Rattle.gx_grammar.specs.Grammar.{token, empty, ◌&◌, keyed, choose, made}
use Rattle.gx_grammar.specs.Apart.{is}
use Rattle.gx_grammar.specs.First.{by_character}
use Rattle.gx_grammar.specs.Reading.{State, Reading}
use Rattle.gx_grammar.specs.Ran.{Standing, Ran, Looked, IsDone, left_of}
use Rattle.gx_grammar.proofs.PublicLaws.{ran_idle}
use Rattle.gx_parse_grammar.specs.declared.word.Word.{Word}
use Rattle.gx_parse_grammar.specs.declared.word.Word.TheVariants as word
use Rattle.gx_parse_grammar.specs.declared.kind_words.TypeWord.{TypeWord}
use Rattle.gx_parse_grammar.specs.declared.kind_words.TestContent.TheVariants as content_is
use Rattle.gx_parse_tokens.specs.Indications.{found_made}
use Rattle.gx_parse_grammar.specs.Nodes.{Made, Found, name_value, name_at, name_length, first_value, second_value}
use Rattle.gx_parse_grammar.specs.Tokens.{qname, gap, indication}
use Rattle.gx_parse_grammar.specs.Grammar.{Phrase, word_of, lexeme, at_tokens, name, place_in}
use Rattle.gx_parse_tokens.specs.Reading.{read_in, read_one}
use Rattle.gx_parse_grammar.specs.Types.{Gave, type_word, named, maybe_named, tested_made, content_made, type_made, some_name, name_behind, no_name, tested_value, enclosed_value, element_value, declared_content_made, document_value, as_content, bare_value, tail_value, no_items_value, type_value, casting_value, written_name, tested_name, behind_comma, tested, declared, nothing_inside, document_test, document, named_content, declared_content, bare_tail, item_tail, empty_tail, type_tail, behind_type, sequence_type, single_type}
use Rattle.gx_parse_parts.proofs.Phrases.{in_token, in_both, in_keyed, in_empty, in_left, in_right, in_made}

module _ (text : List ℕ) (n : ℕ) where
  abbrev at : ℕ → Place
  at left = place_in text left

  abbrev reading : Phrase → State → Reading Made
  reading A = read_in text n A

  -- nothing is read behind an end
  pub idle : (A : Phrase) (v : Made) (a : Standing) → IsDone a → Ran v a a (reading A)
  idle A v a d = ran_idle v a (reading A) d

  pub written_read : (place : Place) (v : Made) (a b c : Standing) → place ≡ place_in text (left_of a) → Ran v a b (read_one qname) → Ran nothing b c (read_one gap) → Ran (named (name_at place v)) a c (reading (written_name (place_in text)))
  unfolding written_name name
  written_read place v a b c e h k =
      subst (λ p. Ran (named (name_at p v)) a c (reading (written_name (place_in text)))) (sym e)
      (in_made text n (λ left v. first_value v) (name (place_in text) & token gap) (pair (named (name_at (place_in text (left_of a)) v)) nothing) a c
      (in_both text n (name (place_in text)) (token gap) (named (name_at (place_in text (left_of a)) v)) nothing a b c
      (in_made text n (λ left v. name_value (place_in text left) v) (token qname) v a b (in_token text n qname v a b h)) (in_token text n gap nothing b c k)))

  pub any_name : (v : Made) (taken : Bool) (a b c : Standing) → taken ≡ true → Looked taken a b (by_character (is 42)) → Ran v b c (reading (lexeme (word_of word.Times))) → Ran (maybe_named None) a c (reading (tested_name (place_in text)))
  unfolding tested_name
  any_name v taken a b c e h k =
      in_left text n (by_character (is 42)) (made (λ left v. no_name) (lexeme (word_of word.Times))) (made (λ left v. some_name v) (written_name (place_in text))) no_name taken a b c e h
      (in_made text n (λ left v. no_name) (lexeme (word_of word.Times)) v b c k)

  pub one_name : (v : Made) (taken : Bool) (a b c : Standing) → taken ≡ false → Looked taken a b (by_character (is 42)) → Ran v b c (reading (written_name (place_in text))) → Ran (some_name v) a c (reading (tested_name (place_in text)))
  unfolding tested_name
  one_name v taken a b c e h k =
      in_right text n (by_character (is 42)) (made (λ left v. no_name) (lexeme (word_of word.Times))) (made (λ left v. some_name v) (written_name (place_in text))) (some_name v) taken a b c e h
      (in_made text n (λ left v. some_name v) (written_name (place_in text)) v b c k)

  pub no_comma : (taken : Bool) (a b : Standing) → taken ≡ false → Looked taken a b (at_tokens (word_of word.Comma ∷ [])) → Ran (maybe_named None) a b (reading (behind_comma (place_in text)))
  unfolding behind_comma
  no_comma taken a b e h =
      in_right text n (at_tokens (word_of word.Comma ∷ [])) (made (λ left v. name_behind v) (lexeme (word_of word.Comma) & written_name (place_in text))) (made (λ left v. no_name) empty) no_name taken a b b e h
      (in_made text n (λ left v. no_name) empty nothing b b (in_empty text n b))

  pub a_comma : (x v : Made) (taken : Bool) (a b c d : Standing) → taken ≡ true → Looked taken a b (at_tokens (word_of word.Comma ∷ [])) → Ran x b c (reading (lexeme (word_of word.Comma))) → Ran v c d (reading (written_name (place_in text)))
      → Ran (some_name v) a d (reading (behind_comma (place_in text)))
  unfolding behind_comma
  a_comma x v taken a b c d e h i k =
      in_left text n (at_tokens (word_of word.Comma ∷ [])) (made (λ left v. name_behind v) (lexeme (word_of word.Comma) & written_name (place_in text))) (made (λ left v. no_name) empty) (some_name v) taken a b d e h
      (in_made text n (λ left v. name_behind v) (lexeme (word_of word.Comma) & written_name (place_in text)) (pair x v) b d (in_both text n (lexeme (word_of word.Comma)) (written_name (place_in text)) x v b c d i k))

  abbrev tested_parts : Phrase
  tested_parts = (tested_name (place_in text) & behind_comma (place_in text)) & lexeme (word_of word.Close)

  pub untested : (x : Made) (w : Word) (taken : Bool) (a b c d : Standing) → Ran x a b (reading (lexeme (word_of word.Open))) → taken ≡ true → Looked taken b c (by_character (is 41)) → Ran (pair (node (Found w)) nothing) c d (reading (lexeme (word_of word.Close)))
      → Ran (tested_made None) a d (reading (tested (place_in text)))
  unfolding tested
  untested x w taken a b c d h e i k =
      in_made text n (λ left v. tested_value v) (lexeme (word_of word.Open) & choose (by_character (is 41)) (lexeme (word_of word.Close)) tested_parts) (pair x (pair (node (Found w)) nothing)) a d
      (in_both text n (lexeme (word_of word.Open)) (choose (by_character (is 41)) (lexeme (word_of word.Close)) tested_parts) x (pair (node (Found w)) nothing) a b d h
      (in_left text n (by_character (is 41)) (lexeme (word_of word.Close)) tested_parts (pair (node (Found w)) nothing) taken b c d e i k))

  pub tested_read : (x p q y : Made) (taken : Bool) (a b c d e f : Standing) → Ran x a b (reading (lexeme (word_of word.Open))) → taken ≡ false → Looked taken b c (by_character (is 41)) → Ran p c d (reading (tested_name (place_in text)))
      → Ran q d e (reading (behind_comma (place_in text))) → Ran y e f (reading (lexeme (word_of word.Close))) → Ran (tested_value (pair x (pair (pair p q) y))) a f (reading (tested (place_in text)))
  unfolding tested
  tested_read x p q y taken a b c d e f h t i k l m =
      in_made text n (λ left v. tested_value v) (lexeme (word_of word.Open) & choose (by_character (is 41)) (lexeme (word_of word.Close)) tested_parts) (pair x (pair (pair p q) y)) a f
      (in_both text n (lexeme (word_of word.Open)) (choose (by_character (is 41)) (lexeme (word_of word.Close)) tested_parts) x (pair (pair p q) y) a b f h
      (in_right text n (by_character (is 41)) (lexeme (word_of word.Close)) tested_parts (pair (pair p q) y) taken b c f t i
      (in_both text n (tested_name (place_in text) & behind_comma (place_in text)) (lexeme (word_of word.Close)) (pair p q) y c e f
      (in_both text n (tested_name (place_in text)) (behind_comma (place_in text)) p q c d e k l) m)))

  pub declared_read : (x v y : Made) (a b c d : Standing) → Ran x a b (reading (lexeme (word_of word.Open))) → Ran v b c (reading (written_name (place_in text))) → Ran y c d (reading (lexeme (word_of word.Close))) → Ran v a d (reading (declared (place_in text)))
  unfolding declared
  declared_read x v y a b c d h i k =
      in_made text n (λ left v. enclosed_value v) (lexeme (word_of word.Open) & written_name (place_in text) & lexeme (word_of word.Close)) (pair x (pair v y)) a d
      (in_both text n (lexeme (word_of word.Open)) (written_name (place_in text) & lexeme (word_of word.Close)) x (pair v y) a b d h (in_both text n (written_name (place_in text)) (lexeme (word_of word.Close)) v y b c d i k))

  pub inside_read : (x y : Made) (a b c : Standing) → Ran x a b (reading (lexeme (word_of word.Open))) → Ran y b c (reading (lexeme (word_of word.Close))) → Ran (content_made (content_is.Tested None)) a c (reading (nothing_inside (place_in text)))
  unfolding nothing_inside
  inside_read x y a b c h k =
      in_made text n (λ left v. content_made (content_is.Tested None)) (lexeme (word_of word.Open) & lexeme (word_of word.Close)) (pair x y) a c (in_both text n (lexeme (word_of word.Open)) (lexeme (word_of word.Close)) x y a b c h k)

  abbrev element_test : Phrase
  element_test = made (λ left v. element_value (place_in text left) v) (lexeme (word_of word.Element) & tested (place_in text))

  abbrev schema_test : Phrase
  schema_test = made (λ left v. declared_content_made (place_in text left) v) (lexeme (word_of word.SchemaElement) & declared (place_in text))

  pub element_read : (place : Place) (x v : Made) (taken : Bool) (a b c d : Standing) → place ≡ place_in text (left_of b) → taken ≡ true → Looked taken a b (at_tokens (word_of word.Element ∷ [])) → Ran x b c (reading (lexeme (word_of word.Element)))
      → Ran v c d (reading (tested (place_in text))) → Ran (element_value place (pair x v)) a d (reading (document_test (place_in text)))
  unfolding document_test
  element_read place x v taken a b c d e t h i k =
      subst (λ p. Ran (element_value p (pair x v)) a d (reading (document_test (place_in text)))) (sym e)
      (in_left text n (at_tokens (word_of word.Element ∷ [])) element_test schema_test (element_value (place_in text (left_of b)) (pair x v)) taken a b d t h
      (in_made text n (λ left v. element_value (place_in text left) v) (lexeme (word_of word.Element) & tested (place_in text)) (pair x v) b d (in_both text n (lexeme (word_of word.Element)) (tested (place_in text)) x v b c d i k)))

  pub schema_read : (place : Place) (x v : Made) (taken : Bool) (a b c d : Standing) → place ≡ place_in text (left_of b) → taken ≡ false → Looked taken a b (at_tokens (word_of word.Element ∷ [])) → Ran x b c (reading (lexeme (word_of word.SchemaElement)))
      → Ran v c d (reading (declared (place_in text))) → Ran (declared_content_made place (pair x v)) a d (reading (document_test (place_in text)))
  unfolding document_test
  schema_read place x v taken a b c d e t h i k =
      subst (λ p. Ran (declared_content_made p (pair x v)) a d (reading (document_test (place_in text)))) (sym e)
      (in_right text n (at_tokens (word_of word.Element ∷ [])) element_test schema_test (declared_content_made (place_in text (left_of b)) (pair x v)) taken a b d t h
      (in_made text n (λ left v. declared_content_made (place_in text left) v) (lexeme (word_of word.SchemaElement) & declared (place_in text)) (pair x v) b d (in_both text n (lexeme (word_of word.SchemaElement)) (declared (place_in text)) x v b c d i k)))

  abbrev document_parts : Phrase
  document_parts = document_test (place_in text) & lexeme (word_of word.Close)

  pub any_document : (x : Made) (w : Word) (taken : Bool) (a b c d : Standing) → Ran x a b (reading (lexeme (word_of word.Open))) → taken ≡ true → Looked taken b c (by_character (is 41))
      → Ran (pair (node (Found w)) nothing) c d (reading (lexeme (word_of word.Close))) → Ran (content_made (content_is.Tested None)) a d (reading (document (place_in text)))
  unfolding document
  any_document x w taken a b c d h e i k =
      in_made text n (λ left v. document_value v) (lexeme (word_of word.Open) & choose (by_character (is 41)) (lexeme (word_of word.Close)) document_parts) (pair x (pair (node (Found w)) nothing)) a d
      (in_both text n (lexeme (word_of word.Open)) (choose (by_character (is 41)) (lexeme (word_of word.Close)) document_parts) x (pair (node (Found w)) nothing) a b d h
      (in_left text n (by_character (is 41)) (lexeme (word_of word.Close)) document_parts (pair (node (Found w)) nothing) taken b c d e i k))

  pub document_read : (x p y : Made) (taken : Bool) (a b c d e : Standing) → Ran x a b (reading (lexeme (word_of word.Open))) → taken ≡ false → Looked taken b c (by_character (is 41)) → Ran p c d (reading (document_test (place_in text)))
      → Ran y d e (reading (lexeme (word_of word.Close))) → Ran (document_value (pair x (pair p y))) a e (reading (document (place_in text)))
  unfolding document
  document_read x p y taken a b c d e h t i k l =
      in_made text n (λ left v. document_value v) (lexeme (word_of word.Open) & choose (by_character (is 41)) (lexeme (word_of word.Close)) document_parts) (pair x (pair p y)) a e
      (in_both text n (lexeme (word_of word.Open)) (choose (by_character (is 41)) (lexeme (word_of word.Close)) document_parts) x (pair p y) a b e h
      (in_right text n (by_character (is 41)) (lexeme (word_of word.Close)) document_parts (pair p y) taken b c e t i (in_both text n (document_test (place_in text)) (lexeme (word_of word.Close)) p y c d e k l)))

  pub named_read : (v : Made) (a b : Standing) → Ran v a b (reading (tested (place_in text))) → Ran (as_content v) a b (reading (named_content (place_in text)))
  unfolding named_content
  named_read v a b h = in_made text n (λ left v. as_content v) (tested (place_in text)) v a b h

  pub schema_content : (v : Made) (a b : Standing) → Ran v a b (reading (declared (place_in text))) → Ran (as_content v) a b (reading (declared_content (place_in text)))
  unfolding declared_content
  schema_content v a b h = in_made text n (λ left v. as_content v) (declared (place_in text)) v a b h

  pub bare_read : (w : Option Word) (a b : Standing) → Ran (found_made w) a b (read_one indication) → Ran (bare_value (found_made w)) a b (reading (bare_tail (place_in text)))
  unfolding bare_tail
  bare_read w a b h = in_made text n (λ left v. bare_value v) (token indication) (found_made w) a b (in_token text n indication (found_made w) a b h)

  pub item_bare : (inside : Phrase) (w : Option Word) (taken : Bool) (a b c : Standing) → taken ≡ false → Looked taken a b (at_tokens (word_of word.Open ∷ [])) → Ran (found_made w) b c (read_one indication) → Ran (bare_value (found_made w)) a c (reading (item_tail (place_in text) inside))
  unfolding item_tail
  item_bare inside w taken a b c e h k =
      in_made text n (λ left v. tail_value v) (choose (at_tokens (word_of word.Open ∷ [])) inside empty & token indication) (pair nothing (found_made w)) a c
      (in_both text n (choose (at_tokens (word_of word.Open ∷ [])) inside empty) (token indication) nothing (found_made w) a b c
      (in_right text n (at_tokens (word_of word.Open ∷ [])) inside empty nothing taken a b b e h (in_empty text n b)) (in_token text n indication (found_made w) b c k))

  pub item_inside : (inside : Phrase) (v : Made) (w : Option Word) (taken : Bool) (a b c d : Standing) → taken ≡ true → Looked taken a b (at_tokens (word_of word.Open ∷ [])) → Ran v b c (reading inside) → Ran (found_made w) c d (read_one indication)
      → Ran (tail_value (pair v (found_made w))) a d (reading (item_tail (place_in text) inside))
  unfolding item_tail
  item_inside inside v w taken a b c d e h i k =
      in_made text n (λ left v. tail_value v) (choose (at_tokens (word_of word.Open ∷ [])) inside empty & token indication) (pair v (found_made w)) a d
      (in_both text n (choose (at_tokens (word_of word.Open ∷ [])) inside empty) (token indication) v (found_made w) a c d
      (in_left text n (at_tokens (word_of word.Open ∷ [])) inside empty v taken a b c e h i) (in_token text n indication (found_made w) c d k))

  abbrev no_items : Phrase
  no_items = made (λ left v. no_items_value v) (nothing_inside (place_in text))

  pub empty_bare : (v : Made) (taken : Bool) (a b c : Standing) → taken ≡ false → Looked taken a b (at_tokens (word_of word.Open ∷ [])) → Ran v b c (reading (bare_tail (place_in text))) → Ran v a c (reading (empty_tail (place_in text)))
  unfolding empty_tail
  empty_bare v taken a b c e h k = in_right text n (at_tokens (word_of word.Open ∷ [])) no_items (bare_tail (place_in text)) v taken a b c e h k

  pub empty_inside : (v : Made) (taken : Bool) (a b c : Standing) → taken ≡ true → Looked taken a b (at_tokens (word_of word.Open ∷ [])) → Ran v b c (reading (nothing_inside (place_in text))) → Ran (no_items_value v) a c (reading (empty_tail (place_in text)))
  unfolding empty_tail
  empty_inside v taken a b c e h k =
      in_left text n (at_tokens (word_of word.Open ∷ [])) no_items (bare_tail (place_in text)) (no_items_value v) taken a b c e h (in_made text n (λ left v. no_items_value v) (nothing_inside (place_in text)) v b c k)

  pub type_read : (v t : Made) (w : TypeWord) (place : Place) (a b c : Standing) → w ≡ type_word v → place ≡ place_in text (left_of a + name_length v) → Ran nothing a b (read_one gap) → Ran t b c (reading (type_tail (place_in text) w))
      → Ran (type_value w (name_at place v) (pair nothing t)) a c (reading (behind_type (place_in text) v))
  unfolding behind_type
  type_read v t w place a b c s e h k =
      subst (λ p. Ran (type_value w (name_at p v) (pair nothing t)) a c (reading (behind_type (place_in text) v))) (sym e)
      (subst (λ x. Ran (type_value x (name_at (place_in text (left_of a + name_length v)) v) (pair nothing t)) a c (reading (behind_type (place_in text) v))) (sym s)
      (in_made text n (λ left u. type_value (type_word v) (name_at (place_in text (left + name_length v)) v) u) (token gap & type_tail (place_in text) (type_word v)) (pair nothing t) a c
      (in_both text n (token gap) (type_tail (place_in text) (type_word v)) nothing t a b c (in_token text n gap nothing a b h) (subst (λ x. Ran t b c (reading (type_tail (place_in text) x))) s k))))

  pub sequence_read : (v u : Made) (a b c : Standing) → Ran v a b (read_one qname) → Ran u b c (reading (behind_type (place_in text) v)) → Ran u a c (reading (sequence_type (place_in text)))
  unfolding sequence_type
  sequence_read v u a b c h k =
      in_made text n (λ left v. second_value v) (keyed qname (λ v. behind_type (place_in text) v)) (pair v u) a c (in_keyed text n qname (λ v. behind_type (place_in text) v) v u a b c h k)

  pub gave_sequence : (v : Made) (o : Option SequenceType) (a b c : Standing) → Ran v a b (read_one qname) → Gave type_made o b c (reading (behind_type (place_in text) v)) → Gave type_made o a c (reading (sequence_type (place_in text)))
  gave_sequence v None a b c h g = (g.0, λ w. sequence_read v w a b c h (g.1 w))
  gave_sequence v (Some t) a b c h g = sequence_read v (type_made t) a b c h g

  abbrev question : Phrase
  question = choose (at_tokens (word_of word.Question ∷ [])) (lexeme (word_of word.Question)) empty

  pub single_plain : (v : Made) (taken : Bool) (a b c : Standing) → Ran v a b (reading (written_name (place_in text))) → taken ≡ false → Looked taken b c (at_tokens (word_of word.Question ∷ [])) → Ran (casting_value (pair v nothing)) a c (reading (single_type (place_in text)))
  unfolding single_type
  single_plain v taken a b c h e k =
      in_made text n (λ left v. casting_value v) (written_name (place_in text) & question) (pair v nothing) a c
      (in_both text n (written_name (place_in text)) question v nothing a b c h (in_right text n (at_tokens (word_of word.Question ∷ [])) (lexeme (word_of word.Question)) empty nothing taken b c c e k (in_empty text n c)))

  pub single_optional : (v x : Made) (taken : Bool) (a b c d : Standing) → Ran v a b (reading (written_name (place_in text))) → taken ≡ true → Looked taken b c (at_tokens (word_of word.Question ∷ [])) → Ran x c d (reading (lexeme (word_of word.Question)))
      → Ran (casting_value (pair v x)) a d (reading (single_type (place_in text)))
  unfolding single_type
  single_optional v x taken a b c d h e k l =
      in_made text n (λ left v. casting_value v) (written_name (place_in text) & question) (pair v x) a d
      (in_both text n (written_name (place_in text)) question v x a b d h (in_left text n (at_tokens (word_of word.Question ∷ [])) (lexeme (word_of word.Question)) empty x taken b c d e k l))

  pub single_idle : (a b : Standing) → IsDone b → Ran nothing a b (reading (written_name (place_in text))) → Ran (casting_value (pair nothing nothing)) a b (reading (single_type (place_in text)))
  unfolding single_type
  single_idle a b d h =
      in_made text n (λ left v. casting_value v) (written_name (place_in text) & question) (pair nothing nothing) a b (in_both text n (written_name (place_in text)) question nothing nothing a b b h (idle question nothing b d))
