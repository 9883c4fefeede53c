-- How steps are read behind their names, and their predicates.
use Rattle.std.proofs.Common.{◌≡◌, ◌≤◌, ℕ, zero, suc, ◌+◌, Bool, true, false, if◌then◌else◌, List, [], ◌∷◌, ◌++◌, refl, sym, ap, subst, Option, Some, None, arith}
use Rattle.gx_base.specs.declared.place.Place.{Place}
use Rattle.gx_ast.specs.declared.name.QName.{QName}
use Rattle.gx_ast.specs.SyntaxTree.{SyntaxTree, at as located, filtered, a_tree}
use Rattle.gx_ast.specs.SyntaxView.{trees_of}
use Rattle.gx_grammar.specs.Value.{nothing, characters, pair}
use Rattle.gx_grammar.specs.Grammar.{token, empty, ◌&◌, choose, made}
use Rattle.gx_grammar.specs.Apart.{is}
use Rattle.gx_grammar.specs.First.{by_character}
use Rattle.gx_grammar.specs.Reading.{State, Reading}
use Rattle.gx_grammar.specs.Ran.{Standing, Ran, Looked, left_of}
use Rattle.gx_parse_grammar.specs.declared.word.Barrier.TheVariants as barrier
use Rattle.gx_parse_grammar.specs.declared.word.Word.TheVariants as word
use Rattle.gx_parse_grammar.specs.declared.kind_words.KindWord.{KindWord}
use Rattle.gx_parse_grammar.specs.declared.kind_words.TestContent.{TestContent}
use Rattle.gx_parse_tokens.specs.declared.names.ReadName.{ReadName}
use Rattle.gx_parse_tokens.specs.Names.{name_made, part_made}
use Rattle.gx_parse_grammar.specs.Nodes.{Made, name_at, name_length, predicate_value, predicates_in, filtered_value, placed_value, place_of, tree}
use Rattle.gx_parse_grammar.specs.Tokens.{gap, barred}
use Rattle.gx_parse_grammar.specs.Types.{kind_word}
use Rattle.gx_parse_grammar.specs.NodeTests.{test_of, step_tree, maybe_content, kind_content}
use Rattle.gx_parse_grammar.specs.Grammar.{Phrase, word_of, lexeme, at_tokens, is_reserved, expression, arguments, after_name, step_of, step_value, predicate, more_predicates, filtered_step, place_in}
use Rattle.gx_parse_tokens.specs.Reading.{read_in, read_one}
use Rattle.gx_parse_parts.specs.Parsing.{Passes, predicates_before, filtered_tree}
use Rattle.gx_parse_parts.proofs.Phrases.{in_token, in_both, in_empty, in_left, in_right, in_made}

-- the place of a name that was read
pub name_placed : (p : Place) (name : ReadName) → (name_at p (name_made name)).place ≡ p
name_placed p name = go name.second
  where
    go : (o : Option (List ℕ)) → (name_at p (pair (characters name.first) (part_made o))).place ≡ p
    go None = refl
    go (Some cs) = refl

plain_test : (k : Option KindWord) (q : QName) → test_of None q None ≡ test_of k q None
plain_test None q = refl
plain_test (Some k) q = refl

pub kept_value : (v : Made) (q : QName) (k : Option KindWord) (c : Option TestContent) → k ≡ kind_word v → step_value v q (pair nothing (maybe_content c)) ≡ tree (step_tree q.place None (test_of k q c))
kept_value v q k None e = ap (λ t. tree (step_tree q.place None t)) (plain_test k q)
kept_value v q k (Some c) e = ap (λ x. tree (step_tree q.place None (test_of x q (Some c)))) (sym e)

predicates_are : (us : List SyntaxTree) → predicates_in (predicates_before us nothing) ≡ trees_of us
predicates_are [] = refl
predicates_are (u ∷ us) = ap (a_tree u) (predicates_are us)

pub filtered_is : (t : SyntaxTree) (bracket : Place) (us : List SyntaxTree) → filtered_value (pair (tree t) (placed_value bracket (predicates_before us nothing))) ≡ tree (filtered_tree t bracket us)
filtered_is t bracket [] = refl
filtered_is t bracket (u ∷ us) = ap (λ ts. tree (located (place_of t) (filtered bracket t (a_tree u ts)))) (predicates_are us)

pub one_before : (us : List SyntaxTree) (u : SyntaxTree) (w : Made) → predicates_before (us ++ u ∷ []) w ≡ predicates_before us (pair (tree u) w)
one_before [] u w = refl
one_before (t ∷ us) u w = ap (pair (tree t)) (one_before us u w)

module _ (text : List ℕ) (n : ℕ) where
  abbrev reading : Phrase → State → Reading Made
  reading A = read_in text n A

  -- what stands behind a name and its gap

  pub step_read : (v u : Made) (whole : Phrase) (place : Place) (here a z : Standing) → place ≡ place_in text (left_of a + name_length v) → Passes here a (reading (after_name (place_in text) n v)) (reading whole) → Ran u here z (reading (after_name (place_in text) n v))
      → Ran (step_value v (name_at place v) (pair nothing u)) a z (reading (step_of (place_in text) v whole))
  unfolding step_of
  step_read v u whole place here a z e pass h =
      subst (λ p. Ran (step_value v (name_at p v) (pair nothing u)) a z (reading (step_of (place_in text) v whole))) (sym e)
      (in_made text n (λ left u. step_value v (name_at (place_in text (left + name_length v)) v) u) whole (pair nothing u) a z (pass u z h))

  abbrev call_part : Phrase
  call_part = choose (by_character (is 40)) (arguments (place_in text) n) empty

  pub reserved_after : (v u : Made) (k : Option KindWord) (a b : Standing) → is_reserved v ≡ true → k ≡ kind_word v → Ran u a b (reading (kind_content (place_in text) k)) → Ran u a b (reading (after_name (place_in text) n v))
  unfolding after_name
  reserved_after v u k a b e s h =
      subst (λ q. Ran u a b (reading (if q then (kind_content (place_in text) (kind_word v)) else call_part))) (sym e) (subst (λ x. Ran u a b (reading (kind_content (place_in text) x))) s h)

  pub name_after : (v : Made) (taken : Bool) (a b : Standing) → is_reserved v ≡ false → taken ≡ false → Looked taken a b (by_character (is 40)) → Ran nothing a b (reading (after_name (place_in text) n v))
  unfolding after_name
  name_after v taken a b e t h =
      subst (λ q. Ran nothing a b (reading (if q then (kind_content (place_in text) (kind_word v)) else call_part))) (sym e) (in_right text n (by_character (is 40)) (arguments (place_in text) n) empty nothing taken a b b t h (in_empty text n b))

  pub call_after : (v u : Made) (taken : Bool) (a b c : Standing) → is_reserved v ≡ false → taken ≡ true → Looked taken a b (by_character (is 40)) → Ran u b c (reading (arguments (place_in text) n)) → Ran u a c (reading (after_name (place_in text) n v))
  unfolding after_name
  call_after v u taken a b c e t h k =
      subst (λ q. Ran u a c (reading (if q then (kind_content (place_in text) (kind_word v)) else call_part))) (sym e) (in_left text n (by_character (is 40)) (arguments (place_in text) n) empty u taken a b c t h k)

  -- predicates

  pub predicate_read : (x v y : Made) (a b c d : Standing) → Ran x a b (reading (lexeme (word_of word.OpenBracket))) → Ran v b c (reading (expression (place_in text) n)) → Ran y c d (reading (lexeme (word_of word.CloseBracket))) → Ran v a d (reading (predicate (place_in text) n))
  unfolding predicate
  predicate_read x v y a b c d h k l =
      in_made text n (λ left v. predicate_value v) (lexeme (word_of word.OpenBracket) & expression (place_in text) n & lexeme (word_of word.CloseBracket)) (pair x (pair v y)) a d
      (in_both text n (lexeme (word_of word.OpenBracket)) (expression (place_in text) n & lexeme (word_of word.CloseBracket)) x (pair v y) a b d h (in_both text n (expression (place_in text) n) (lexeme (word_of word.CloseBracket)) v y b c d k l))

  pub predicates_none : (k : ℕ) (taken : Bool) (a b : Standing) → 1 ≤ k → taken ≡ false → Looked taken a b (at_tokens (word_of word.OpenBracket ∷ [])) → Ran nothing a b (reading (more_predicates (place_in text) n k))
  unfolding more_predicates
  predicates_none zero taken a b l t h = absurd (omega (arith, l))
  predicates_none (suc k) taken a b l t h = in_right text n (at_tokens (word_of word.OpenBracket ∷ [])) (predicate (place_in text) n & more_predicates (place_in text) n k) empty nothing taken a b b t h (in_empty text n b)

  one_more : (k : ℕ) (v w : Made) (taken : Bool) (a b c d : Standing) → taken ≡ true → Looked taken a b (at_tokens (word_of word.OpenBracket ∷ [])) → Ran v b c (reading (predicate (place_in text) n)) → Ran w c d (reading (more_predicates (place_in text) n k))
      → Ran (pair v w) a d (reading (more_predicates (place_in text) n (suc k)))
  unfolding more_predicates
  one_more k v w taken a b c d t h i j =
      in_left text n (at_tokens (word_of word.OpenBracket ∷ [])) (predicate (place_in text) n & more_predicates (place_in text) n k) empty (pair v w) taken a b d t h (in_both text n (predicate (place_in text) n) (more_predicates (place_in text) n k) v w b c d i j)

  pub predicates_more : (k j : ℕ) (v w : Made) (taken : Bool) (a b c d : Standing) → k ≡ suc j → taken ≡ true → Looked taken a b (at_tokens (word_of word.OpenBracket ∷ [])) → Ran v b c (reading (predicate (place_in text) n)) → Ran w c d (reading (more_predicates (place_in text) n j))
      → Ran (pair v w) a d (reading (more_predicates (place_in text) n k))
  predicates_more k j v w taken a b c d l t h i r = subst (λ m. Ran (pair v w) a d (reading (more_predicates (place_in text) n m))) (sym l) (one_more j v w taken a b c d t h i r)

  pub predicates_end : (taken : Bool) (a b : Standing) → taken ≡ false → Looked taken a b (at_tokens (barred barrier.Predicate ∷ [])) → Ran nothing a b (reading (more_predicates (place_in text) n zero))
  unfolding more_predicates
  predicates_end taken a b t h = in_right text n (at_tokens (barred barrier.Predicate ∷ [])) (token (barred barrier.Predicate)) empty nothing taken a b b t h (in_empty text n b)

  pub predicates_full : (taken : Bool) (a b c : Standing) → taken ≡ true → Looked taken a b (at_tokens (barred barrier.Predicate ∷ [])) → Ran nothing b c (read_one (barred barrier.Predicate)) → Ran nothing a c (reading (more_predicates (place_in text) n zero))
  unfolding more_predicates
  predicates_full taken a b c t h i = in_left text n (at_tokens (barred barrier.Predicate ∷ [])) (token (barred barrier.Predicate)) empty nothing taken a b c t h (in_token text n (barred barrier.Predicate) nothing b c i)

  -- predicates, behind the place of the first `[`
  abbrev placed_predicates : Phrase
  placed_predicates = made (λ left v. placed_value (place_in text left) v) (more_predicates (place_in text) n 64)

  pub filtered_read : (before : Phrase) (t : SyntaxTree) (bracket : Place) (us : List SyntaxTree) (a b c : Standing) → bracket ≡ place_in text (left_of b) → Ran (tree t) a b (reading before)
      → Ran (predicates_before us nothing) b c (reading (more_predicates (place_in text) n 64)) → Ran (tree (filtered_tree t bracket us)) a c (reading (filtered_step (place_in text) n before))
  unfolding filtered_step
  filtered_read before t bracket us a b c e h k =
      subst (λ p. Ran (tree (filtered_tree t p us)) a c (reading (made (λ left v. filtered_value v) (before & placed_predicates)))) (sym e)
      (subst (λ v. Ran v a c (reading (made (λ left v. filtered_value v) (before & placed_predicates)))) (filtered_is t (place_in text (left_of b)) us)
      (in_made text n (λ left v. filtered_value v) (before & placed_predicates) (pair (tree t) (placed_value (place_in text (left_of b)) (predicates_before us nothing))) a c
      (in_both text n before placed_predicates (tree t) (placed_value (place_in text (left_of b)) (predicates_before us nothing)) a b c h
      (in_made text n (λ left v. placed_value (place_in text left) v) (more_predicates (place_in text) n 64) (predicates_before us nothing) b c k))))
