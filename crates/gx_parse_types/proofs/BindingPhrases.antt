-- What the parts of FLWOR expressions and quantified ones read.
use Rattle.std.proofs.Common.{◌≡◌, ℕ, zero, suc, ◌+◌, ◌&&◌, Bool, true, false, List, [], ◌∷◌, ◌++◌, inl, inr, sym, ap, subst, ◌∙◌, None}
use Rattle.gx_base.specs.declared.place.Place.{Place}
use Rattle.gx_ast.specs.SyntaxTree.{SyntaxTree, at as located, flwor as flwor_form, quantified as quantified_form}
use Rattle.gx_ast.specs.SyntaxView.{bindings_of, clauses_of, keys_of}
use Rattle.gx_ast.specs.declared.expression.Binding.{Binding}
use Rattle.gx_ast.specs.declared.expression.Clause.{Clause}
use Rattle.gx_ast.specs.declared.expression.Key.{Key}
use Rattle.gx_grammar.specs.Value.{nothing, node, pair}
use Rattle.gx_grammar.specs.Grammar.{token, empty, ◌&◌, keyed, rule, made}
use Rattle.gx_grammar.specs.Ran.{Standing, Ran, Looked, IsDone, left_of}
use Rattle.gx_grammar.proofs.PublicLaws.{ran_idle}
use Rattle.gx_parse_grammar.specs.declared.word.Word.{Word}
use Rattle.gx_parse_grammar.specs.declared.word.Word.TheVariants as word
use Rattle.gx_parse_grammar.specs.declared.word.WordSet.TheVariants as set
use Rattle.gx_parse_grammar.specs.declared.word.ClauseWord.{ClauseWord}
use Rattle.gx_parse_grammar.specs.declared.word.Opening.{Opening}
use Rattle.gx_parse_grammar.specs.declared.word.Opening.TheVariants as opening_is
use Rattle.gx_parse_grammar.specs.declared.word.Binder.{Binder}
use Rattle.gx_parse_grammar.specs.declared.word.Binder.TheVariants as binder
use Rattle.gx_parse_grammar.specs.Words.{clause_word_of, binder_in, binding_word, is_keyword}
use Rattle.gx_parse_grammar.specs.Nodes.{Made, Found, BindingClause, WhereClause, second_value, name_length, tree, placed_value}
use Rattle.gx_parse_grammar.specs.Tokens.{one_of, gap, gap_then_dollar, barred_words, word_end}
use Rattle.gx_parse_grammar.specs.Basics.{word_gap}
use Rattle.gx_parse_grammar.specs.Grammar.{Phrase, single, word_of, lexeme, keyword, at_tokens, place_in}
use Rattle.gx_parse_tokens.specs.Reading.{call, read_in, read_one}
use Rattle.gx_parse_grammar.specs.Types.{written_name}
use Rattle.gx_parse_grammar.specs.Bound.{bound_value, position_made, bound, bound_type, position}
use Rattle.gx_parse_grammar.specs.Keys.{key_made, order_clause_made, is_stable, order_clause}
use Rattle.gx_parse_parts.specs.Lists.{items_before, Grown, OneMore, binding_made, clause_made}
use Rattle.gx_parse_tokens.specs.Reading.{Added}
use Rattle.gx_parse_grammar.specs.Binding.{head_value, bindings_in, word_found, clause_before, clauses_in, clause_value, where_value, flwor_value, quantified_value, first_bound, position_of, has_levels, bound_to, head, binding, further_binding, more_bindings, bindings, clause, last_clause, more_clauses, flwor, quantified, opened}
use Rattle.gx_parse_parts.proofs.Chains.{ran_any}
use Rattle.gx_parse_parts.proofs.Phrases.{in_token, in_both, in_keyed, in_empty, in_left, in_right, in_made, in_rule, ended_reads, loses_done, stays_done, ran_loses}
use Rattle.gx_parse_parts.proofs.Lists.{bindings_seen, clauses_seen}
use Rattle.gx_parse_types.proofs.KeysPhrases.{stable_seen, clause_keys_seen}

module _ (text : List ℕ) (n : ℕ) where
  abbrev reads : Made → Standing → Standing → Phrase → Type 0
  reads v a b A = Ran v a b (read_in text n A)

  pub first_bound_read : (place : Place) (v : Made) (a b c : Standing) → place ≡ place_in text (left_of a + 1) → Ran nothing a b (read_one gap) → reads v b c (written_name (place_in text)) → reads (bound_value place (pair nothing v)) a c (first_bound (place_in text))
  unfolding first_bound
  first_bound_read place v a b c e h k =
      subst (λ p. reads (bound_value p (pair nothing v)) a c (first_bound (place_in text))) (sym e)
      (in_made text n (λ left v. bound_value (place_in text (left + 1)) v) (token gap & written_name (place_in text)) (pair nothing v) a c (in_both text n (token gap) (written_name (place_in text)) nothing v a b c (in_token text n gap nothing a b h) k))

  pub for_position : (b : Binder) (v : Made) (a c : Standing) → b ≡ binder.For → reads v a c (position (place_in text)) → reads v a c (position_of (place_in text) b)
  unfolding position_of
  for_position b v a c e h = subst (λ d. reads v a c (position_of (place_in text) d)) (sym e) h

  pub let_position : (b : Binder) (a : Standing) → b ≡ binder.Let → reads (position_made None) a a (position_of (place_in text) b)
  unfolding position_of
  let_position b a e = subst (λ d. reads (position_made None) a a (position_of (place_in text) d)) (sym e) (in_made text n (λ left v. position_made None) empty nothing a a (in_empty text n a))

  pub quantifier_position : (b : Binder) (a : Standing) → b ≡ binder.Quantifier → reads (position_made None) a a (position_of (place_in text) b)
  unfolding position_of
  quantifier_position b a e = subst (λ d. reads (position_made None) a a (position_of (place_in text) d)) (sym e) (in_made text n (λ left v. position_made None) empty nothing a a (in_empty text n a))

  pub bound_to_read : (m : ℕ) (b : Binder) (w : Word) (k : Bool) (v : Made) (s0 s1 s2 s3 : Standing) → w ≡ binding_word b → k ≡ (has_levels m && is_keyword w) → Ran v s0 s1 (read_one (one_of (set.Only w))) → Ran nothing s1 s2 (read_one (word_end k)) → Ran nothing s2 s3 (read_one gap)
      → reads nothing s0 s3 (bound_to (place_in text) m b)
  unfolding bound_to
  bound_to_read m b w k v s0 s1 s2 s3 e f h i j =
      subst (λ y. reads nothing s0 s3 (made (λ left u. nothing) (token (word_of y) & word_gap (has_levels m && is_keyword y)))) e
      (subst (λ q. reads nothing s0 s3 (made (λ left u. nothing) (token (word_of w) & word_gap q))) f (ended_reads text n w k v s0 s1 s2 s3 h i j))

  -- the parts behind the variable of a binding, in which Singles may have so many levels
  abbrev behind_variable : ℕ → Binder → Phrase
  behind_variable m b = bound_type (place_in text) & position_of (place_in text) b & bound_to (place_in text) m b

  pub head_read : (m : ℕ) (b : Binder) (variable : Phrase) (v k p x : Made) (a s0 s1 s2 s3 : Standing) → reads v a s0 variable → reads k s0 s1 (bound_type (place_in text)) → reads p s1 s2 (position_of (place_in text) b) → reads x s2 s3 (bound_to (place_in text) m b)
      → reads (head_value (pair v (pair k (pair p x)))) a s3 (head (place_in text) m b variable)
  unfolding head
  head_read m b variable v k p x a s0 s1 s2 s3 f g h i =
      in_made text n (λ left v. head_value v) (variable & behind_variable m b) (pair v (pair k (pair p x))) a s3
      (in_both text n variable (behind_variable m b) v (pair k (pair p x)) a s0 s3 f
      (in_both text n (bound_type (place_in text)) (position_of (place_in text) b & bound_to (place_in text) m b) k (pair p x) s0 s1 s3 g (in_both text n (position_of (place_in text) b) (bound_to (place_in text) m b) p x s1 s2 s3 h i)))

  -- where the parts behind a variable were not read
  pub head_stops : (m : ℕ) (b : Binder) (variable : Phrase) (v w : Made) (a s : Standing) → IsDone s → reads v a s variable → reads w a s (head (place_in text) m b variable)
  unfolding head
  head_stops m b variable v w a s d h =
      ran_any (head_value (pair v nothing)) w a s (read_in text n (head (place_in text) m b variable)) d
      (in_made text n (λ left v. head_value v) (variable & behind_variable m b) (pair v nothing) a s
      (in_both text n variable (behind_variable m b) v nothing a s s h (ran_idle nothing s (read_in text n (behind_variable m b)) d)))

  -- bindings

  pub binding_read : (variable : Phrase) (v : Made) (t : SyntaxTree) (a b c : Standing) → reads v a b variable → Ran (tree t) b c (call text (suc n) (single n)) → reads (pair v (tree t)) a c (variable & rule (single n))
  binding_read variable v t a b c h k = in_both text n variable (rule (single n)) v (tree t) a b c h (in_rule text n n (tree t) b c k)

  pub binding_stops : (variable : Phrase) (v w : Made) (a b : Standing) → IsDone b → reads v a b variable → reads w a b (variable & rule (single n))
  binding_stops variable v w a b d h =
      ran_any (pair v nothing) w a b (read_in text n (variable & rule (single n))) d (in_both text n variable (rule (single n)) v nothing a b b h (ran_idle nothing b (read_in text n (rule (single n))) d))

  -- no further binding
  pub bindings_none : (b : Binder) (k : ℕ) (taken : Bool) (a c : Standing) → taken ≡ false → Looked taken a c (at_tokens (word_of word.Comma ∷ [])) → reads nothing a c (more_bindings (place_in text) n b k)
  unfolding more_bindings
  bindings_none b zero taken a c e h =
      in_right text n (at_tokens (word_of word.Comma ∷ [])) (lexeme (word_of word.Comma) & token (barred_words (set.Only word.Dollar))) empty nothing taken a c c e h (in_empty text n c)
  bindings_none b (suc k) taken a c e h =
      in_right text n (at_tokens (word_of word.Comma ∷ [])) (further_binding (place_in text) n b & more_bindings (place_in text) n b k) empty nothing taken a c c e h (in_empty text n c)

  -- one more
  pub bindings_more : (b : Binder) (k j : ℕ) (x v w : Made) (taken : Bool) (s0 s1 s2 s3 s4 : Standing) → k ≡ suc j → taken ≡ true → Looked taken s0 s1 (at_tokens (word_of word.Comma ∷ [])) → reads x s1 s2 (lexeme (word_of word.Comma))
      → reads v s2 s3 (head (place_in text) n b (bound (place_in text)) & rule (single n)) → reads w s3 s4 (more_bindings (place_in text) n b j) → reads (pair v w) s0 s4 (more_bindings (place_in text) n b k)
  unfolding more_bindings further_binding binding
  bindings_more b k j x v w taken s0 s1 s2 s3 s4 l e h f g i =
      subst (λ m. reads (pair v w) s0 s4 (more_bindings (place_in text) n b m)) (sym l)
      (in_left text n (at_tokens (word_of word.Comma ∷ [])) (further_binding (place_in text) n b & more_bindings (place_in text) n b j) empty (pair v w) taken s0 s1 s4 e h
      (in_both text n (further_binding (place_in text) n b) (more_bindings (place_in text) n b j) v w s1 s3 s4
      (in_made text n (λ left u. second_value u) (lexeme (word_of word.Comma) & head (place_in text) n b (bound (place_in text)) & rule (single n)) (pair x v) s1 s3
      (in_both text n (lexeme (word_of word.Comma)) (head (place_in text) n b (bound (place_in text)) & rule (single n)) x v s1 s2 s3 f g)) i))

  -- a comma behind as many as may stand
  pub bindings_full : (b : Binder) (x : Made) (taken : Bool) (s0 s1 s2 s3 : Standing) → taken ≡ true → Looked taken s0 s1 (at_tokens (word_of word.Comma ∷ [])) → reads x s1 s2 (lexeme (word_of word.Comma))
      → Ran nothing s2 s3 (read_one (barred_words (set.Only word.Dollar))) → IsDone s3 → reads nothing s0 s3 (more_bindings (place_in text) n b zero)
  unfolding more_bindings
  bindings_full b x taken s0 s1 s2 s3 e h f g d =
      in_left text n (at_tokens (word_of word.Comma ∷ [])) (lexeme (word_of word.Comma) & token (barred_words (set.Only word.Dollar))) empty nothing taken s0 s1 s3 e h
      (ran_any (pair x nothing) nothing s1 s3 (read_in text n (lexeme (word_of word.Comma) & token (barred_words (set.Only word.Dollar)))) d
      (in_both text n (lexeme (word_of word.Comma)) (token (barred_words (set.Only word.Dollar))) x nothing s1 s2 s3 f (in_token text n (barred_words (set.Only word.Dollar)) nothing s2 s3 g)))

  pub bindings_read : (b : Binder) (before : Phrase) (none begun list : List Binding) (a c z : Standing) → none ≡ [] → OneMore binding_made none begun a c (read_in text n (before & rule (single n)))
      → Added begun list (λ others. reads (items_before binding_made others nothing) c z (more_bindings (place_in text) n b 63)) → reads (items_before binding_made list nothing) a z ((before & rule (single n)) & more_bindings (place_in text) n b 63)
  bindings_read b before none begun list a c z e (inl m) h =
      subst (λ us. reads (items_before binding_made us nothing) a z ((before & rule (single n)) & more_bindings (place_in text) n b 63)) (sym (h.is ∙ ap (λ us. us ++ h.others) (m.1 ∙ ap (λ us. us ++ m.0 ∷ []) e)))
      (in_both text n (before & rule (single n)) (more_bindings (place_in text) n b 63) (binding_made m.0) (items_before binding_made h.others nothing) a c z m.2 h.holds)
  bindings_read b before none begun list a c z e (inr m) h =
      ran_any (pair nothing (items_before binding_made h.others nothing)) (items_before binding_made list nothing) a z (read_in text n ((before & rule (single n)) & more_bindings (place_in text) n b 63))
      (stays_done (items_before binding_made h.others nothing) c z (read_in text n (more_bindings (place_in text) n b 63)) m.1 h.holds)
      (in_both text n (before & rule (single n)) (more_bindings (place_in text) n b 63) nothing (items_before binding_made h.others nothing) a c z (m.2 nothing) h.holds)

  -- clauses

  bindings_are : (b : Binder) (variable : Phrase) (v : Made) (a c : Standing) → reads v a c ((head (place_in text) n b variable & rule (single n)) & more_bindings (place_in text) n b 63) → reads v a c (bindings (place_in text) n b variable)
  unfolding bindings binding
  bindings_are b variable v a c h = h

  -- what the binder of a clause binds
  of_binder : (b : ClauseWord) (d : Binder) (variable : Phrase) (v : Made) (a c : Standing) → d ≡ binder_in b → reads v a c ((head (place_in text) n d variable & rule (single n)) & more_bindings (place_in text) n d 63)
      → reads v a c ((head (place_in text) n (binder_in b) variable & rule (single n)) & more_bindings (place_in text) n (binder_in b) 63)
  of_binder b d variable v a c e h = subst (λ x. reads v a c ((head (place_in text) n x variable & rule (single n)) & more_bindings (place_in text) n x 63)) e h

  pub clause_read : (place : Place) (w : Word) (b : ClauseWord) (d : Binder) (bs : List Binding) (c : Clause) (s0 s1 s2 s3 s4 : Standing) → place ≡ place_in text (left_of s0) → b ≡ clause_word_of w → d ≡ binder_in b → Ran (node (Found w)) s0 s1 (read_one (one_of set.Binders))
      → Ran nothing s1 s2 (read_one gap) → reads (items_before binding_made bs nothing) s2 s4 ((head (place_in text) n d (bound (place_in text)) & rule (single n)) & more_bindings (place_in text) n d 63) → clause_made c ≡ node (BindingClause b place (bindings_of bs))
      → reads (clause_made c) s0 s4 (clause (place_in text) n)
  unfolding clause
  clause_read place w b d bs c s0 s1 s2 s3 s4 e f q h i k g =
      subst (λ v. reads v s0 s4 (clause (place_in text) n)) (sym (g ∙ ap (λ x. node (BindingClause x place (bindings_of bs))) f ∙ ap (λ p. node (BindingClause (clause_word_of w) p (bindings_of bs))) e ∙ ap (λ us. node (BindingClause (clause_word_of w) (place_in text (left_of s0)) us)) (sym (bindings_seen bs))))
      (in_made text n (λ left v. clause_value (place_in text left) v) (keyed (one_of set.Binders) (λ v. token gap & bindings (place_in text) n (binder_in (word_found v)) (bound (place_in text)))) (pair (node (Found w)) (pair nothing (items_before binding_made bs nothing))) s0 s4
      (in_keyed text n (one_of set.Binders) (λ v. token gap & bindings (place_in text) n (binder_in (word_found v)) (bound (place_in text))) (node (Found w)) (pair nothing (items_before binding_made bs nothing)) s0 s1 s4 h
      (in_both text n (token gap) (bindings (place_in text) n (binder_in (clause_word_of w)) (bound (place_in text))) nothing (items_before binding_made bs nothing) s1 s2 s4 (in_token text n gap nothing s1 s2 i)
      (bindings_are (binder_in (clause_word_of w)) (bound (place_in text)) (items_before binding_made bs nothing) s2 s4 (of_binder (clause_word_of w) d (bound (place_in text)) (items_before binding_made bs nothing) s2 s4 (q ∙ ap binder_in f) k)))))

  abbrev pub where_part : Phrase
  where_part = made (λ left v. where_value (place_in text left) v) (keyword word.Where & rule (single n))

  pub no_where : (taken : Bool) (a c : Standing) → taken ≡ false → Looked taken a c (at_tokens (word_of word.Where ∷ [])) → reads nothing a c (last_clause (place_in text) n)
  unfolding last_clause
  no_where taken a c e h = in_right text n (at_tokens (word_of word.Where ∷ [])) (where_part & empty) empty nothing taken a c c e h (in_empty text n c)

  pub where_read : (place : Place) (x : Made) (t : SyntaxTree) (a b c : Standing) → place ≡ place_in text (left_of a) → reads x a b (keyword word.Where) → Ran (tree t) b c (call text (suc n) (single n)) → reads (node (WhereClause place t)) a c where_part
  where_read place x t a b c e h k =
      subst (λ p. reads (node (WhereClause p t)) a c where_part) (sym e)
      (in_made text n (λ left v. where_value (place_in text left) v) (keyword word.Where & rule (single n)) (pair x (tree t)) a c
      (in_both text n (keyword word.Where) (rule (single n)) x (tree t) a b c h (in_rule text n n (tree t) b c k)))

  pub a_where : (v : Made) (taken : Bool) (a b c : Standing) → taken ≡ true → Looked taken a b (at_tokens (word_of word.Where ∷ [])) → reads v b c where_part → reads (pair v nothing) a c (last_clause (place_in text) n)
  unfolding last_clause
  a_where v taken a b c e h k = in_left text n (at_tokens (word_of word.Where ∷ [])) (where_part & empty) empty (pair v nothing) taken a b c e h (in_both text n where_part empty v nothing b c c k (in_empty text n c))

  pub clauses_none : (k j : ℕ) (v : Made) (taken : Bool) (a b c : Standing) → k ≡ suc j → taken ≡ false → Looked taken a b (at_tokens (one_of set.Binders ∷ [])) → reads v b c (last_clause (place_in text) n) → reads v a c (more_clauses (place_in text) n k)
  unfolding more_clauses
  clauses_none k j v taken a b c l e h i =
      subst (λ m. reads v a c (more_clauses (place_in text) n m)) (sym l)
      (in_right text n (at_tokens (one_of set.Binders ∷ [])) (clause (place_in text) n & more_clauses (place_in text) n j) (last_clause (place_in text) n) v taken a b c e h i)

  pub clauses_more : (k j : ℕ) (v w : Made) (taken : Bool) (a b c d : Standing) → k ≡ suc j → taken ≡ true → Looked taken a b (at_tokens (one_of set.Binders ∷ [])) → reads v b c (clause (place_in text) n) → reads w c d (more_clauses (place_in text) n j)
      → reads (pair v w) a d (more_clauses (place_in text) n k)
  unfolding more_clauses
  clauses_more k j v w taken a b c d l e h i g =
      subst (λ m. reads (pair v w) a d (more_clauses (place_in text) n m)) (sym l)
      (in_left text n (at_tokens (one_of set.Binders ∷ [])) (clause (place_in text) n & more_clauses (place_in text) n j) (last_clause (place_in text) n) (pair v w) taken a b d e h
      (in_both text n (clause (place_in text) n) (more_clauses (place_in text) n j) v w b c d i g))

  pub clauses_full : (taken : Bool) (a b c : Standing) → taken ≡ true → Looked taken a b (at_tokens (barred_words set.Binders ∷ [])) → Ran nothing b c (read_one (barred_words set.Binders)) → reads nothing a c (more_clauses (place_in text) n zero)
  unfolding more_clauses
  clauses_full taken a b c e h i =
      in_left text n (at_tokens (barred_words set.Binders ∷ [])) (token (barred_words set.Binders)) (last_clause (place_in text) n) nothing taken a b c e h (in_token text n (barred_words set.Binders) nothing b c i)

  pub clauses_end : (v : Made) (taken : Bool) (a b c : Standing) → taken ≡ false → Looked taken a b (at_tokens (barred_words set.Binders ∷ [])) → reads v b c (last_clause (place_in text) n) → reads v a c (more_clauses (place_in text) n zero)
  unfolding more_clauses
  clauses_end v taken a b c e h i =
      in_right text n (at_tokens (barred_words set.Binders ∷ [])) (token (barred_words set.Binders)) (last_clause (place_in text) n) v taken a b c e h i

  -- a whole FLWOR

  -- how a FLWOR is ordered, behind the place where that stands
  abbrev placed_order : Phrase
  placed_order = made (λ left v. placed_value (place_in text left) v) (order_clause (place_in text) n)

  abbrev flwor_parts : ClauseWord → Phrase
  flwor_parts b = token gap_then_dollar & bindings (place_in text) n (binder_in b) (first_bound (place_in text)) & more_clauses (place_in text) n 63 & placed_order & keyword word.Return & rule (single n)

  parts_read : (b : ClauseWord) (v bs cs o x : Made) (t : SyntaxTree) (s0 s1 s2 s3 s4 s5 s6 : Standing) → Ran nothing s0 s1 (read_one gap_then_dollar)
      → reads bs s1 s2 ((head (place_in text) n (binder_in b) (first_bound (place_in text)) & rule (single n)) & more_bindings (place_in text) n (binder_in b) 63) → reads cs s2 s3 (more_clauses (place_in text) n 63) → reads o s3 s4 (order_clause (place_in text) n)
      → reads x s4 s5 (keyword word.Return) → Ran (tree t) s5 s6 (call text (suc n) (single n)) → reads (flwor_value b (place_in text (left_of s0 + name_length v)) (pair nothing (pair bs (pair cs (pair (placed_value (place_in text (left_of s3)) o) (pair x (tree t))))))) s0 s6 (flwor (place_in text) n b v)
  unfolding flwor
  parts_read b v bs cs o x t s0 s1 s2 s3 s4 s5 s6 h i j m k l =
      in_made text n (λ left u. flwor_value b (place_in text (left + name_length v)) u) (flwor_parts b) (pair nothing (pair bs (pair cs (pair (placed_value (place_in text (left_of s3)) o) (pair x (tree t)))))) s0 s6
      (in_both text n (token gap_then_dollar) _ nothing _ s0 s1 s6 (in_token text n gap_then_dollar nothing s0 s1 h)
      (in_both text n (bindings (place_in text) n (binder_in b) (first_bound (place_in text))) _ bs _ s1 s2 s6 (bindings_are (binder_in b) (first_bound (place_in text)) bs s1 s2 i)
      (in_both text n (more_clauses (place_in text) n 63) _ cs _ s2 s3 s6 j
      (in_both text n placed_order _ (placed_value (place_in text (left_of s3)) o) _ s3 s4 s6 (in_made text n (λ left v. placed_value (place_in text left) v) (order_clause (place_in text) n) o s3 s4 m) (in_both text n (keyword word.Return) (rule (single n)) x (tree t) s4 s5 s6 k (in_rule text n n (tree t) s5 s6 l))))))

  clause_seen : (b : ClauseWord) (place : Place) (bs : List Binding) (c : Clause) (others : List Clause) → clause_made c ≡ node (BindingClause b place (bindings_of bs)) → clause_before b place (bindings_of bs) (clauses_of others) ≡ clauses_of (c ∷ others)
  clause_seen b place bs c others e = sym (ap (clause_before b place (bindings_of bs)) (clauses_seen others)) ∙ ap (λ v. clauses_in (pair v (items_before clause_made others nothing))) (sym e) ∙ clauses_seen (c ∷ others)

  pub flwor_read : (b : ClauseWord) (d : Binder) (v x : Made) (place : Place) (bs : List Binding) (first : Clause) (begun clauses : List Clause) (behind : Place) (stable : Bool) (keys : List Key) (t : SyntaxTree) (s0 s1 s2 s3 s4 s5 s6 s7 : Standing) → d ≡ binder_in b → place ≡ place_in text (left_of s0 + name_length v)
      → behind ≡ place_in text (left_of s4)
      → Ran nothing s0 s1 (read_one gap_then_dollar) → reads (items_before binding_made bs nothing) s1 s2 ((head (place_in text) n d (first_bound (place_in text)) & rule (single n)) & more_bindings (place_in text) n d 63)
      → clause_made first ≡ node (BindingClause b place (bindings_of bs)) → Grown [] first begun s2 s3
      → Added begun clauses (λ others. reads (items_before clause_made others nothing) s3 s4 (more_clauses (place_in text) n 63)) → reads (order_clause_made stable (items_before key_made keys nothing)) s4 s5 (order_clause (place_in text) n)
      → reads x s5 s6 (keyword word.Return) → Ran (tree t) s6 s7 (call text (suc n) (single n))
      → reads (tree (located place (flwor_form (clauses_of clauses) behind stable (keys_of keys) t))) s0 s7 (flwor (place_in text) n b v)
  flwor_read b d v x place bs first begun clauses behind stable keys t s0 s1 s2 s3 s4 s5 s6 s7 y e p h i f (inl g) m o k l =
      let others = m.others in
      let order = order_clause_made stable (items_before key_made keys nothing) in
      let are : clause_before b place (bindings_in (items_before binding_made bs nothing)) (clauses_in (items_before clause_made others nothing)) ≡ clauses_of clauses =
      ap (λ us. clause_before b place us (clauses_in (items_before clause_made others nothing))) (bindings_seen bs) ∙ ap (clause_before b place (bindings_of bs)) (clauses_seen others) ∙ clause_seen b place bs first others f ∙ ap clauses_of (ap (λ us. us ++ others) (sym g.0) ∙ sym m.is)
      in
      subst (λ q. reads (tree (located place (flwor_form (clauses_of clauses) q stable (keys_of keys) t))) s0 s7 (flwor (place_in text) n b v)) (sym p)
      (subst (λ cs. reads (tree (located place (flwor_form cs (place_in text (left_of s4)) stable (keys_of keys) t))) s0 s7 (flwor (place_in text) n b v)) are
      (subst (λ is. reads (tree (located place (flwor_form (clause_before b place (bindings_in (items_before binding_made bs nothing)) (clauses_in (items_before clause_made others nothing))) (place_in text (left_of s4)) is (keys_of keys) t))) s0 s7 (flwor (place_in text) n b v)) (stable_seen stable (items_before key_made keys nothing))
      (subst (λ ks. reads (tree (located place (flwor_form (clause_before b place (bindings_in (items_before binding_made bs nothing)) (clauses_in (items_before clause_made others nothing))) (place_in text (left_of s4)) (is_stable order) ks t))) s0 s7 (flwor (place_in text) n b v)) (clause_keys_seen stable keys)
      (subst (λ p. reads (flwor_value b p (pair nothing (pair (items_before binding_made bs nothing) (pair (items_before clause_made others nothing) (pair (placed_value (place_in text (left_of s4)) order) (pair x (tree t))))))) s0 s7 (flwor (place_in text) n b v)) (sym e)
      (parts_read b v (items_before binding_made bs nothing) (items_before clause_made others nothing) order x t s0 s1 s2 s4 s5 s6 s7 h (of_binder b d (first_bound (place_in text)) (items_before binding_made bs nothing) s1 s2 y i) (subst (λ s. reads (items_before clause_made others nothing) s s4 (more_clauses (place_in text) n 63)) g.1 m.holds) o k l)))))
  flwor_read b d v x place bs first begun clauses behind stable keys t s0 s1 s2 s3 s4 s5 s6 s7 y e p h i f (inr g) m o k l =
      let d3 = loses_done s2 s3 g.1 in
      let d4 = stays_done (items_before clause_made m.others nothing) s3 s4 (read_in text n (more_clauses (place_in text) n 63)) d3 m.holds in
      let d5 = stays_done (order_clause_made stable (items_before key_made keys nothing)) s4 s5 (read_in text n (order_clause (place_in text) n)) d4 o in
      let d6 = stays_done x s5 s6 (read_in text n (keyword word.Return)) d5 k in
      let d7 = stays_done (tree t) s6 s7 (call text (suc n) (single n)) d6 l in
      ran_any _ (tree (located place (flwor_form (clauses_of clauses) behind stable (keys_of keys) t))) s0 s7 (read_in text n (flwor (place_in text) n b v)) d7
      (parts_read b v nothing (items_before clause_made m.others nothing) (order_clause_made stable (items_before key_made keys nothing)) x t s0 s1 s3 s4 s5 s6 s7 h
      (ran_loses (items_before binding_made bs nothing) nothing s1 s2 s3 (read_in text n ((head (place_in text) n (binder_in b) (first_bound (place_in text)) & rule (single n)) & more_bindings (place_in text) n (binder_in b) 63)) (of_binder b d (first_bound (place_in text)) (items_before binding_made bs nothing) s1 s2 y i) g.1) m.holds o k l)

  -- a whole quantified expression

  abbrev quantified_parts : Phrase
  quantified_parts = token gap_then_dollar & bindings (place_in text) n binder.Quantifier (first_bound (place_in text)) & keyword word.Satisfies & rule (single n)

  pub quantified_read : (every : Bool) (v x : Made) (place : Place) (bs : List Binding) (t : SyntaxTree) (s0 s1 s2 s3 s4 : Standing) → place ≡ place_in text (left_of s0 + name_length v) → Ran nothing s0 s1 (read_one gap_then_dollar)
      → reads (items_before binding_made bs nothing) s1 s2 ((head (place_in text) n binder.Quantifier (first_bound (place_in text)) & rule (single n)) & more_bindings (place_in text) n binder.Quantifier 63) → reads x s2 s3 (keyword word.Satisfies)
      → Ran (tree t) s3 s4 (call text (suc n) (single n)) → reads (tree (located place (quantified_form every (bindings_of bs) t))) s0 s4 (quantified (place_in text) n every v)
  unfolding quantified
  quantified_read every v x place bs t s0 s1 s2 s3 s4 e h i k l =
      subst (λ us. reads (tree (located place (quantified_form every us t))) s0 s4 (quantified (place_in text) n every v)) (bindings_seen bs)
      (subst (λ p. reads (quantified_value every p (pair nothing (pair (items_before binding_made bs nothing) (pair x (tree t))))) s0 s4 (quantified (place_in text) n every v)) (sym e)
      (in_made text n (λ left u. quantified_value every (place_in text (left + name_length v)) u) quantified_parts (pair nothing (pair (items_before binding_made bs nothing) (pair x (tree t)))) s0 s4
      (in_both text n (token gap_then_dollar) _ nothing _ s0 s1 s4 (in_token text n gap_then_dollar nothing s0 s1 h)
      (in_both text n (bindings (place_in text) n binder.Quantifier (first_bound (place_in text))) _ (items_before binding_made bs nothing) _ s1 s2 s4 (bindings_are binder.Quantifier (first_bound (place_in text)) (items_before binding_made bs nothing) s1 s2 i)
      (in_both text n (keyword word.Satisfies) (rule (single n)) x (tree t) s2 s3 s4 k (in_rule text n n (tree t) s3 s4 l))))))

  pub opened_flwor : (o : Opening) (b : ClauseWord) (v u : Made) (a c : Standing) → o ≡ opening_is.Flwor b → reads u a c (flwor (place_in text) n b v) → reads u a c (opened (place_in text) n o v)
  unfolding opened
  opened_flwor o b v u a c e h = subst (λ p. reads u a c (opened (place_in text) n p v)) (sym e) h

  pub opened_quantified : (o : Opening) (every : Bool) (v u : Made) (a c : Standing) → o ≡ opening_is.Quantified every → reads u a c (quantified (place_in text) n every v) → reads u a c (opened (place_in text) n o v)
  unfolding opened
  opened_quantified o every v u a c e h = subst (λ p. reads u a c (opened (place_in text) n p v)) (sym e) h
