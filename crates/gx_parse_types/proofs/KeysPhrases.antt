-- What the parts of sort keys read.
use Rattle.std.proofs.Common.{◌≡◌, ℕ, zero, suc, Bool, true, false, List, [], ◌∷◌, ◌++◌, inl, inr, refl, sym, ap, subst, ◌∙◌}
use Rattle.gx_ast.specs.SyntaxTree.{SyntaxTree, a_key}
use Rattle.gx_ast.specs.SyntaxView.{keys_of}
use Rattle.gx_ast.specs.declared.expression.Key.{Key}
use Rattle.gx_grammar.specs.Value.{nothing, pair}
use Rattle.gx_grammar.specs.Grammar.{token, empty, ◌&◌, choose, rule, made}
use Rattle.gx_grammar.specs.Ran.{Standing, Ran, Looked, IsDone}
use Rattle.gx_parse_grammar.specs.declared.word.Barrier.TheVariants as barrier
use Rattle.gx_parse_grammar.specs.declared.word.Word.TheVariants as word
use Rattle.gx_parse_grammar.specs.Nodes.{Made, second_value, tree}
use Rattle.gx_parse_grammar.specs.Tokens.{barred}
use Rattle.gx_parse_grammar.specs.Grammar.{Phrase, single, word_of, lexeme, keyword, at_tokens, place_in}
use Rattle.gx_parse_tokens.specs.Reading.{call, read_in, read_one}
use Rattle.gx_parse_grammar.specs.Bound.{key_order}
use Rattle.gx_parse_parts.specs.Lists.{items_before, OneMore}
use Rattle.gx_parse_grammar.specs.Keys.{key_made, keys_in, order_clause_made, is_stable, clause_keys, key, further_key, more_keys, ordered, order_clause}
use Rattle.gx_parse_tokens.specs.Reading.{Added}
use Rattle.gx_parse_parts.proofs.Chains.{ran_any}
use Rattle.gx_parse_parts.proofs.Phrases.{in_token, in_both, in_empty, in_left, in_right, in_made, in_rule, stays_done}

pub keys_seen : (ks : List Key) → keys_in (items_before key_made ks nothing) ≡ keys_of ks
keys_seen [] = refl
keys_seen (k ∷ ks) = ap (a_key k.value k.order) (keys_seen ks)

pub stable_seen : (b : Bool) (v : Made) → is_stable (order_clause_made b v) ≡ b
stable_seen true v = refl
stable_seen false v = refl

pub clause_keys_seen : (b : Bool) (ks : List Key) → clause_keys (order_clause_made b (items_before key_made ks nothing)) ≡ keys_of ks
clause_keys_seen true ks = keys_seen ks
clause_keys_seen false ks = keys_seen ks

module _ (text : List ℕ) (n : ℕ) where
  abbrev reads : Made → Standing → Standing → Phrase → Type 0
  reads v a b A = Ran v a b (read_in text n A)

  pub key_read : (t : SyntaxTree) (o : Made) (a b c : Standing) → Ran (tree t) a b (call text (suc n) (single n)) → reads o b c (key_order (place_in text)) → reads (pair (tree t) o) a c (key (place_in text) n)
  unfolding key
  key_read t o a b c h k = in_both text n (rule (single n)) (key_order (place_in text)) (tree t) o a b c (in_rule text n n (tree t) a b h) k

  -- no further key
  pub keys_none : (k : ℕ) (taken : Bool) (a c : Standing) → taken ≡ false → Looked taken a c (at_tokens (word_of word.Comma ∷ [])) → reads nothing a c (more_keys (place_in text) n k)
  unfolding more_keys
  keys_none zero taken a c e h =
      in_right text n (at_tokens (word_of word.Comma ∷ [])) (lexeme (word_of word.Comma) & token (barred barrier.Single)) empty nothing taken a c c e h (in_empty text n c)
  keys_none (suc k) taken a c e h =
      in_right text n (at_tokens (word_of word.Comma ∷ [])) (further_key (place_in text) n & more_keys (place_in text) n k) empty nothing taken a c c e h (in_empty text n c)

  -- one more
  pub keys_more : (k j : ℕ) (x v w : Made) (taken : Bool) (s0 s1 s2 s3 s4 : Standing) → k ≡ suc j → taken ≡ true → Looked taken s0 s1 (at_tokens (word_of word.Comma ∷ [])) → reads x s1 s2 (lexeme (word_of word.Comma))
      → reads v s2 s3 (key (place_in text) n) → reads w s3 s4 (more_keys (place_in text) n j) → reads (pair v w) s0 s4 (more_keys (place_in text) n k)
  unfolding more_keys further_key
  keys_more k j x v w taken s0 s1 s2 s3 s4 l e h f g i =
      subst (λ m. reads (pair v w) s0 s4 (more_keys (place_in text) n m)) (sym l)
      (in_left text n (at_tokens (word_of word.Comma ∷ [])) (further_key (place_in text) n & more_keys (place_in text) n j) empty (pair v w) taken s0 s1 s4 e h
      (in_both text n (further_key (place_in text) n) (more_keys (place_in text) n j) v w s1 s3 s4
      (in_made text n (λ left u. second_value u) (lexeme (word_of word.Comma) & key (place_in text) n) (pair x v) s1 s3
      (in_both text n (lexeme (word_of word.Comma)) (key (place_in text) n) x v s1 s2 s3 f g)) i))

  -- a comma behind as many as may stand
  pub keys_full : (x : Made) (taken : Bool) (s0 s1 s2 s3 : Standing) → taken ≡ true → Looked taken s0 s1 (at_tokens (word_of word.Comma ∷ [])) → reads x s1 s2 (lexeme (word_of word.Comma)) → Ran nothing s2 s3 (read_one (barred barrier.Single)) → IsDone s3
      → reads nothing s0 s3 (more_keys (place_in text) n zero)
  unfolding more_keys
  keys_full x taken s0 s1 s2 s3 e h f g d =
      in_left text n (at_tokens (word_of word.Comma ∷ [])) (lexeme (word_of word.Comma) & token (barred barrier.Single)) empty nothing taken s0 s1 s3 e h
      (ran_any (pair x nothing) nothing s1 s3 (read_in text n (lexeme (word_of word.Comma) & token (barred barrier.Single))) d
      (in_both text n (lexeme (word_of word.Comma)) (token (barred barrier.Single)) x nothing s1 s2 s3 f (in_token text n (barred barrier.Single) nothing s2 s3 g)))

  -- the first key and the others
  keys_read : (none begun list : List Key) (a c z : Standing) → none ≡ [] → OneMore key_made none begun a c (read_in text n (key (place_in text) n)) → Added begun list (λ others. reads (items_before key_made others nothing) c z (more_keys (place_in text) n 63))
      → reads (items_before key_made list nothing) a z (key (place_in text) n & more_keys (place_in text) n 63)
  keys_read none begun list a c z e (inl m) h =
      subst (λ us. reads (items_before key_made us nothing) a z (key (place_in text) n & more_keys (place_in text) n 63)) (sym (h.is ∙ ap (λ us. us ++ h.others) (m.1 ∙ ap (λ us. us ++ m.0 ∷ []) e)))
      (in_both text n (key (place_in text) n) (more_keys (place_in text) n 63) (key_made m.0) (items_before key_made h.others nothing) a c z m.2 h.holds)
  keys_read none begun list a c z e (inr m) h =
      ran_any (pair nothing (items_before key_made h.others nothing)) (items_before key_made list nothing) a z (read_in text n (key (place_in text) n & more_keys (place_in text) n 63))
      (stays_done (items_before key_made h.others nothing) c z (read_in text n (more_keys (place_in text) n 63)) m.1 h.holds)
      (in_both text n (key (place_in text) n) (more_keys (place_in text) n 63) nothing (items_before key_made h.others nothing) a c z (m.2 nothing) h.holds)

  pub ordered_read : (x y : Made) (none begun list : List Key) (s0 s1 a c z : Standing) → reads x s0 s1 (lexeme (word_of word.Order)) → reads y s1 a (keyword word.By) → none ≡ [] → OneMore key_made none begun a c (read_in text n (key (place_in text) n))
      → Added begun list (λ others. reads (items_before key_made others nothing) c z (more_keys (place_in text) n 63)) → reads (items_before key_made list nothing) s0 z (ordered (place_in text) n)
  unfolding ordered
  ordered_read x y none begun list s0 s1 a c z f g e m h =
      let keys = items_before key_made list nothing in
      let members = key (place_in text) n & more_keys (place_in text) n 63 in
      in_made text n (λ left v. second_value (second_value v)) (lexeme (word_of word.Order) & keyword word.By & members) (pair x (pair y keys)) s0 z
      (in_both text n (lexeme (word_of word.Order)) (keyword word.By & members) x (pair y keys) s0 s1 z f (in_both text n (keyword word.By) members y keys s1 a z g (keys_read none begun list a c z e m h)))

  abbrev stable_part : Phrase
  stable_part = made (λ left v. order_clause_made true (second_value v)) (lexeme (word_of word.Stable) & ordered (place_in text) n)

  abbrev ordered_part : Phrase
  ordered_part = made (λ left v. order_clause_made false v) (ordered (place_in text) n)

  abbrev no_part : Phrase
  no_part = made (λ left v. order_clause_made false nothing) empty

  abbrev other_part : Phrase
  other_part = choose (at_tokens (word_of word.Order ∷ [])) ordered_part no_part

  pub stable_read : (stable : Bool) (x v : Made) (s a b c : Standing) → stable ≡ true → Looked stable s a (at_tokens (word_of word.Stable ∷ [])) → reads x a b (lexeme (word_of word.Stable)) → reads v b c (ordered (place_in text) n)
      → reads (order_clause_made stable v) s c (order_clause (place_in text) n)
  unfolding order_clause
  stable_read stable x v s a b c e h i k =
      subst (λ d. reads (order_clause_made d v) s c (order_clause (place_in text) n)) (sym e)
      (in_left text n (at_tokens (word_of word.Stable ∷ [])) stable_part other_part (order_clause_made true v) stable s a c e h
      (in_made text n (λ left v. order_clause_made true (second_value v)) (lexeme (word_of word.Stable) & ordered (place_in text) n) (pair x v) a c (in_both text n (lexeme (word_of word.Stable)) (ordered (place_in text) n) x v a b c i k)))

  pub unstable_read : (stable taken : Bool) (v : Made) (s a b c : Standing) → stable ≡ false → Looked stable s a (at_tokens (word_of word.Stable ∷ [])) → taken ≡ true → Looked taken a b (at_tokens (word_of word.Order ∷ [])) → reads v b c (ordered (place_in text) n)
      → reads (order_clause_made stable v) s c (order_clause (place_in text) n)
  unfolding order_clause
  unstable_read stable taken v s a b c e h f i k =
      subst (λ d. reads (order_clause_made d v) s c (order_clause (place_in text) n)) (sym e)
      (in_right text n (at_tokens (word_of word.Stable ∷ [])) stable_part other_part (order_clause_made false v) stable s a c e h
      (in_left text n (at_tokens (word_of word.Order ∷ [])) ordered_part no_part (order_clause_made false v) taken a b c f i (in_made text n (λ left v. order_clause_made false v) (ordered (place_in text) n) v b c k)))

  pub unordered_read : (stable taken : Bool) (keys : List Key) (s a b : Standing) → stable ≡ false → Looked stable s a (at_tokens (word_of word.Stable ∷ [])) → taken ≡ false → Looked taken a b (at_tokens (word_of word.Order ∷ [])) → keys ≡ []
      → reads (order_clause_made stable (items_before key_made keys nothing)) s b (order_clause (place_in text) n)
  unfolding order_clause
  unordered_read stable taken keys s a b e h f i g =
      subst (λ d. reads (order_clause_made d (items_before key_made keys nothing)) s b (order_clause (place_in text) n)) (sym e)
      (subst (λ ks. reads (order_clause_made false (items_before key_made ks nothing)) s b (order_clause (place_in text) n)) (sym g)
      (in_right text n (at_tokens (word_of word.Stable ∷ [])) stable_part other_part (order_clause_made false nothing) stable s a b e h
      (in_right text n (at_tokens (word_of word.Order ∷ [])) ordered_part no_part (order_clause_made false nothing) taken a b b f i (in_made text n (λ left v. order_clause_made false nothing) empty nothing b b (in_empty text n b)))))
