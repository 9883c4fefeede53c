-- How the functions of the parser go together.
use Rattle.std.proofs.Common.{◌≡◌, ◌≤◌, ℕ, zero, suc, ◌+◌, Bool, true, false, List, [], ◌∷◌, refl, sym, ap, subst, ◌∙◌, Result, IfOk, Some, None, arith}
use Rattle.gx_base.specs.declared.place.Place.{Place}
use Rattle.gx_ast.specs.SyntaxTree.{SyntaxTree, SyntaxTrees, at as located, signed, conditional, parenthesised, empty_sequence}
use Rattle.gx_grammar.specs.Value.{nothing, node, pair}
use Rattle.gx_grammar.specs.Grammar.{Guard, token, empty, ◌&◌, keyed, choose, many, rule, made}
use Rattle.gx_grammar.specs.Apart.{is}
use Rattle.gx_grammar.specs.First.{by_character}
use Rattle.gx_grammar.specs.Ran.{Standing, Going, GaveUp, Lost, Ran, Looked, IsDone, Makes, left_of}
use Rattle.gx_grammar.proofs.PublicLaws.{ran_makes}
use Rattle.gx_parse_grammar.specs.declared.word.Barrier.TheVariants as barrier
use Rattle.gx_parse_grammar.specs.declared.word.Word.{Word}
use Rattle.gx_parse_grammar.specs.declared.word.Word.TheVariants as word
use Rattle.gx_parse_grammar.specs.declared.word.WordSet.{WordSet}
use Rattle.gx_parse_grammar.specs.declared.word.WordSet.TheVariants as set
use Rattle.gx_parse_parts.specs.declared.parts.Sign.{Sign}
use Rattle.gx_parse_parts.specs.declared.members.Members.{Members}
use Rattle.gx_parse_parts.specs.declared.members.Members.TheVariants.{Singles, Operands, Steps}
use Rattle.gx_base.specs.NameCharacters.{is_ncname_start}
use Rattle.gx_parse_grammar.specs.Nodes.{Made, Arguments, Operator, name_at, name_length, named_value, second_value, signed_value, condition_value, parenthesised_value, is_minus, tree}
use Rattle.gx_parse_grammar.specs.Tokens.{Token, one_of, gap, gap_then_open, gap_not_open, gap_then_dollar, gap_then_neither, barred, qname}
use Rattle.gx_parse_grammar.specs.Direct.{direct_step}
use Rattle.gx_parse_grammar.specs.Grammar.{Phrase, word_of, lexeme, at_tokens, keyword, operator, infix_operator, more_signs, single, rules, expression, ladder, other_operand, other_step, step, dots, variable_step, parenthesised_step, arguments_in, behind_plain_name, behind_any_name, filtered_step, test_or_literal, path_from, signed_path, condition, branched, branched_or_name, begun, behind_keyword, opened_or_name, named_single, is_single, level_at, two, chain, place_in}
use Rattle.gx_parse_grammar.specs.Casts.{casts}
use Rattle.gx_parse_grammar.specs.declared.word.Opening.{Opening}
use Rattle.gx_parse_grammar.specs.Binding.{opening_named, opened}
use Rattle.gx_parse_grammar.specs.NodeTests.{wildcard_or, any_step}
use Rattle.gx_parse_grammar.specs.declared.word.Branching.{Branching}
use Rattle.gx_parse_grammar.specs.Typeswitch.{branching_named}
use Rattle.gx_parse_tokens.specs.Reading.{call, read_in, read_one}
use Rattle.gx_parse_parts.specs.Parsing.{KeepsTree, join_of, set_of, read_chain, chain_of, most_of, member_of, named_tree, called_tree, signs_before, wrapped}
use Rattle.gx_parse_parts.proofs.Chains.{ran_any, ran_keeps, chain_reads, chain_ends, chain_goes_on}
use Rattle.gx_parse_parts.proofs.Phrases.{in_token, in_both, in_keyed, in_empty, in_left, in_right, in_made, in_rule, signed_wraps}

module _ (text : List ℕ) (n : ℕ) where
  -- the levels of operators
  pub ladder_more : (k : ℕ) (first : Phrase) → ladder (place_in text) (suc k) n first ≡ chain_of (place_in text) n (Operands k) (ladder (place_in text) k n first)
  unfolding ladder chain_of two chain
  ladder_more k first = go (is_single (level_at k)) refl
    where
      go : (b : Bool) → is_single (level_at k) ≡ b → ladder (place_in text) (suc k) n first ≡ chain_of (place_in text) n (Operands k) (ladder (place_in text) k n first)
      go true e = rw e refl
      go false e = rw e refl

  pub ladder_next : (k j : ℕ) (first : Phrase) → j ≡ suc k → ladder (place_in text) j n first ≡ chain_of (place_in text) n (Operands k) (ladder (place_in text) k n first)
  ladder_next k j first e = ap (λ i. ladder (place_in text) i n first) e ∙ ladder_more k first

  pub ladder_none : (first : Phrase) → ladder (place_in text) zero n first ≡ casts (place_in text) first
  unfolding ladder
  ladder_none first = refl

  pub paths : (first : Phrase) → chain_of (place_in text) n Steps (filtered_step (place_in text) n first) ≡ path_from (place_in text) n first
  unfolding chain_of path_from chain
  paths first = refl

  pub path_read : (before : Phrase) (t u : SyntaxTree) (a c : Standing) → Ran (tree u) a c (read_in text n (chain_of (place_in text) n Steps (filtered_step (place_in text) n before))) → Ran (tree u) a c (read_in text n (path_from (place_in text) n before))
  path_read before t u a c h = subst (λ p. Ran (tree u) a c (read_in text n p)) (paths before) h

  pub expressions : chain_of (place_in text) n Singles (rule (single n)) ≡ expression (place_in text) n
  unfolding chain_of expression chain
  expressions = refl

  pub expression_read : (t u : SyntaxTree) (a b c : Standing) → Ran (tree t) a b (call text (suc n) (single n)) → (Ran (tree t) a b (read_in text n (rule (single n))) → Ran (tree u) a c (read_in text n (chain_of (place_in text) n Singles (rule (single n)))))
      → Ran (tree u) a c (read_in text n (expression (place_in text) n))
  expression_read t u a b c h k = subst (λ p. Ran (tree u) a c (read_in text n p)) expressions (k (in_rule text n n (tree t) a b h))

  -- what stands behind the name at the front of a Single, and of a step

  abbrev behind_single_name : Made → Phrase
  behind_single_name v = wildcard_or v (ladder (place_in text) 8 n (path_from (place_in text) n (any_step (place_in text) v))) (named_single (place_in text) n v)

  abbrev behind_step_name : Made → Phrase
  behind_step_name v = wildcard_or v (any_step (place_in text) v) (behind_any_name (place_in text) n v)

  -- a Single where none may stand
  pub no_single : (t : SyntaxTree) (a b : Standing) → Ran nothing a b (read_one (barred barrier.Single)) → IsDone b → Ran (tree t) a b (call text (suc zero) (single zero))
  unfolding call read_one
  no_single t a b h d = ran_any nothing (tree t) a b (call text (suc zero) (single zero)) d h

  single_is : (v : Made) (a b : Standing) → Ran v a b (read_in text n (rules (place_in text) (single (suc n)))) → Ran v a b (call text (suc (suc n)) (single (suc n)))
  unfolding call read_in
  single_is v a b h = h

  pub single_other : (t : SyntaxTree) (taken : Bool) (a b c : Standing) → taken ≡ false → Looked taken a b (by_character is_ncname_start) → Ran (tree t) b c (read_in text n (ladder (place_in text) 8 n (other_operand (place_in text) n))) → Ran (tree t) a c (call text (suc (suc n)) (single (suc n)))
  single_other t taken a b c e h k =
      single_is (tree t) a c
      (in_right text n (by_character is_ncname_start) (made (λ left v. second_value v) (keyed qname (λ v. behind_single_name v))) (ladder (place_in text) 8 n (other_operand (place_in text) n)) (tree t) taken a b c e h k)

  pub single_named : (t : SyntaxTree) (v : Made) (taken : Bool) (a b c d : Standing) → taken ≡ true → Looked taken a b (by_character is_ncname_start) → Ran v b c (read_one qname) → Ran (tree t) c d (read_in text n (behind_single_name v)) → Ran (tree t) a d (call text (suc (suc n)) (single (suc n)))
  single_named t v taken a b c d e h k l =
      single_is (tree t) a d
      (in_left text n (by_character is_ncname_start) (made (λ left v. second_value v) (keyed qname (λ v. behind_single_name v))) (ladder (place_in text) 8 n (other_operand (place_in text) n)) (tree t) taken a b d e h
      (in_made text n (λ left v. second_value v) (keyed qname (λ v. behind_single_name v)) (pair v (tree t)) b d (in_keyed text n qname (λ v. behind_single_name v) v (tree t) b c d k l)))

  -- steps
  pub step_other : (t : SyntaxTree) (taken : Bool) (a b c : Standing) → taken ≡ false → Looked taken a b (by_character is_ncname_start) → Ran (tree t) b c (read_in text n (other_step (place_in text) n)) → Ran (tree t) a c (read_in text n (step (place_in text) n))
  unfolding step
  step_other t taken a b c e h k = in_right text n (by_character is_ncname_start) (made (λ left v. second_value v) (keyed qname (λ v. behind_step_name v))) (other_step (place_in text) n) (tree t) taken a b c e h k

  pub step_named : (t : SyntaxTree) (v : Made) (taken : Bool) (a b c d : Standing) → taken ≡ true → Looked taken a b (by_character is_ncname_start) → Ran v b c (read_one qname) → Ran (tree t) c d (read_in text n (behind_step_name v)) → Ran (tree t) a d (read_in text n (step (place_in text) n))
  unfolding step
  step_named t v taken a b c d e h k l =
      in_left text n (by_character is_ncname_start) (made (λ left v. second_value v) (keyed qname (λ v. behind_step_name v))) (other_step (place_in text) n) (tree t) taken a b d e h
      (in_made text n (λ left v. second_value v) (keyed qname (λ v. behind_step_name v)) (pair v (tree t)) b d (in_keyed text n qname (λ v. behind_step_name v) v (tree t) b c d k l))

  -- what stands behind a name
  pub plain_read : (t : Token) (v : Made) (place : Place) (a b : Standing) → place ≡ place_in text (left_of a + name_length v) → Ran nothing a b (read_one t) → Ran (tree (named_tree (name_at place v))) a b (read_in text n (behind_plain_name (place_in text) t v))
  unfolding behind_plain_name
  plain_read t v place a b e h =
      subst (λ p. Ran (tree (named_tree (name_at p v))) a b (read_in text n (behind_plain_name (place_in text) t v))) (sym e)
      (in_made text n (λ left u. named_value (name_at (place_in text (left + name_length v)) v) u) (token t) nothing a b (in_token text n t nothing a b h))

  -- chains
  module _ (m : Members) where
    pub chain_read : (before : Phrase) (t u : SyntaxTree) (a b c : Standing) → Ran (tree t) a b (read_in text n before) → Ran u b c (read_chain text n m (most_of m) t) → Ran (tree u) a c (read_in text n (chain_of (place_in text) n m before))
    unfolding chain_of
    chain_read before t u a b c h k = chain_reads text n m before (join_of m) (most_of m) t u a b c refl h k

    pub no_more : (ws : WordSet) (k : ℕ) (t : SyntaxTree) (taken : Bool) (a b : Standing) → ws ≡ set_of m → 1 ≤ k → taken ≡ false → Looked taken a b (at_tokens (one_of ws ∷ [])) → Ran t a b (read_chain text n m k t)
    no_more ws zero t taken a b e l f h = absurd (omega (arith, l))
    no_more ws (suc k) t taken a b e l f h = chain_ends text n m k t taken a b f (subst (λ s. Looked taken a b (at_tokens (one_of s ∷ []))) e h)

    pub one_more : {E : Type 0} (ws : WordSet) (k j : ℕ) (t u v : SyntaxTree) (place : Place) (w : Word) (kept : SyntaxTree) (result : Result SyntaxTree E) (taken : Bool) (a b c d e z : Standing) → ws ≡ set_of m → k ≡ suc j → taken ≡ true
        → Looked taken a b (at_tokens (one_of ws ∷ [])) → Ran (node (Operator place w)) b c (read_in text n (infix_operator (place_in text) ws)) → Ran (tree u) c d (read_in text n (member_of (place_in text) n m))
        → IfOk result (λ x. x ≡ join_of m place w t u) → KeepsTree kept result d e → Ran v e z (read_chain text n m j kept) → Ran v a z (read_chain text n m k t)
    one_more ws k j t u v place w kept result taken a b c d e z g l f h i r o q x =
        subst (λ y. Ran v a z (read_chain text n m y t)) (sym l)
        (chain_goes_on text n m j t u v place w kept result taken a b c d e z f (subst (λ s. Looked taken a b (at_tokens (one_of s ∷ []))) g h) (subst (λ s. Ran (node (Operator place w)) b c (read_in text n (infix_operator (place_in text) s))) g i) r o q x)

  -- steps that do not begin with a name

  abbrev no_tag : Phrase
  no_tag = choose (at_tokens (one_of set.Dots ∷ [])) (dots (place_in text)) (test_or_literal (place_in text))

  abbrev no_parenthesis : Phrase
  no_parenthesis = choose (by_character (is 60)) (direct_step (place_in text) n) no_tag

  abbrev no_variable : Phrase
  no_variable = choose (by_character (is 40)) (parenthesised_step (place_in text) n) no_parenthesis

  pub step_variable : (v : Made) (taken : Bool) (a b c : Standing) → taken ≡ true → Looked taken a b (by_character (is 36)) → Ran v b c (read_in text n (variable_step (place_in text))) → Ran v a c (read_in text n (other_step (place_in text) n))
  unfolding other_step
  step_variable v taken a b c e h k = in_left text n (by_character (is 36)) (variable_step (place_in text)) no_variable v taken a b c e h k

  pub step_parenthesised : (v : Made) (taken one : Bool) (a b c d : Standing) → taken ≡ false → Looked taken a b (by_character (is 36)) → one ≡ true → Looked one b c (by_character (is 40)) → Ran v c d (read_in text n (parenthesised_step (place_in text) n)) → Ran v a d (read_in text n (other_step (place_in text) n))
  unfolding other_step
  step_parenthesised v taken one a b c d e h f i k =
      in_right text n (by_character (is 36)) (variable_step (place_in text)) no_variable v taken a b d e h (in_left text n (by_character (is 40)) (parenthesised_step (place_in text) n) no_parenthesis v one b c d f i k)

  -- neither `$` nor `(` stands first
  behind_two : (v : Made) (taken one : Bool) (a b c e : Standing) → taken ≡ false → Looked taken a b (by_character (is 36)) → one ≡ false → Looked one b c (by_character (is 40)) → Ran v c e (read_in text n no_parenthesis) → Ran v a e (read_in text n (other_step (place_in text) n))
  unfolding other_step
  behind_two v taken one a b c e f h g i k =
      in_right text n (by_character (is 36)) (variable_step (place_in text)) no_variable v taken a b e f h (in_right text n (by_character (is 40)) (parenthesised_step (place_in text) n) no_parenthesis v one b c e g i k)

  pub step_direct : (v : Made) (taken one less : Bool) (a b c d e : Standing) → taken ≡ false → Looked taken a b (by_character (is 36)) → one ≡ false → Looked one b c (by_character (is 40)) → less ≡ true → Looked less c d (by_character (is 60))
      → Ran v d e (read_in text n (direct_step (place_in text) n)) → Ran v a e (read_in text n (other_step (place_in text) n))
  step_direct v taken one less a b c d e f h g i l j k = behind_two v taken one a b c e f h g i (in_left text n (by_character (is 60)) (direct_step (place_in text) n) no_tag v less c d e l j k)

  pub step_dots : (v : Made) (taken one less two_dots : Bool) (a b c d e z : Standing) → taken ≡ false → Looked taken a b (by_character (is 36)) → one ≡ false → Looked one b c (by_character (is 40)) → less ≡ false → Looked less c d (by_character (is 60))
      → two_dots ≡ true → Looked two_dots d e (at_tokens (one_of set.Dots ∷ [])) → Ran v e z (read_in text n (dots (place_in text))) → Ran v a z (read_in text n (other_step (place_in text) n))
  step_dots v taken one less two_dots a b c d e z f h g i l j m o k =
      behind_two v taken one a b c z f h g i
      (in_right text n (by_character (is 60)) (direct_step (place_in text) n) no_tag v less c d z l j (in_left text n (at_tokens (one_of set.Dots ∷ [])) (dots (place_in text)) (test_or_literal (place_in text)) v two_dots d e z m o k))

  pub step_literal : (v : Made) (taken one less two_dots : Bool) (a b c d e z : Standing) → taken ≡ false → Looked taken a b (by_character (is 36)) → one ≡ false → Looked one b c (by_character (is 40)) → less ≡ false → Looked less c d (by_character (is 60))
      → two_dots ≡ false → Looked two_dots d e (at_tokens (one_of set.Dots ∷ [])) → Ran v e z (read_in text n (test_or_literal (place_in text))) → Ran v a z (read_in text n (other_step (place_in text) n))
  step_literal v taken one less two_dots a b c d e z f h g i l j m o k =
      behind_two v taken one a b c z f h g i
      (in_right text n (by_character (is 60)) (direct_step (place_in text) n) no_tag v less c d z l j (in_right text n (at_tokens (one_of set.Dots ∷ [])) (dots (place_in text)) (test_or_literal (place_in text)) v two_dots d e z m o k))

  -- a Single whose name was read
  abbrev plain_path : Made → Phrase
  plain_path v = path_from (place_in text) n (behind_plain_name (place_in text) gap_not_open v)

  pub begun_other : (v u : Made) (a b : Standing) → branching_named v ≡ None → Ran u a b (read_in text n (ladder (place_in text) 8 n (path_from (place_in text) n (behind_any_name (place_in text) n v)))) → Ran u a b (read_in text n (begun (place_in text) n v))
  unfolding begun branched_or_name
  begun_other v u a b e h = subst (λ o. Ran u a b (read_in text n (branched_or_name (place_in text) n v o))) (sym e) h

  pub begun_branched : (w : Branching) (v u : Made) (taken : Bool) (a b c : Standing) → branching_named v ≡ Some w → taken ≡ true → Looked taken a b (at_tokens (gap_then_open ∷ [])) → Ran u b c (read_in text n (branched (place_in text) n w v)) → Ran u a c (read_in text n (begun (place_in text) n v))
  unfolding begun branched_or_name
  begun_branched w v u taken a b c e f h k =
      subst (λ o. Ran u a c (read_in text n (branched_or_name (place_in text) n v o))) (sym e)
      (in_left text n (at_tokens (gap_then_open ∷ [])) (branched (place_in text) n w v) (ladder (place_in text) 8 n (plain_path v)) u taken a b c f h k)

  pub begun_plain : (w : Branching) (v u : Made) (taken : Bool) (a b c : Standing) → branching_named v ≡ Some w → taken ≡ false → Looked taken a b (at_tokens (gap_then_open ∷ [])) → Ran u b c (read_in text n (ladder (place_in text) 8 n (path_from (place_in text) n (behind_plain_name (place_in text) gap_not_open v))))
      → Ran u a c (read_in text n (begun (place_in text) n v))
  unfolding begun branched_or_name
  begun_plain w v u taken a b c e f h k =
      subst (λ o. Ran u a c (read_in text n (branched_or_name (place_in text) n v o))) (sym e)
      (in_right text n (at_tokens (gap_then_open ∷ [])) (branched (place_in text) n w v) (ladder (place_in text) 8 n (plain_path v)) u taken a b c f h k)

  -- a Single whose name is that of a clause or a quantifier, or is not
  pub named_other : (v u : Made) (a b : Standing) → opening_named v ≡ None → Ran u a b (read_in text n (begun (place_in text) n v)) → Ran u a b (read_in text n (named_single (place_in text) n v))
  unfolding named_single opened_or_name
  named_other v u a b e h = subst (λ o. Ran u a b (read_in text n (opened_or_name (place_in text) n v o))) (sym e) h

  abbrev keyword_path : Made → Phrase
  keyword_path v = path_from (place_in text) n (behind_keyword (place_in text) n v)

  pub named_opened : (o : Opening) (v u : Made) (taken : Bool) (s0 s1 s2 : Standing) → opening_named v ≡ Some o → taken ≡ true → Looked taken s0 s1 (at_tokens (gap_then_dollar ∷ [])) → Ran u s1 s2 (read_in text n (opened (place_in text) n o v)) → Ran u s0 s2 (read_in text n (named_single (place_in text) n v))
  unfolding named_single opened_or_name
  named_opened o v u taken s0 s1 s2 e f h k =
      subst (λ p. Ran u s0 s2 (read_in text n (opened_or_name (place_in text) n v p))) (sym e)
      (in_left text n (at_tokens (gap_then_dollar ∷ [])) (opened (place_in text) n o v) (ladder (place_in text) 8 n (keyword_path v)) u taken s0 s1 s2 f h k)

  pub named_keyword : (o : Opening) (v u : Made) (taken : Bool) (s0 s1 s2 : Standing) → opening_named v ≡ Some o → taken ≡ false → Looked taken s0 s1 (at_tokens (gap_then_dollar ∷ [])) → Ran u s1 s2 (read_in text n (ladder (place_in text) 8 n (path_from (place_in text) n (behind_keyword (place_in text) n v))))
      → Ran u s0 s2 (read_in text n (named_single (place_in text) n v))
  unfolding named_single opened_or_name
  named_keyword o v u taken s0 s1 s2 e f h k =
      subst (λ p. Ran u s0 s2 (read_in text n (opened_or_name (place_in text) n v p))) (sym e)
      (in_right text n (at_tokens (gap_then_dollar ∷ [])) (opened (place_in text) n o v) (ladder (place_in text) 8 n (keyword_path v)) u taken s0 s1 s2 f h
      k)

  abbrev keyword_call : Made → Phrase
  keyword_call v = made (λ left u. named_value (name_at (place_in text (left + name_length v)) v) u) (lexeme gap_then_open & arguments_in (place_in text) n)

  pub keyword_plain : (v : Made) (place : Place) (taken : Bool) (a b c : Standing) → place ≡ place_in text (left_of b + name_length v) → taken ≡ false → Looked taken a b (at_tokens (gap_then_open ∷ [])) → Ran nothing b c (read_one gap_then_neither)
      → Ran (tree (named_tree (name_at place v))) a c (read_in text n (behind_keyword (place_in text) n v))
  unfolding behind_keyword
  keyword_plain v place taken a b c e f h k =
      in_right text n (at_tokens (gap_then_open ∷ [])) (keyword_call v) (behind_plain_name (place_in text) gap_then_neither v) (tree (named_tree (name_at place v))) taken a b c f h (plain_read gap_then_neither v place b c e k)

  pub keyword_called : (v : Made) (ts : SyntaxTrees) (place : Place) (taken : Bool) (a b c d e : Standing) → place ≡ place_in text (left_of b + name_length v) → taken ≡ true → Looked taken a b (at_tokens (gap_then_open ∷ [])) → Ran nothing b c (read_one gap_then_open) → Ran nothing c d (read_one gap)
      → Ran (node (Arguments ts)) d e (read_in text n (arguments_in (place_in text) n)) → Ran (tree (called_tree (name_at place v) ts)) a e (read_in text n (behind_keyword (place_in text) n v))
  unfolding behind_keyword
  keyword_called v ts place taken a b c d e f g h i j k =
      subst (λ p. Ran (tree (called_tree (name_at p v) ts)) a e (read_in text n (behind_keyword (place_in text) n v))) (sym f)
      (in_left text n (at_tokens (gap_then_open ∷ [])) (keyword_call v) (behind_plain_name (place_in text) gap_then_neither v) (tree (called_tree (name_at (place_in text (left_of b + name_length v)) v) ts)) taken a b e g h
      (in_made text n (λ left u. named_value (name_at (place_in text (left + name_length v)) v) u) (lexeme gap_then_open & arguments_in (place_in text) n) (pair (pair nothing nothing) (node (Arguments ts))) b e
      (in_both text n (lexeme gap_then_open) (arguments_in (place_in text) n) (pair nothing nothing) (node (Arguments ts)) b d e (in_both text n (token gap_then_open) (token gap) nothing nothing b c d (in_token text n gap_then_open nothing b c i) (in_token text n gap nothing c d j)) k)))

  -- a look leaves as many characters
  pub looked_left : (taken : Bool) (a b : Standing) (g : Guard) → Looked taken a b g → left_of b ≡ left_of a
  looked_left taken (Going s) b g h = ap left_of h.0
  looked_left taken (GaveUp e) b g h = ap left_of h
  looked_left taken Lost b g h = ap left_of h

  pub condition_read : (v : Made) (place : Place) (x y z : Made) (test chosen otherwise : SyntaxTree) (s0 s1 s2 s3 s4 s5 s6 s7 s8 : Standing) → place ≡ place_in text (left_of s0 + name_length v) → Ran nothing s0 s1 (read_one gap_then_open) → Ran nothing s1 s2 (read_one gap)
      → Ran (tree test) s2 s3 (read_in text n (expression (place_in text) n)) → Ran x s3 s4 (read_in text n (lexeme (word_of word.Close))) → Ran y s4 s5 (read_in text n (keyword word.Then)) → Ran (tree chosen) s5 s6 (call text (suc n) (single n))
      → Ran z s6 s7 (read_in text n (keyword word.Else)) → Ran (tree otherwise) s7 s8 (call text (suc n) (single n)) → Ran (tree (located place (conditional test chosen otherwise))) s0 s8 (read_in text n (condition (place_in text) n v))
  unfolding condition
  condition_read v place x y z test chosen otherwise s0 s1 s2 s3 s4 s5 s6 s7 s8 e a b c d f g h i =
      subst (λ p. Ran (tree (located p (conditional test chosen otherwise))) s0 s8 (read_in text n (condition (place_in text) n v))) (sym e)
      (in_made text n (λ left u. condition_value (place_in text (left + name_length v)) u)
      (token gap_then_open & token gap & expression (place_in text) n & lexeme (word_of word.Close) & keyword word.Then & rule (single n) & keyword word.Else & rule (single n))
      (pair nothing (pair nothing (pair (tree test) (pair x (pair y (pair (tree chosen) (pair z (tree otherwise)))))))) s0 s8
      (in_both text n (token gap_then_open) _ nothing _ s0 s1 s8 (in_token text n gap_then_open nothing s0 s1 a)
      (in_both text n (token gap) _ nothing _ s1 s2 s8 (in_token text n gap nothing s1 s2 b)
      (in_both text n (expression (place_in text) n) _ (tree test) _ s2 s3 s8 c
      (in_both text n (lexeme (word_of word.Close)) _ x _ s3 s4 s8 d
      (in_both text n (keyword word.Then) _ y _ s4 s5 s8 f
      (in_both text n (rule (single n)) _ (tree chosen) _ s5 s6 s8 (in_rule text n n (tree chosen) s5 s6 g)
      (in_both text n (keyword word.Else) (rule (single n)) z (tree otherwise) s6 s7 s8 h (in_rule text n n (tree otherwise) s7 s8 i)))))))))

  -- parentheses
  abbrev inside : Phrase
  inside = choose (by_character (is 41)) (empty & lexeme (word_of word.Close)) (expression (place_in text) n & lexeme (word_of word.Close))

  pub nothing_inside : (place : Place) (x y : Made) (taken : Bool) (a b c d : Standing) → place ≡ place_in text (left_of a) → Ran x a b (read_in text n (lexeme (word_of word.Open))) → taken ≡ true → Looked taken b c (by_character (is 41)) → Ran y c d (read_in text n (lexeme (word_of word.Close)))
      → Ran (tree (located place empty_sequence)) a d (read_in text n (parenthesised_step (place_in text) n))
  unfolding parenthesised_step
  nothing_inside place x y taken a b c d e h f k l =
      subst (λ p. Ran (tree (located p empty_sequence)) a d (read_in text n (parenthesised_step (place_in text) n))) (sym e)
      (in_made text n (λ left v. parenthesised_value (place_in text left) v) (lexeme (word_of word.Open) & inside) (pair x (pair nothing y)) a d
      (in_both text n (lexeme (word_of word.Open)) inside x (pair nothing y) a b d h
      (in_left text n (by_character (is 41)) (empty & lexeme (word_of word.Close)) (expression (place_in text) n & lexeme (word_of word.Close)) (pair nothing y) taken b c d f k (in_both text n empty (lexeme (word_of word.Close)) nothing y c c d (in_empty text n c) l))))

  pub inner_read : (place : Place) (x y : Made) (inner : SyntaxTree) (taken : Bool) (a b c d e : Standing) → place ≡ place_in text (left_of a) → Ran x a b (read_in text n (lexeme (word_of word.Open))) → taken ≡ false → Looked taken b c (by_character (is 41)) → Ran (tree inner) c d (read_in text n (expression (place_in text) n))
      → Ran y d e (read_in text n (lexeme (word_of word.Close))) → Ran (tree (located place (parenthesised inner))) a e (read_in text n (parenthesised_step (place_in text) n))
  unfolding parenthesised_step
  inner_read place x y inner taken a b c d e g h f k l m =
      subst (λ p. Ran (tree (located p (parenthesised inner))) a e (read_in text n (parenthesised_step (place_in text) n))) (sym g)
      (in_made text n (λ left v. parenthesised_value (place_in text left) v) (lexeme (word_of word.Open) & inside) (pair x (pair (tree inner) y)) a e
      (in_both text n (lexeme (word_of word.Open)) inside x (pair (tree inner) y) a b e h
      (in_right text n (by_character (is 41)) (empty & lexeme (word_of word.Close)) (expression (place_in text) n & lexeme (word_of word.Close)) (pair (tree inner) y) taken b c e f k (in_both text n (expression (place_in text) n) (lexeme (word_of word.Close)) (tree inner) y c d e l m))))

  -- signs
  makes_tree : (f : SyntaxTree → SyntaxTree) (t u : SyntaxTree) (a b : Standing) → Makes t u a b → Makes (tree (f t)) (tree (f u)) a b
  makes_tree f t u (Going s) (Going r) h = (ap (λ x. tree (f x)) h.0, h.1)
  makes_tree f t u (Going s) (GaveUp r) h = absurd h
  makes_tree f t u (Going s) Lost h = tt
  makes_tree f t u (GaveUp e) b h = h
  makes_tree f t u Lost b h = h

  pub signed_read : (xs : List Sign) (t wanted : SyntaxTree) (a b c d : Standing) → Ran (signs_before xs nothing) a b (read_in text n (more_signs (place_in text) 64)) → Ran (tree t) b c (read_in text n (path_from (place_in text) n (step (place_in text) n))) → Makes wanted (wrapped xs t) c d
      → Ran (tree wanted) a d (read_in text n (signed_path (place_in text) n 64))
  unfolding signed_path
  signed_read xs t wanted a b c d h k l =
      ran_makes (tree (wrapped xs t)) (tree wanted) a c d (read_in text n (made (λ left v. signed_value v) (more_signs (place_in text) 64 & path_from (place_in text) n (step (place_in text) n))))
      (subst (λ u. Ran (tree u) a c (read_in text n (made (λ left v. signed_value v) (more_signs (place_in text) 64 & path_from (place_in text) n (step (place_in text) n))))) (signed_wraps xs t)
      (in_made text n (λ left v. signed_value v) (more_signs (place_in text) 64 & path_from (place_in text) n (step (place_in text) n)) (pair (signs_before xs nothing) (tree t)) a c
      (in_both text n (more_signs (place_in text) 64) (path_from (place_in text) n (step (place_in text) n)) (signs_before xs nothing) (tree t) a b c h k)))
      (makes_tree (λ u. u) wanted (wrapped xs t) c d l)

  -- an operand with signs, and one that begins with no sign
  abbrev signs_and_path : Phrase
  signs_and_path = (operator (place_in text) set.Signs & more_signs (place_in text) 63) & path_from (place_in text) n (step (place_in text) n)

  abbrev with_all_signs : Phrase
  with_all_signs = made (λ left v. signed_value v) signs_and_path

  abbrev other_path : Phrase
  other_path = path_from (place_in text) n (other_step (place_in text) n)

  operand_wrapped : (xs : List Sign) (place : Place) (w : Word) (t : SyntaxTree) (taken : Bool) (a b c d e : Standing) → taken ≡ true → Looked taken a b (at_tokens (one_of set.Signs ∷ [])) → Ran (node (Operator place w)) b c (read_in text n (operator (place_in text) set.Signs))
      → Ran (signs_before xs nothing) c d (read_in text n (more_signs (place_in text) 63)) → Ran (tree t) d e (read_in text n (path_from (place_in text) n (step (place_in text) n))) → Ran (tree (located place (signed (is_minus w) (wrapped xs t)))) a e (read_in text n (other_operand (place_in text) n))
  unfolding other_operand
  operand_wrapped xs place w t taken a b c d e f h i j k =
      in_left text n (at_tokens (one_of set.Signs ∷ [])) with_all_signs other_path (tree (located place (signed (is_minus w) (wrapped xs t)))) taken a b e f h
      (subst (λ u. Ran (tree (located place (signed (is_minus w) u))) b e (read_in text n with_all_signs)) (signed_wraps xs t)
      (in_made text n (λ left v. signed_value v) signs_and_path (pair (pair (node (Operator place w)) (signs_before xs nothing)) (tree t)) b e
      (in_both text n (operator (place_in text) set.Signs & more_signs (place_in text) 63) (path_from (place_in text) n (step (place_in text) n)) (pair (node (Operator place w)) (signs_before xs nothing)) (tree t) b d e
      (in_both text n (operator (place_in text) set.Signs) (more_signs (place_in text) 63) (node (Operator place w)) (signs_before xs nothing) b c d i j) k)))

  pub operand_signed : {E : Type 0} (xs : List Sign) (place : Place) (w : Word) (t operand kept : SyntaxTree) (result : Result SyntaxTree E) (taken : Bool) (a b c d e f z : Standing) → taken ≡ true → Looked taken a b (at_tokens (one_of set.Signs ∷ []))
      → Ran (node (Operator place w)) b c (read_in text n (operator (place_in text) set.Signs)) → Ran (signs_before xs nothing) c d (read_in text n (more_signs (place_in text) 63)) → Ran (tree t) d e (read_in text n (path_from (place_in text) n (step (place_in text) n)))
      → Makes operand (wrapped xs t) e f → IfOk result (λ x. x ≡ located place (signed (is_minus w) operand)) → KeepsTree kept result f z → Ran (tree kept) a z (read_in text n (other_operand (place_in text) n))
  operand_signed xs place w t operand kept result taken a b c d e f z g h i j k l m q =
      ran_keeps kept (located place (signed (is_minus w) operand)) result a f z (read_in text n (other_operand (place_in text) n))
      (ran_makes (tree (located place (signed (is_minus w) (wrapped xs t)))) (tree (located place (signed (is_minus w) operand))) a e f (read_in text n (other_operand (place_in text) n))
      (operand_wrapped xs place w t taken a b c d e g h i j k) (makes_tree (λ u. located place (signed (is_minus w) u)) operand (wrapped xs t) e f l))
      m q

  pub operand_other : (t : SyntaxTree) (taken : Bool) (a b c : Standing) → taken ≡ false → Looked taken a b (at_tokens (one_of set.Signs ∷ [])) → Ran (tree t) b c (read_in text n (path_from (place_in text) n (other_step (place_in text) n))) → Ran (tree t) a c (read_in text n (other_operand (place_in text) n))
  unfolding other_operand
  operand_other t taken a b c e h k =
      in_right text n (at_tokens (one_of set.Signs ∷ [])) with_all_signs other_path (tree t) taken a b c e h k
