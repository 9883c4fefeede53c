-- What the parts of typeswitches read.
use Rattle.std.proofs.Common.{◌≡◌, ℕ, zero, suc, ◌+◌, Bool, true, false, List, [], ◌∷◌, ◌++◌, inl, inr, refl, sym, ap, subst, ◌∙◌}
use Rattle.gx_base.specs.declared.place.Place.{Place}
use Rattle.gx_ast.specs.SyntaxTree.{SyntaxTree, a_case, at as located, typeswitch as typeswitch_form}
use Rattle.gx_ast.specs.SyntaxView.{cases_of}
use Rattle.gx_ast.specs.declared.expression.Case.{Case}
use Rattle.gx_ast.specs.declared.sequence_type.CaseHead.{CaseHead}
use Rattle.gx_ast.specs.declared.sequence_type.DefaultHead.{DefaultHead}
use Rattle.gx_grammar.specs.Value.{nothing, pair}
use Rattle.gx_grammar.specs.Grammar.{token, empty, ◌&◌, rule}
use Rattle.gx_grammar.specs.Ran.{Standing, Ran, Looked, left_of}
use Rattle.gx_parse_grammar.specs.declared.word.Word.TheVariants as word
use Rattle.gx_parse_grammar.specs.declared.word.WordSet.TheVariants as set
use Rattle.gx_parse_grammar.specs.declared.word.Branching.{Branching}
use Rattle.gx_parse_grammar.specs.declared.word.Branching.TheVariants as branching_is
use Rattle.gx_parse_grammar.specs.Nodes.{Made, name_length, tree}
use Rattle.gx_parse_grammar.specs.Tokens.{gap, gap_then_open, barred_words}
use Rattle.gx_parse_grammar.specs.Grammar.{Phrase, single, word_of, lexeme, keyword, at_tokens, branched, condition, expression, typeswitch, place_in}
use Rattle.gx_parse_tokens.specs.Reading.{call, read_in, read_one}
use Rattle.gx_parse_grammar.specs.Types.{sequence_type}
use Rattle.gx_parse_grammar.specs.Bound.{case_variable, default_variable}
use Rattle.gx_parse_parts.specs.Lists.{items_before, OneMore}
use Rattle.gx_parse_tokens.specs.Reading.{Added}
use Rattle.gx_parse_grammar.specs.Typeswitch.{case_head_made, default_head_made, case_made, cases_in, case_head_value, default_head_value, typeswitch_value, case_head, case, more_cases, cases, default_head}
use Rattle.gx_parse_parts.proofs.Chains.{ran_any}
use Rattle.gx_parse_parts.proofs.Phrases.{in_token, in_both, in_empty, in_left, in_right, in_made, in_rule, stays_done}

cases_seen : (cs : List Case) → cases_in (items_before case_made cs nothing) ≡ cases_of cs
cases_seen [] = refl
cases_seen (c ∷ cs) = ap (a_case c.head c.body) (cases_seen cs)

module _ (text : List ℕ) (n : ℕ) where
  abbrev reads : Made → Standing → Standing → Phrase → Type 0
  reads v a b A = Ran v a b (read_in text n A)

  pub case_head_read : (place : Place) (x v k y : Made) (s0 s1 s2 s3 s4 : Standing) → place ≡ place_in text (left_of s0) → reads x s0 s1 (lexeme (word_of word.Case)) → reads v s1 s2 (case_variable (place_in text)) → reads k s2 s3 (sequence_type (place_in text))
      → reads y s3 s4 (keyword word.Return) → reads (case_head_value place (pair x (pair v (pair k y)))) s0 s4 (case_head (place_in text))
  unfolding case_head
  case_head_read place x v k y s0 s1 s2 s3 s4 e f g h i =
      subst (λ p. reads (case_head_value p (pair x (pair v (pair k y)))) s0 s4 (case_head (place_in text))) (sym e)
      (in_made text n (λ left v. case_head_value (place_in text left) v) (lexeme (word_of word.Case) & case_variable (place_in text) & sequence_type (place_in text) & keyword word.Return) (pair x (pair v (pair k y))) s0 s4
      (in_both text n (lexeme (word_of word.Case)) _ x _ s0 s1 s4 f
      (in_both text n (case_variable (place_in text)) _ v _ s1 s2 s4 g (in_both text n (sequence_type (place_in text)) (keyword word.Return) k y s2 s3 s4 h i))))

  pub default_head_read : (place : Place) (x v y : Made) (s0 s1 s2 s3 : Standing) → place ≡ place_in text (left_of s0) → reads x s0 s1 (lexeme (word_of word.Default)) → reads v s1 s2 (default_variable (place_in text)) → reads y s2 s3 (keyword word.Return)
      → reads (default_head_value place (pair x (pair v y))) s0 s3 (default_head (place_in text))
  unfolding default_head
  default_head_read place x v y s0 s1 s2 s3 e f g h =
      subst (λ p. reads (default_head_value p (pair x (pair v y))) s0 s3 (default_head (place_in text))) (sym e)
      (in_made text n (λ left v. default_head_value (place_in text left) v) (lexeme (word_of word.Default) & default_variable (place_in text) & keyword word.Return) (pair x (pair v y)) s0 s3
      (in_both text n (lexeme (word_of word.Default)) _ x _ s0 s1 s3 f (in_both text n (default_variable (place_in text)) (keyword word.Return) v y s1 s2 s3 g h)))

  pub case_read : (h : CaseHead) (t : SyntaxTree) (a b c : Standing) → reads (case_head_made h) a b (case_head (place_in text)) → Ran (tree t) b c (call text (suc n) (single n)) → reads (pair (case_head_made h) (tree t)) a c (case (place_in text) n)
  unfolding case
  case_read h t a b c g k = in_both text n (case_head (place_in text)) (rule (single n)) (case_head_made h) (tree t) a b c g (in_rule text n n (tree t) b c k)

  -- no further case
  pub cases_none : (k j : ℕ) (taken : Bool) (a c : Standing) → k ≡ suc j → taken ≡ false → Looked taken a c (at_tokens (word_of word.Case ∷ [])) → reads nothing a c (more_cases (place_in text) n k)
  unfolding more_cases
  cases_none k j taken a c l e h =
      subst (λ m. reads nothing a c (more_cases (place_in text) n m)) (sym l)
      (in_right text n (at_tokens (word_of word.Case ∷ [])) (case (place_in text) n & more_cases (place_in text) n j) empty nothing taken a c c e h (in_empty text n c))

  -- one more
  pub cases_more : (k j : ℕ) (v w : Made) (taken : Bool) (s0 s1 s2 s3 : Standing) → k ≡ suc j → taken ≡ true → Looked taken s0 s1 (at_tokens (word_of word.Case ∷ [])) → reads v s1 s2 (case (place_in text) n) → reads w s2 s3 (more_cases (place_in text) n j)
      → reads (pair v w) s0 s3 (more_cases (place_in text) n k)
  unfolding more_cases
  cases_more k j v w taken s0 s1 s2 s3 l e h g i =
      subst (λ m. reads (pair v w) s0 s3 (more_cases (place_in text) n m)) (sym l)
      (in_left text n (at_tokens (word_of word.Case ∷ [])) (case (place_in text) n & more_cases (place_in text) n j) empty (pair v w) taken s0 s1 s3 e h
      (in_both text n (case (place_in text) n) (more_cases (place_in text) n j) v w s1 s2 s3 g i))

  -- a `case` behind as many as may stand, or none
  pub cases_full : (taken : Bool) (s0 s1 s2 : Standing) → taken ≡ true → Looked taken s0 s1 (at_tokens (barred_words (set.Only word.Case) ∷ [])) → Ran nothing s1 s2 (read_one (barred_words (set.Only word.Case))) → reads nothing s0 s2 (more_cases (place_in text) n zero)
  unfolding more_cases
  cases_full taken s0 s1 s2 e h g =
      in_left text n (at_tokens (barred_words (set.Only word.Case) ∷ [])) (token (barred_words (set.Only word.Case))) empty nothing taken s0 s1 s2 e h (in_token text n (barred_words (set.Only word.Case)) nothing s1 s2 g)

  pub cases_end : (taken : Bool) (a c : Standing) → taken ≡ false → Looked taken a c (at_tokens (barred_words (set.Only word.Case) ∷ [])) → reads nothing a c (more_cases (place_in text) n zero)
  unfolding more_cases
  cases_end taken a c e h = in_right text n (at_tokens (barred_words (set.Only word.Case) ∷ [])) (token (barred_words (set.Only word.Case))) empty nothing taken a c c e h (in_empty text n c)

  -- the first case and the others
  pub cases_read : (none begun list : List Case) (a c z : Standing) → none ≡ [] → OneMore case_made none begun a c (read_in text n (case (place_in text) n)) → Added begun list (λ others. reads (items_before case_made others nothing) c z (more_cases (place_in text) n 63))
      → reads (items_before case_made list nothing) a z (cases (place_in text) n)
  unfolding cases
  cases_read none begun list a c z e (inl m) h =
      subst (λ us. reads (items_before case_made us nothing) a z (cases (place_in text) n)) (sym (h.is ∙ ap (λ us. us ++ h.others) (m.1 ∙ ap (λ us. us ++ m.0 ∷ []) e)))
      (in_both text n (case (place_in text) n) (more_cases (place_in text) n 63) (case_made m.0) (items_before case_made h.others nothing) a c z m.2 h.holds)
  cases_read none begun list a c z e (inr m) h =
      ran_any (pair nothing (items_before case_made h.others nothing)) (items_before case_made list nothing) a z (read_in text n (cases (place_in text) n))
      (stays_done (items_before case_made h.others nothing) c z (read_in text n (more_cases (place_in text) n 63)) m.1 h.holds)
      (in_both text n (case (place_in text) n) (more_cases (place_in text) n 63) nothing (items_before case_made h.others nothing) a c z (m.2 nothing) h.holds)

  -- a whole typeswitch

  pub typeswitch_read : (v x : Made) (place : Place) (operand otherwise : SyntaxTree) (cs : List Case) (d : DefaultHead) (s0 s1 s2 s3 s4 s5 s6 s7 : Standing) → place ≡ place_in text (left_of s0 + name_length v) → Ran nothing s0 s1 (read_one gap_then_open) → Ran nothing s1 s2 (read_one gap)
      → reads (tree operand) s2 s3 (expression (place_in text) n) → reads x s3 s4 (lexeme (word_of word.Close)) → reads (items_before case_made cs nothing) s4 s5 (cases (place_in text) n) → reads (default_head_made d) s5 s6 (default_head (place_in text))
      → Ran (tree otherwise) s6 s7 (call text (suc n) (single n)) → reads (tree (located place (typeswitch_form operand (cases_of cs) d otherwise))) s0 s7 (typeswitch (place_in text) n v)
  unfolding typeswitch
  typeswitch_read v x place operand otherwise cs d s0 s1 s2 s3 s4 s5 s6 s7 e f g h i j k l =
      subst (λ p. reads (tree (located p (typeswitch_form operand (cases_of cs) d otherwise))) s0 s7 (typeswitch (place_in text) n v)) (sym e)
      (subst (λ us. reads (tree (located (place_in text (left_of s0 + name_length v)) (typeswitch_form operand us d otherwise))) s0 s7 (typeswitch (place_in text) n v)) (cases_seen cs)
      (in_made text n (λ left u. typeswitch_value (place_in text (left + name_length v)) u)
      (token gap_then_open & token gap & expression (place_in text) n & lexeme (word_of word.Close) & cases (place_in text) n & default_head (place_in text) & rule (single n))
      (pair nothing (pair nothing (pair (tree operand) (pair x (pair (items_before case_made cs nothing) (pair (default_head_made d) (tree otherwise))))))) s0 s7
      (in_both text n (token gap_then_open) _ nothing _ s0 s1 s7 (in_token text n gap_then_open nothing s0 s1 f)
      (in_both text n (token gap) _ nothing _ s1 s2 s7 (in_token text n gap nothing s1 s2 g)
      (in_both text n (expression (place_in text) n) _ (tree operand) _ s2 s3 s7 h
      (in_both text n (lexeme (word_of word.Close)) _ x _ s3 s4 s7 i
      (in_both text n (cases (place_in text) n) _ (items_before case_made cs nothing) _ s4 s5 s7 j
      (in_both text n (default_head (place_in text)) (rule (single n)) (default_head_made d) (tree otherwise) s5 s6 s7 k (in_rule text n n (tree otherwise) s6 s7 l)))))))))

  -- what a name begins
  pub branched_condition : (b : Branching) (v u : Made) (a c : Standing) → b ≡ branching_is.If → reads u a c (condition (place_in text) n v) → reads u a c (branched (place_in text) n b v)
  unfolding branched
  branched_condition b v u a c e h = subst (λ d. reads u a c (branched (place_in text) n d v)) (sym e) h

  pub branched_typeswitch : (b : Branching) (v u : Made) (a c : Standing) → b ≡ branching_is.Typeswitch → reads u a c (typeswitch (place_in text) n v) → reads u a c (branched (place_in text) n b v)
  unfolding branched
  branched_typeswitch b v u a c e h = subst (λ d. reads u a c (branched (place_in text) n d v)) (sym e) h
