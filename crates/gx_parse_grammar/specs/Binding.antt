-- FLWOR expressions and quantified ones.
--   Flwor ::= (For | Let)+ ("where" Single)? OrderBy? "return" Single
--   For ::= "for" Bound ("," Bound)*          Bound ::= Var As? ("at" Var)? "in" Single
--   Let ::= "let" Given ("," Given)*          Given ::= Var As? ":=" Single
--   Some ::= ("some" | "every") In ("," In)* "satisfies" Single          In ::= Var As? "in" Single
-- A FLWOR has at most 64 of the clauses `for` and `let`, and each of them, `some` and `every` at most 64 bindings.
use Rattle.std.specs.Prelude.{ℕ, zero, suc, ◌+◌, [], ◌∷◌, ◌&&◌, codes, Bool, true, false, Option, Some, None, if◌then◌else◌}
use Rattle.gx_base.specs.declared.place.Place.{Place}
use Rattle.gx_ast.specs.SyntaxTree.{Bindings, Clauses, at as located, flwor as flwor_form, quantified as quantified_form, no_binding, a_binding, no_clause, for_clause, let_clause, where_clause}
use Rattle.gx_grammar.specs.Value.{nothing, node, pair}
use Rattle.gx_grammar.specs.Grammar.{token, empty, ◌&◌, keyed, choose, rule, made}
use Rattle.gx_parse_grammar.specs.declared.word.Word.TheVariants as word
use Rattle.gx_parse_grammar.specs.declared.word.WordSet.TheVariants as set
use Rattle.gx_parse_grammar.specs.declared.word.ClauseWord.{ClauseWord}
use Rattle.gx_parse_grammar.specs.declared.word.ClauseWord.TheVariants as clause_word
use Rattle.gx_parse_grammar.specs.declared.word.Opening.{Opening}
use Rattle.gx_parse_grammar.specs.declared.word.Opening.TheVariants as opening_is
use Rattle.gx_parse_grammar.specs.declared.word.Binder.{Binder}
use Rattle.gx_parse_grammar.specs.declared.word.Binder.TheVariants as binder
use Rattle.gx_parse_grammar.specs.Words.{clause_word_of, binder_in, binding_word, is_keyword}
use Rattle.gx_parse_grammar.specs.Nodes.{Made, Tree, Found, MaybeBound, MaybeType, Binds, BindingClause, WhereClause, second_value, name_length, tree, At, placed_value}
use Rattle.gx_parse_grammar.specs.Tokens.{one_of, gap, gap_then_dollar, barred_words}
use Rattle.gx_parse_grammar.specs.Basics.{Phrase, single, word_of, lexeme, word_gap, keyword, at_tokens, is_name}
use Rattle.gx_parse_grammar.specs.Types.{written_name}
use Rattle.gx_parse_grammar.specs.Bound.{bound_value, position_made, bound, bound_type, position}
use Rattle.gx_parse_grammar.specs.Keys.{is_stable, clause_keys, order_clause}

-- what the name begins where a `$` stands behind it
abbrev pub opening_named : Made → Option Opening
opening_named v =
    if is_name (codes "for") v then (Some (opening_is.Flwor clause_word.For))
    else (if is_name (codes "let") v then (Some (opening_is.Flwor clause_word.Let))
    else (if is_name (codes "some") v then (Some (opening_is.Quantified false))
    else (if is_name (codes "every") v then (Some (opening_is.Quantified true)) else None)))

-- a variable, its type and its position, with the word behind them
abbrev pub head_value : Made → Made
head_value (pair (node (MaybeBound (Some x))) (pair (node (MaybeType k)) (pair (node (MaybeBound p)) w))) = node (Binds (record { variable = x; kind = k; position = p }))
head_value _ = nothing

-- the word of a clause, as it was found
abbrev pub word_found : Made → ClauseWord
word_found (node (Found w)) = clause_word_of w
word_found _ = clause_word.Let

abbrev pub bindings_in : Made → Bindings
bindings_in (pair (pair (node (Binds x)) (node (Tree t))) others) = a_binding x t (bindings_in others)
bindings_in _ = no_binding

abbrev pub clause_before : ClauseWord → Place → Bindings → Clauses → Clauses
clause_before clause_word.For place bs others = for_clause place bs others
clause_before clause_word.Let place bs others = let_clause place bs others

abbrev pub clauses_in : Made → Clauses
clauses_in (pair (node (BindingClause b place bs)) others) = clause_before b place bs (clauses_in others)
clauses_in (pair (node (WhereClause place t)) others) = where_clause place t (clauses_in others)
clauses_in _ = no_clause

-- a word, its gap and bindings
abbrev pub clause_value : Place → Made → Made
clause_value place (pair w (pair space bs)) = node (BindingClause (word_found w) place (bindings_in bs))
clause_value place _ = nothing

abbrev pub where_value : Place → Made → Made
where_value place (pair w (node (Tree t))) = node (WhereClause place t)
where_value place _ = nothing

-- a `$`, the first bindings, the other clauses, how they are ordered, `return` and an expression
abbrev pub flwor_value : ClauseWord → Place → Made → Made
flwor_value b place (pair dollar (pair bs (pair cs (pair (pair (node (At behind)) order) (pair w (node (Tree t))))))) =
    tree (located place (flwor_form (clause_before b place (bindings_in bs) (clauses_in cs)) behind (is_stable order) (clause_keys order) t))
flwor_value b place _ = nothing

-- a `$`, the bindings, `satisfies` and an expression
abbrev pub quantified_value : Bool → Place → Made → Made
quantified_value every place (pair dollar (pair bs (pair w (node (Tree t))))) = tree (located place (quantified_form every (bindings_in bs) t))
quantified_value every place _ = nothing

-- A Single may stand there. Where none may, the first character of one passes the limit, whether it is joined with a keyword or not.
abbrev pub has_levels : ℕ → Bool
has_levels zero = false
has_levels (suc n) = true

-- The place of a token is `at` of the number of characters that are left there.
module _ (at : ℕ → Place) where
  -- a variable, at its `$`, which was read
  unfoldable pub first_bound : Phrase
  first_bound = made (λ left v. bound_value (at (left + 1)) v) (token gap & written_name at)

  -- the position of a variable of `for`, if one stands there
  unfoldable pub position_of : Binder → Phrase
  position_of binder.For = position at
  position_of binder.Let = made (λ left v. position_made None) empty
  position_of binder.Quantifier = made (λ left v. position_made None) empty

  -- the word in front of what a variable is bound to
  unfoldable pub bound_to : ℕ → Binder → Phrase
  bound_to n b = made (λ left v. nothing) (token (word_of (binding_word b)) & word_gap (has_levels n && is_keyword (binding_word b)))

  -- what stands in front of the expression of a binding
  unfoldable pub head : ℕ → Binder → Phrase → Phrase
  head n b variable = made (λ left v. head_value v) (variable & bound_type at & position_of b & bound_to n b)

  unfoldable pub binding : ℕ → Binder → Phrase → Phrase
  binding n b variable = head n b variable & rule (single n)

  unfoldable pub further_binding : ℕ → Binder → Phrase
  further_binding n b = made (λ left v. second_value v) (lexeme (word_of word.Comma) & binding n b (bound at))

  -- at most so many further bindings
  unfoldable pub more_bindings : ℕ → Binder → ℕ → Phrase
  more_bindings n b zero = choose (at_tokens (word_of word.Comma ∷ [])) (lexeme (word_of word.Comma) & token (barred_words (set.Only word.Dollar))) empty
  more_bindings n b (suc k) = choose (at_tokens (word_of word.Comma ∷ [])) (further_binding n b & more_bindings n b k) empty

  -- 1 to 64 bindings, the first with this variable
  unfoldable pub bindings : ℕ → Binder → Phrase → Phrase
  bindings n b variable = binding n b variable & more_bindings n b 63

  unfoldable pub clause : ℕ → Phrase
  clause n = made (λ left v. clause_value (at left) v) (keyed (one_of set.Binders) (λ w. token gap & bindings n (binder_in (word_found w)) (bound at)))

  unfoldable pub last_clause : ℕ → Phrase
  last_clause n = choose (at_tokens (word_of word.Where ∷ [])) (made (λ left v. where_value (at left) v) (keyword word.Where & rule (single n)) & empty) empty

  -- at most so many further clauses of `for` and `let`, and then one of `where`, if it stands there
  unfoldable pub more_clauses : ℕ → ℕ → Phrase
  more_clauses n zero = choose (at_tokens (barred_words set.Binders ∷ [])) (token (barred_words set.Binders)) (last_clause n)
  more_clauses n (suc k) = choose (at_tokens (one_of set.Binders ∷ [])) (clause n & more_clauses n k) (last_clause n)

  -- a FLWOR behind its first word
  unfoldable pub flwor : ℕ → ClauseWord → Made → Phrase
  flwor n b v =
      made (λ left u. flwor_value b (at (left + name_length v)) u)
      (token gap_then_dollar & bindings n (binder_in b) first_bound & more_clauses n 63 & made (λ left v. placed_value (at left) v) (order_clause at n) & keyword word.Return & rule (single n))

  -- a quantified expression behind its first word
  unfoldable pub quantified : ℕ → Bool → Made → Phrase
  quantified n every v =
      made (λ left u. quantified_value every (at (left + name_length v)) u)
      (token gap_then_dollar & bindings n binder.Quantifier first_bound & keyword word.Satisfies & rule (single n))

  -- what a name begins, behind it
  unfoldable pub opened : ℕ → Opening → Made → Phrase
  opened n (opening_is.Flwor b) v = flwor n b v
  opened n (opening_is.Quantified every) v = quantified n every v
