-- The expressions in FLWOR expressions and quantified ones are of lower ranks.
use Rattle.std.proofs.Common.{ℕ, zero, suc, ◌<◌, Bool}
use Rattle.gx_base.specs.declared.place.Place.{Place}
use Rattle.gx_grammar.specs.Levels.{HasRanksBelow}
use Rattle.gx_parse_grammar.specs.declared.word.ClauseWord.{ClauseWord}
use Rattle.gx_parse_grammar.specs.declared.word.Binder.{Binder}
use Rattle.gx_parse_grammar.specs.declared.word.Binder.TheVariants as binder
use Rattle.gx_parse_grammar.specs.Words.{binder_in}
use Rattle.gx_parse_grammar.specs.Nodes.{Made}
use Rattle.gx_parse_grammar.specs.Grammar.{Phrase, keyword, query_language}
use Rattle.gx_parse_grammar.specs.Bound.{bound, bound_type, position}
use Rattle.gx_parse_grammar.specs.Binding.{first_bound, position_of, bound_to, head, binding, further_binding, more_bindings, bindings, clause, word_found, last_clause, more_clauses, flwor, quantified}
use Rattle.gx_parse_grammar.specs.Fronts.{rank}
use Rattle.gx_parse_grammar.proofs.CastsRanks.{written_low, sequence_low}
use Rattle.gx_parse_grammar.proofs.KeysRanks.{order_clause_low}

module _ (at : ℕ → Place) (n : ℕ) (below : n < suc n) where
  abbrev Low : Phrase → Type 0
  Low A = HasRanksBelow (query_language at) rank (suc n) A

  pub bound_low : Low (bound at)
  unfolding bound
  bound_low = ((tt, tt), written_low at (suc n))

  first_bound_low : Low (first_bound at)
  unfolding first_bound
  first_bound_low = (tt, written_low at (suc n))

  position_low : (b : Binder) → Low (position_of at b)
  unfolding position_of position
  position_low binder.For = (((tt, tt), bound_low), tt)
  position_low binder.Let = tt
  position_low binder.Quantifier = tt

  head_low : (b : Binder) (variable : Phrase) → Low variable → Low (head at n b variable)
  unfolding head bound_to bound_type
  head_low b variable v = (v, ((((tt, tt), sequence_low at (suc n)), tt), (position_low b, (tt, (tt, tt)))))

  binding_low : (b : Binder) (variable : Phrase) → Low variable → Low (binding at n b variable)
  unfolding binding
  binding_low b variable v = (head_low b variable v, below)

  more_bindings_low : (b : Binder) (k : ℕ) → Low (more_bindings at n b k)
  unfolding more_bindings further_binding
  more_bindings_low b zero = (((tt, tt), tt), tt)
  more_bindings_low b (suc k) = ((((tt, tt), binding_low b (bound at) bound_low), more_bindings_low b k), tt)

  bindings_low : (b : Binder) (variable : Phrase) → Low variable → Low (bindings at n b variable)
  unfolding bindings
  bindings_low b variable v = (binding_low b variable v, more_bindings_low b 63)

  clause_low : Low (clause at n)
  unfolding clause
  clause_low = λ v. (tt, bindings_low (binder_in (word_found v)) (bound at) bound_low)

  last_clause_low : Low (last_clause at n)
  unfolding last_clause keyword
  last_clause_low = ((((tt, (tt, tt)), below), tt), tt)

  more_clauses_low : (k : ℕ) → Low (more_clauses at n k)
  unfolding more_clauses
  more_clauses_low zero = (tt, last_clause_low)
  more_clauses_low (suc k) = ((clause_low, more_clauses_low k), last_clause_low)

  pub flwor_low : (b : ClauseWord) (v : Made) → Low (flwor at n b v)
  unfolding flwor keyword
  flwor_low b v = (tt, (bindings_low (binder_in b) (first_bound at) first_bound_low, (more_clauses_low 63, (order_clause_low at n below, ((tt, (tt, tt)), below)))))

  pub quantified_low : (every : Bool) (v : Made) → Low (quantified at n every v)
  unfolding quantified keyword
  quantified_low every v = (tt, (bindings_low binder.Quantifier (first_bound at) first_bound_low, ((tt, (tt, tt)), below)))
