-- The expressions in sort keys are of lower ranks.
use Rattle.std.proofs.Common.{ℕ, zero, suc, ◌<◌}
use Rattle.gx_base.specs.declared.place.Place.{Place}
use Rattle.gx_grammar.specs.Levels.{HasRanksBelow}
use Rattle.gx_parse_grammar.specs.Grammar.{Phrase, keyword, query_language}
use Rattle.gx_parse_grammar.specs.Bound.{direction, extreme, key_order}
use Rattle.gx_parse_grammar.specs.Keys.{key, further_key, more_keys, ordered, order_clause}
use Rattle.gx_parse_grammar.specs.Fronts.{rank}

module _ (at : ℕ → Place) (n : ℕ) (below : n < suc n) where
  abbrev Low : Phrase → Type 0
  Low A = HasRanksBelow (query_language at) rank (suc n) A

  key_low : Low (key at n)
  unfolding key key_order direction extreme
  key_low = (below, (((tt, tt), tt), (((tt, tt), (tt, tt)), tt)))

  more_keys_low : (k : ℕ) → Low (more_keys at n k)
  unfolding more_keys further_key
  more_keys_low zero = (((tt, tt), tt), tt)
  more_keys_low (suc k) = ((((tt, tt), key_low), more_keys_low k), tt)

  ordered_low : Low (ordered at n)
  unfolding ordered keyword
  ordered_low = ((tt, tt), ((tt, (tt, tt)), (key_low, more_keys_low 63)))

  pub order_clause_low : Low (order_clause at n)
  unfolding order_clause
  order_clause_low = (((tt, tt), ordered_low), (ordered_low, tt))
