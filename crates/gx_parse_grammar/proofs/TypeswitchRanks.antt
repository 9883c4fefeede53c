-- The expressions in a typeswitch are of lower ranks.
use Rattle.std.proofs.Common.{ℕ, zero, suc, ◌<◌}
use Rattle.gx_base.specs.declared.place.Place.{Place}
use Rattle.gx_grammar.specs.Levels.{HasRanksBelow}
use Rattle.gx_parse_grammar.specs.Grammar.{Phrase, keyword, query_language}
use Rattle.gx_parse_grammar.specs.Bound.{case_variable, default_variable}
use Rattle.gx_parse_grammar.specs.Typeswitch.{case_head, case, more_cases, cases, default_head}
use Rattle.gx_parse_grammar.specs.Fronts.{rank}
use Rattle.gx_parse_grammar.proofs.CastsRanks.{sequence_low}
use Rattle.gx_parse_grammar.proofs.BindingRanks.{bound_low}

module _ (at : ℕ → Place) (n : ℕ) (below : n < suc n) where
  abbrev Low : Phrase → Type 0
  Low A = HasRanksBelow (query_language at) rank (suc n) A

  case_head_low : Low (case_head at)
  unfolding case_head keyword case_variable
  case_head_low = ((tt, tt), (((bound_low at n below, (tt, tt)), tt), (sequence_low at (suc n), (tt, (tt, tt)))))

  case_low : Low (case at n)
  unfolding case
  case_low = (case_head_low, below)

  more_cases_low : (k : ℕ) → Low (more_cases at n k)
  unfolding more_cases
  more_cases_low zero = (tt, tt)
  more_cases_low (suc k) = ((case_low, more_cases_low k), tt)

  pub cases_low : Low (cases at n)
  unfolding cases
  cases_low = (case_low, more_cases_low 63)

  pub default_head_low : Low (default_head at)
  unfolding default_head keyword default_variable
  default_head_low = ((tt, tt), ((bound_low at n below, tt), (tt, (tt, tt))))
