use Rattle.std.proofs.Common.{◌≡◌, ◌∷◌, ◌++◌, length}
use Rattle.gx_grammar.specs.Tokens.{run_of, behind_run}
use Rattle.gx_typetext.specs.Letters.{goes}
use Rattle.gx_typetext.proofs.scan.run_from.Given as goal

abbrev pub invariant-loop-rest : goal.invariant-loop-rest
invariant-loop-rest l = record {
  read : l.letters ++ run_of (goes l.fn.run) l.rest ≡ l.fn.first ∷ run_of (goes l.fn.run) l.fn.text;
  left : behind_run (goes l.fn.run) l.rest ≡ behind_run (goes l.fn.run) l.fn.text;
}

abbrev pub decreases-loop-rest : goal.decreases-loop-rest
decreases-loop-rest l = length l.rest
