-- What is known of a walk over pairs: the pairs that are found and their origins.
use Rattle.std.specs.Prelude.{ℕ, Bool, List, length}
use Rattle.gx_types.specs.SequenceType.{SequenceType}
use Rattle.gx_include_letters.specs.declared.letter.Letter.{Letter}
use Rattle.gx_include.specs.declared.walk.Origin.{Origin}
use Rattle.gx_include.specs.Pairs.{start_pair, pair_step}
use Rattle.gx_include.specs.Origins.{AreRuns}
use Rattle.gx_include.specs.Walk.{Walked}

-- all letters of the first pairs were looked at, and of the pair behind them the letters below a bound
pub record Traced (a b : SequenceType) (letters : List Letter) (pairs : List (ℕ × List Bool)) (origins : List Origin) (at bound : ℕ) : Type 0 where
  pub runs : List (List ℕ)
  pub are : AreRuns origins runs
  pub walked : Walked (pair_step a b letters) start_pair pairs runs (length letters) at bound
