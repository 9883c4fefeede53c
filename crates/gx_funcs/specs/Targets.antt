-- A text whose characters are taken one by one.
use Rattle.std.specs.Prelude.{ℕ, Bool, true, false, List, []}

-- what is left of it, unless it has ended
abbrev pub unless_ended : Bool → List ℕ → List ℕ
unless_ended true characters = []
unless_ended false characters = characters
