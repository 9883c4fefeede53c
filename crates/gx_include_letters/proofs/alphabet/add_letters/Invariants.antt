use Rattle.std.proofs.Common.{take}
use Rattle.gx_include_followers.specs.NumberSet.{flagged}
use Rattle.gx_include_letters.specs.Alphabet.{AreColumnsMore}
use Rattle.gx_include_letters.proofs.Columns.{entries_of_members}
use Rattle.gx_include_letters.proofs.alphabet.add_letters.Given as goal

-- the entries of the members so far
abbrev pub invariant-loop-place : goal.invariant-loop-place
invariant-loop-place l = AreColumnsMore l.fn.columns.items l.columns.items (entries_of_members l.shape l.takers (take l.place-index (flagged l.taking)))
