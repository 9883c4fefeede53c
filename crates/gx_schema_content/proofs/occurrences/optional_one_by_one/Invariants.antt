use Rattle.std.proofs.Common.{◌≡◌}
use Rattle.gx_schema_content.specs.Occurrences.{optional_copies}
use Rattle.gx_schema_content.proofs.occurrences.optional_one_by_one.Given as goal

abbrev pub invariant-loop : goal.invariant-loop
invariant-loop l = l.done ≡ optional_copies l.counter l.t
