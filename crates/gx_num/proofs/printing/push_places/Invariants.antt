use Rattle.std.proofs.Common.{◌≡◌, ◌++◌, ◌<◌, ◌≤◌, ◌^◌}
use Rattle.std.specs.String.{string_bytes}
use Rattle.gx_num.specs.Printed.{places_text}
use Rattle.gx_num.proofs.printing.push_places.Given as goal

abbrev pub invariant-loop-rest : goal.invariant-loop-rest
invariant-loop-rest l = record {
  few : l.places ≤ 6;
  below : l.rest < 10 ^ l.places;
  written : string_bytes l.text ++ places_text l.places l.rest ≡ string_bytes l.initial.text ++ places_text 6 l.units;
}

abbrev pub decreases-loop-rest : goal.decreases-loop-rest
decreases-loop-rest l = l.places
