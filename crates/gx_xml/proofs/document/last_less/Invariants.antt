use Rattle.std.proofs.Common.{◌≡◌, ◌≤◌, drop}
use Rattle.gx_xml.specs.Reading.{last_less_from}
use Rattle.gx_xml.proofs.document.last_less.Given as goal

abbrev pub invariant-loop-i : goal.invariant-loop-i
invariant-loop-i l = record {
  rest : last_less_from l.found l.i (drop l.i l.front) ≡ last_less_from 0 0 l.front;
  within : l.found ≤ l.i;
}
