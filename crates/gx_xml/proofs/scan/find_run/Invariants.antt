use Rattle.std.proofs.Common.{◌≡◌, ◌≤◌, ◌+◌, length, take}
use Rattle.gx_xml.specs.Characters.{spelled}
use Rattle.gx_xml.specs.Runs.{walk_for}
use Rattle.gx_xml.proofs.RunLemmas.{Walked}
use Rattle.gx_xml.proofs.scan.find_run.Given as goal

abbrev pub invariant-loop-character : goal.invariant-loop-character
invariant-loop-character l = record {
  bounded : l.state ≤ 1114111;
  counted : l.count + length (spelled l.rest) ≡ length (spelled l.fn.text);
  walked : Walked (walk_for l.fn.run) l.fn.state (spelled l.fn.text) (take l.count (spelled l.fn.text)) l.state (spelled l.rest);
}

abbrev pub decreases-loop-character : goal.decreases-loop-character
decreases-loop-character l = length (spelled l.rest)
