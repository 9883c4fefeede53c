use Rattle.std.proofs.Common.{◌≡◌, ◌≤◌, ◌+◌, ◌-◌, ◌++◌, length, take}
use Rattle.gx_xml.specs.Characters.{spelled}
use Rattle.gx_xml.proofs.characters.Characters.up_to.Given as goal

abbrev pub invariant-loop-count : goal.invariant-loop-count
invariant-loop-count l = record {
  within : l.count ≤ l.most;
  counted : l.count + length (spelled l.rest) ≡ length (spelled l.fn.self);
  whole : spelled l.fn.self ≡ take l.count (spelled l.fn.self) ++ spelled l.rest;
}

abbrev pub decreases-loop-count : goal.decreases-loop-count
decreases-loop-count l = l.most - l.count
