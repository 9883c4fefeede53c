use Rattle.std.proofs.Common.{◌<◌, ◌↔◌, drop, length}
use Rattle.gx_types.specs.Takes.{Takes}
use Rattle.gx_include_takes.specs.Following.{AreOfType}
use Rattle.gx_include_takes.specs.Transitions.{places_at, AreTransitions, AreMasks}
use Rattle.gx_include_takes.proofs.PlaceSets.{ReadsOne}
use Rattle.gx_include_takes.proofs.take.takes_by_rows.Given as goal

-- one of the places of the state reads what is left exactly where the type takes the list
abbrev pub invariant-loop-shape : goal.invariant-loop-shape
invariant-loop-shape l = record {
  kept : AreTransitions l.t l.rows l.schemas l.transitions.states.keys l.transitions.targets;
  masks : AreMasks l.t l.schemas l.transitions.masks;
  known : l.state < length l.transitions.states.keys;
  within : AreOfType l.t (places_at l.transitions.states.keys l.state);
  reads : ReadsOne l.schemas l.t (places_at l.transitions.states.keys l.state) (drop l.shape-index l.list) ↔ Takes l.schemas l.t l.list;
}
