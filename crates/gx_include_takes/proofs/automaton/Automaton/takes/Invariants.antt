use Rattle.std.proofs.Common.{◌<◌, ◌↔◌, drop, length}
use Rattle.gx_types.specs.Takes.{Takes}
use Rattle.gx_include_takes.specs.Automaton.{set_at, IsAutomaton}
use Rattle.gx_include_positions.proofs.SetReads.{Reads}
use Rattle.gx_include_takes.proofs.automaton.Automaton.takes.Given as goal

-- the set of the state reads what is left exactly where the type takes the list
abbrev pub invariant-loop-shape : goal.invariant-loop-shape
invariant-loop-shape l = record {
  kept : IsAutomaton l.schemas l.t l.self.states.keys l.self.targets;
  known : l.state < length l.self.states.keys;
  reads : Reads l.schemas l.t (set_at l.self.states.keys l.state) (drop l.shape-index l.list) ↔ Takes l.schemas l.t l.list;
}
