use Rattle.std.specs.List.{filter}
use Rattle.gx_names_uses.specs.Reaching.{is_call}
use Rattle.gx_names_uses.specs.Searching.{Searches}
use Rattle.gx_names_uses.proofs.reaching.calls_are_settled.Given as goal

-- the search goes on
abbrev pub invariant-loop : goal.invariant-loop
invariant-loop l = record {
  search : Searches l.fn.names.variables l.fn.bodies (filter is_call l.fn.used.items) l.settled l.left.items;
}
