use Rattle.std.proofs.Common.{◌≡◌, ◌++◌, length}
use Rattle.gx_schema_components.specs.GroupNumbers.{definitions_placed}
use Rattle.gx_schema_components.specs.ReferredView.{globals_in}
use Rattle.gx_schema_components.proofs.group_numbers.add_definitions.Given as goal

-- what is placed so far, and what is left
abbrev pub invariant-loop-declaration : goal.invariant-loop-declaration
invariant-loop-declaration l = record {
  groups_behind : (definitions_placed (globals_in l.globals) l.first l.groups.items l.left).groups ≡ (definitions_placed (globals_in l.globals) l.first l.fn.groups.items l.fn.declarations).groups;
  items : l.definitions.items ++ (definitions_placed (globals_in l.globals) l.first l.groups.items l.left).placed ≡ l.fn.definitions.items ++ (definitions_placed (globals_in l.globals) l.first l.fn.groups.items l.fn.declarations).placed;
}

abbrev pub decreases-loop-declaration : goal.decreases-loop-declaration
decreases-loop-declaration l = length l.left
