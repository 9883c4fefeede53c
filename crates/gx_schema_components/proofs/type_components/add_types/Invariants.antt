use Rattle.std.proofs.Common.{◌≡◌, ◌++◌, length}
use Rattle.gx_schema_components.specs.TypeComponents.{types_placed}
use Rattle.gx_schema_components.specs.ReferredView.{globals_in}
use Rattle.gx_schema_components.proofs.type_components.add_types.Given as goal

-- what is placed so far, and what is left
abbrev pub invariant-loop-declaration : goal.invariant-loop-declaration
invariant-loop-declaration l = record {
  groups_behind : (types_placed (globals_in l.globals) l.first l.groups.items l.left).groups ≡ (types_placed (globals_in l.globals) l.first l.fn.groups.items l.fn.declarations).groups;
  items : l.types.items ++ (types_placed (globals_in l.globals) l.first l.groups.items l.left).placed ≡ l.fn.types.items ++ (types_placed (globals_in l.globals) l.first l.fn.groups.items l.fn.declarations).placed;
}

abbrev pub decreases-loop-declaration : goal.decreases-loop-declaration
decreases-loop-declaration l = length l.left
