use Rattle.std.proofs.Common.{◌≡◌, ◌++◌, length}
use Rattle.gx_schema_components.specs.DeclaredNames.{types_in}
use Rattle.gx_schema_components.specs.TypeComponents.{types_placed}
use Rattle.gx_schema_components.specs.ReferredView.{globals_in}
use Rattle.gx_schema_components.proofs.components.types_in.Given as goal

-- what is placed so far, and what is left
abbrev pub invariant-loop-document : goal.invariant-loop-document
invariant-loop-document l = record {
  groups_behind : (types_placed (globals_in l.globals) l.first l.groups.items (types_in l.left)).groups ≡ (types_placed (globals_in l.globals) l.first l.fn.groups.items (types_in l.fn.documents)).groups;
  items : l.types.items ++ (types_placed (globals_in l.globals) l.first l.groups.items (types_in l.left)).placed ≡ (types_placed (globals_in l.globals) l.first l.fn.groups.items (types_in l.fn.documents)).placed;
}

abbrev pub decreases-loop-document : goal.decreases-loop-document
decreases-loop-document l = length l.left
