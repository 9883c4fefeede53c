use Rattle.std.proofs.Common.{◌≡◌, ◌++◌, length}
use Rattle.gx_schema_components.specs.DeclaredNames.{declarations_in}
use Rattle.gx_schema_components.specs.GroupNumbers.{definitions_placed}
use Rattle.gx_schema_components.specs.ReferredView.{globals_in}
use Rattle.gx_schema_components.proofs.components.definitions_in.Given as goal

-- what is placed so far, and what is left
abbrev pub invariant-loop-document : goal.invariant-loop-document
invariant-loop-document l = record {
  groups_behind : (definitions_placed (globals_in l.globals) l.first l.groups.items (declarations_in l.left)).groups ≡ (definitions_placed (globals_in l.globals) l.first l.fn.groups.items (declarations_in l.fn.documents)).groups;
  items : l.definitions.items ++ (definitions_placed (globals_in l.globals) l.first l.groups.items (declarations_in l.left)).placed ≡ (definitions_placed (globals_in l.globals) l.first l.fn.groups.items (declarations_in l.fn.documents)).placed;
}

abbrev pub decreases-loop-document : goal.decreases-loop-document
decreases-loop-document l = length l.left
