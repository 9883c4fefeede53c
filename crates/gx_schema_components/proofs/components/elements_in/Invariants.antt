use Rattle.std.proofs.Common.{◌≡◌, ◌++◌, length}
use Rattle.std.specs.List.{flat_map}
use Rattle.gx_schema_components.specs.Components.{declared_element}
use Rattle.gx_schema_components.specs.DeclaredNames.{declarations_in}
use Rattle.gx_schema_components.specs.NamesView.{number_in_tables}
use Rattle.gx_schema_components.proofs.components.elements_in.Given as goal

-- those so far and those that are left
abbrev pub invariant-loop-document : goal.invariant-loop-document
invariant-loop-document l = l.elements.items ++ flat_map (declared_element (number_in_tables l.numbers) l.types) (declarations_in l.left) ≡ flat_map (declared_element (number_in_tables l.numbers) l.types) (declarations_in l.fn.documents)

abbrev pub decreases-loop-document : goal.decreases-loop-document
decreases-loop-document l = length l.left
