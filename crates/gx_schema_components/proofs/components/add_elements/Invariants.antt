use Rattle.std.proofs.Common.{◌≡◌, ◌++◌, length}
use Rattle.std.specs.List.{flat_map}
use Rattle.gx_schema_components.specs.Components.{declared_element}
use Rattle.gx_schema_components.specs.NamesView.{number_in_tables}
use Rattle.gx_schema_components.proofs.components.add_elements.Given as goal

-- those so far and those that are left
abbrev pub invariant-loop-declaration : goal.invariant-loop-declaration
invariant-loop-declaration l = l.elements.items ++ flat_map (declared_element (number_in_tables l.numbers) l.types) l.left ≡ l.fn.elements.items ++ flat_map (declared_element (number_in_tables l.numbers) l.types) l.fn.declarations

abbrev pub decreases-loop-declaration : goal.decreases-loop-declaration
decreases-loop-declaration l = length l.left
