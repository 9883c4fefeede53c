use Rattle.std.proofs.Common.{◌≡◌, length}
use Rattle.gx_types.specs.SchemaSet.{type_of_element}
use Rattle.gx_types.proofs.schemas.global_element.Given as goal

-- the element is in what is left as it is in the whole
abbrev pub invariant-loop-element : goal.invariant-loop-element
invariant-loop-element l = type_of_element l.rest l.name ≡ type_of_element l.elements l.name

abbrev pub decreases-loop-element : goal.decreases-loop-element
decreases-loop-element l = length l.rest
