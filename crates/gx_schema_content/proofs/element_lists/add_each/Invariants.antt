use Rattle.std.proofs.Common.{◌≡◌, take}
use Rattle.gx_schema_content.specs.Elements.{with_particles}
use Rattle.gx_schema_content.proofs.element_lists.add_each.Given as goal

abbrev pub invariant-loop-element : goal.invariant-loop-element
invariant-loop-element l = l.elements ≡ with_particles l.initial.elements (take l.element-index l.copied)
