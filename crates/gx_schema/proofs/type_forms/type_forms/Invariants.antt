use Rattle.std.proofs.Common.{◌≡◌, ◌++◌, length}
use Rattle.gx_schema.specs.TypeForms.{forms_of}
use Rattle.gx_schema.proofs.type_forms.type_forms.Given as goal

-- those so far and those that are left
abbrev pub invariant-loop-component : goal.invariant-loop-component
invariant-loop-component l = l.forms.items ++ forms_of l.left ≡ forms_of l.fn.types

abbrev pub decreases-loop-component : goal.decreases-loop-component
decreases-loop-component l = length l.left
