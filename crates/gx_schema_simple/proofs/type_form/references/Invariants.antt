use Rattle.std.proofs.Common.{◌≡◌, ◌++◌, drop, map}
use Rattle.gx_schema_simple.specs.Forms.{reference_of}
use Rattle.gx_schema_simple.proofs.type_form.references.Given as goal

abbrev pub invariant-loop-form : goal.invariant-loop-form
invariant-loop-form l = l.numbers.items ++ map reference_of (drop l.form-index l.forms) ≡ map reference_of l.forms
