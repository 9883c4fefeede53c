use Rattle.std.proofs.Common.{◌≡◌, ◌++◌, drop, map}
use Rattle.gx_schema_simple.specs.Forms.{followed_of}
use Rattle.gx_schema_simple.proofs.type_form.followed.Given as goal

abbrev pub invariant-loop-form : goal.invariant-loop-form
invariant-loop-form l = l.numbers.items ++ map followed_of (drop l.form-index l.forms) ≡ map followed_of l.forms
