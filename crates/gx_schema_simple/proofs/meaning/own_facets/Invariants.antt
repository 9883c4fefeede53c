use Rattle.std.proofs.Common.{◌≡◌, ◌++◌, drop, map}
use Rattle.gx_references.specs.Known.{known}
use Rattle.gx_schema_simple.specs.Meanings.{own_facets_over}
use Rattle.gx_schema_simple.specs.declared.variety.TypeVariety.TheVariants.{Hidden}
use Rattle.gx_schema_simple.proofs.meaning.own_facets.Given as goal

abbrev pub invariant-loop-form : goal.invariant-loop-form
invariant-loop-form l = l.own.items ++ map (own_facets_over (known Hidden l.varieties)) (drop l.form-index l.forms) ≡ map (own_facets_over (known Hidden l.varieties)) l.forms
