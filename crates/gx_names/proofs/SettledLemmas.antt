-- What is settled before a declaration is settled behind it.
use Rattle.std.proofs.Common.{◌≡◌, Bool, true, false, ◌∷◌, Some, is_some, refl, if◌then◌else◌}
use Rattle.gx_base.specs.Name.{same_name}
use Rattle.gx_base.specs.declared.name.Name.{Name}
use Rattle.gx_base.specs.declared.place.Place.{Place}
use Rattle.gx_ast.specs.declared.query.DefinitionNode.{DefinitionNode}
use Rattle.gx_ast.specs.declared.query.DefinitionNode.TheVariants as definitions
use Rattle.gx_names_uses.specs.declared.uses.Use.{Use}
use Rattle.gx_names_uses.specs.declared.uses.Use.TheVariants as uses
use Rattle.gx_names_scope.specs.Environment.{Environment, Variables, binder_of, or_nameless, plain_name}
use Rattle.gx_names.specs.Refusals.{definition_scope}
use Rattle.gx_names_uses.specs.Reaching.{Bodies}
use Rattle.gx_names_uses.specs.Searching.{Settled, is_met, IsSettled}

in_more : (variables : Variables) (binder : Name × Place) (settled : Settled) (u : Use) → is_met variables settled u ≡ true → is_met (binder ∷ variables) settled u ≡ true
in_more variables binder settled (uses.Variable name) h = by (same_name binder.0 name)
  where
    by : (b : Bool) → is_some (if b then Some binder.1 else binder_of variables name) ≡ true
    by true = refl
    by false = h
in_more variables binder settled (uses.Function f) h = h

-- what is settled before a declaration is so behind it
pub settled_behind : (definition : DefinitionNode) (environment : Environment) (bodies : Bodies) (settled : Settled) → IsSettled environment.variables bodies settled
    → IsSettled (definition_scope definition environment).variables bodies settled
settled_behind (definitions.Variable binder kind initialiser) environment bodies settled h f s u c =
    in_more environment.variables (or_nameless (plain_name environment binder.name), binder.place) settled u (h f s u c)
settled_behind (definitions.Function name parameters result body) environment bodies settled h f s u c = h f s u c
