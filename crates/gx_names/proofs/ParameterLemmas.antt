-- Parameters leave no trace behind their function.
use Rattle.std.proofs.Common.{◌≡◌, List, [], ◌∷◌, refl, ap, ◌∙◌}
use Rattle.gx_ast.specs.declared.query.Parameter.{Parameter}
use Rattle.gx_names_scope.specs.Environment.{Environment, with_variable, without_variable}
use Rattle.gx_names.specs.Refusals.{with_parameters, without_parameters}

one_more_gone : (parameters : List Parameter) (environment : Environment)
    → without_parameters parameters (without_variable environment) ≡ without_variable (without_parameters parameters environment)
one_more_gone [] environment = refl
one_more_gone (p ∷ ps) environment = one_more_gone ps (without_variable environment)

pub parameters_gone : (parameters : List Parameter) (environment : Environment) → without_parameters parameters (with_parameters parameters environment) ≡ environment
parameters_gone [] environment = refl
parameters_gone (p ∷ ps) environment =
    one_more_gone ps (with_parameters ps (with_variable p.variable environment))
    ∙ ap without_variable (parameters_gone ps (with_variable p.variable environment))
