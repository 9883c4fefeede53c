-- Variables that a binding takes away again.
use Rattle.std.proofs.Common.{◌≡◌, Option, Some, None, refl, ap}
use Rattle.gx_ast.specs.declared.name.Variable.{Variable}
use Rattle.gx_ast.specs.declared.sequence_type.BoundVariable.{BoundVariable}
use Rattle.gx_names_scope.specs.Environment.{Environment, with_variable, with_optional, without_variable, without_optional}

pub unbound_again : (binder : Option Variable) (environment : Environment) → without_optional binder (with_optional binder environment) ≡ environment
unbound_again None environment = refl
unbound_again (Some binder) environment = refl

pub binding_gone : (bound : BoundVariable) (environment : Environment)
    → without_variable (without_optional bound.position (with_optional bound.position (with_variable bound.variable environment))) ≡ environment
binding_gone bound environment = ap without_variable (unbound_again bound.position (with_variable bound.variable environment))
