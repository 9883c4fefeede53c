-- Start tags leave no trace behind their element.
use Rattle.std.proofs.Common.{◌≡◌, List, ℕ, Option, Some, None, refl, ap, ◌∙◌}
use Rattle.gx_ast.specs.SyntaxTree.{Attributes, AttributeParts, no_attribute, an_attribute}
use Rattle.gx_names_scope.specs.Environment.{Environment}
use Rattle.gx_names_scope.specs.StartTags.{declared_prefix, with_namespace, with_namespaces, without_namespace, without_namespaces}

one_gone : (prefix : Option (List ℕ)) (value : AttributeParts) (environment : Environment) → without_namespace prefix (with_namespace prefix value environment) ≡ environment
one_gone None value environment = refl
one_gone (Some prefix) value environment = refl

two_gone : (first second : Option (List ℕ)) (environment : Environment)
    → without_namespace first (without_namespace second environment) ≡ without_namespace second (without_namespace first environment)
two_gone None None environment = refl
two_gone None (Some q) environment = refl
two_gone (Some p) None environment = refl
two_gone (Some p) (Some q) environment = refl

one_more_gone : (attributes : Attributes) (prefix : Option (List ℕ)) (environment : Environment)
    → without_namespaces attributes (without_namespace prefix environment) ≡ without_namespace prefix (without_namespaces attributes environment)
one_more_gone no_attribute prefix environment = refl
one_more_gone (an_attribute name value others) prefix environment =
    ap (without_namespaces others) (two_gone (declared_prefix name) prefix environment)
    ∙ one_more_gone others prefix (without_namespace (declared_prefix name) environment)

pub namespaces_gone : (attributes : Attributes) (environment : Environment) → without_namespaces attributes (with_namespaces attributes environment) ≡ environment
namespaces_gone no_attribute environment = refl
namespaces_gone (an_attribute name value others) environment =
    let inner : Environment = with_namespace (declared_prefix name) value environment in
    one_more_gone others (declared_prefix name) (with_namespaces others inner)
    ∙ ap (without_namespace (declared_prefix name)) (namespaces_gone others inner)
    ∙ one_gone (declared_prefix name) value environment
