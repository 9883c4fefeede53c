-- Uses in front of others.
use Rattle.std.proofs.Common.{◌≡◌, ℕ, List, [], ◌∷◌, ◌++◌, length, refl, sym, ap, ◌∙◌, append_assoc}
use Rattle.gx_ast.specs.declared.name.QName.{QName}
use Rattle.gx_ast.specs.SyntaxTree.{SyntaxTree, Attributes, Parts}
use Rattle.gx_ast.specs.SyntaxView.{trees_of}
use Rattle.gx_names_uses.specs.declared.uses.Use.{Use}
use Rattle.gx_names_scope.specs.declared.tasks.Task.{Task}
use Rattle.gx_names_scope.specs.Environment.{Environment, called_name}
use Rattle.gx_names_scope.specs.StartTags.{with_namespaces, without_namespaces}
use Rattle.gx_names_scope.specs.TreeCounts.{count_trees}
use Rattle.gx_names_uses.specs.Uses.{function_used, trees_uses, attributes_uses, parts_uses}
use Rattle.gx_names_uses.specs.Using.{uses_left}
use Rattle.gx_names_scope.proofs.CountLemmas.{counted}
use Rattle.gx_names_scope.proofs.StartTagLemmas.{namespaces_gone}

pub no_more_uses : (uses : List Use) → uses ++ [] ≡ uses
no_more_uses [] = refl
no_more_uses (u ∷ us) = ap (λ (others : List Use). u ∷ others) (no_more_uses us)

pub one_more_use : (uses : List Use) (use' : Use) (more : List Use) → (uses ++ use' ∷ []) ++ more ≡ uses ++ (use' ∷ more)
one_more_use [] use' more = refl
one_more_use (u ∷ us) use' more = ap (λ (others : List Use). u ∷ others) (one_more_use us use' more)

pub all_called : (environment : Environment) (name : QName) (arguments : List SyntaxTree) (uses more : List Use)
    → (uses ++ function_used (called_name environment name) (length arguments)) ++ (trees_uses environment (trees_of arguments) ++ more)
    ≡ uses ++ ((function_used (called_name environment name) (count_trees (trees_of arguments)) ++ trees_uses environment (trees_of arguments)) ++ more)
all_called environment name arguments uses more =
    append_assoc uses (function_used (called_name environment name) (length arguments)) (trees_uses environment (trees_of arguments) ++ more)
    ∙ ap (λ (rest : List Use). uses ++ rest)
    (sym (append_assoc (function_used (called_name environment name) (length arguments)) (trees_uses environment (trees_of arguments)) more)
    ∙ ap (λ (n : ℕ). (function_used (called_name environment name) n ++ trees_uses environment (trees_of arguments)) ++ more) (sym (counted arguments)))

pub element_used : (uses : List Use) (attributes : Attributes) (content : Parts) (environment : Environment) (tasks : List Task)
    → uses ++ (attributes_uses (with_namespaces attributes environment) attributes
    ++ (parts_uses (with_namespaces attributes environment) content ++ uses_left (without_namespaces attributes (with_namespaces attributes environment)) tasks))
    ≡ uses ++ ((attributes_uses (with_namespaces attributes environment) attributes ++ parts_uses (with_namespaces attributes environment) content) ++ uses_left environment tasks)
element_used uses attributes content environment tasks =
    let inside : List Use = attributes_uses (with_namespaces attributes environment) attributes in
    let within : List Use = parts_uses (with_namespaces attributes environment) content in
    ap (λ (outer : Environment). uses ++ (inside ++ (within ++ uses_left outer tasks))) (namespaces_gone attributes environment)
    ∙ ap (λ (rest : List Use). uses ++ rest) (sym (append_assoc inside within (uses_left environment tasks)))
