-- What a search for uses in its midst comes to.
use Rattle.std.specs.Prelude.{List, [], ◌∷◌, ◌++◌}
use Rattle.gx_ast.specs.SyntaxView.{trees_of, bindings_of, clauses_of, keys_of, cases_of, attributes_of, attribute_parts_of, parts_of}
use Rattle.gx_names_scope.specs.declared.tasks.Rest.{Rest}
use Rattle.gx_names_scope.specs.declared.tasks.Task.{Task}
use Rattle.gx_names_scope.specs.declared.tasks.Task.TheVariants.{Tree, Trees, Clauses, Keys, Cases, Default, Bind, BindOptional, Unbind, UnbindOptional, Written, Target, Attributes, AttributeParts, Parts, LeaveTag, Close}
use Rattle.gx_names_uses.specs.declared.uses.Use.{Use}
use Rattle.gx_names_uses.specs.declared.uses.Using.{Using}
use Rattle.gx_names_scope.specs.Environment.{Environment, with_variable, with_optional, without_variable, without_optional}
use Rattle.gx_names_scope.specs.StartTags.{without_namespaces}
use Rattle.gx_names_uses.specs.Uses.{tree_uses, trees_uses, bindings_uses, clauses_uses, keys_uses, cases_uses, attributes_uses, attribute_parts_uses, parts_uses}

abbrev pub rest_uses : Environment → Rest → List Use
rest_uses environment rest =
    bindings_uses (bindings_of rest.bindings.now)
    (clauses_uses (clauses_of rest.clauses.now) (λ inner. keys_uses inner (keys_of rest.keys.now) ++ tree_uses inner rest.returned.now)) environment

-- what is used behind, and what names stand for in the end
abbrev pub uses_left : Environment → List Task → List Use
uses_left environment [] = []
uses_left environment (Tree tree ∷ tasks) = tree_uses environment tree.now ++ uses_left environment tasks
uses_left environment (Trees trees ∷ tasks) = trees_uses environment (trees_of trees.now) ++ uses_left environment tasks
uses_left environment (Clauses rest ∷ tasks) = rest_uses environment rest ++ uses_left environment tasks
uses_left environment (Keys keys ∷ tasks) = keys_uses environment (keys_of keys.now) ++ uses_left environment tasks
uses_left environment (Cases cases ∷ tasks) = cases_uses environment (cases_of cases.now) ++ uses_left environment tasks
uses_left environment (Default heading otherwise ∷ tasks) =
    tree_uses (with_optional heading.now.variable environment) otherwise.now ++ uses_left environment tasks
uses_left environment (Bind binder ∷ tasks) = uses_left (with_variable binder.now environment) tasks
uses_left environment (BindOptional binder ∷ tasks) = uses_left (with_optional binder.now environment) tasks
uses_left environment (Unbind ∷ tasks) = uses_left (without_variable environment) tasks
uses_left environment (UnbindOptional binder ∷ tasks) = uses_left (without_optional binder.now environment) tasks
uses_left environment (Written kind ∷ tasks) = uses_left environment tasks
uses_left environment (Target target ∷ tasks) = uses_left environment tasks
uses_left environment (Attributes attributes ∷ tasks) = attributes_uses environment (attributes_of attributes.now) ++ uses_left environment tasks
uses_left environment (AttributeParts value place ∷ tasks) = attribute_parts_uses environment (attribute_parts_of value.now) ++ uses_left environment tasks
uses_left environment (Parts content place ∷ tasks) = parts_uses environment (parts_of content.now) ++ uses_left environment tasks
uses_left environment (LeaveTag attributes ∷ tasks) = uses_left (without_namespaces (attributes_of attributes.now) environment) tasks
uses_left environment (Close ∷ tasks) = uses_left environment tasks

-- what names stand for behind all tasks
abbrev pub scope_left : Environment → List Task → Environment
scope_left environment [] = environment
scope_left environment (Bind binder ∷ tasks) = scope_left (with_variable binder.now environment) tasks
scope_left environment (BindOptional binder ∷ tasks) = scope_left (with_optional binder.now environment) tasks
scope_left environment (Unbind ∷ tasks) = scope_left (without_variable environment) tasks
scope_left environment (UnbindOptional binder ∷ tasks) = scope_left (without_optional binder.now environment) tasks
scope_left environment (LeaveTag attributes ∷ tasks) = scope_left (without_namespaces (attributes_of attributes.now) environment) tasks
scope_left environment (_ ∷ tasks) = scope_left environment tasks

abbrev pub uses_of_rest : Using → List Use
uses_of_rest u = u.uses.items ++ uses_left u.names u.tasks

abbrev pub uses_with : Task → Using → List Use
uses_with task u = u.uses.items ++ uses_left u.names (task ∷ u.tasks)

abbrev pub scope_of_rest : Using → Environment
scope_of_rest u = scope_left u.names u.tasks

abbrev pub scope_with : Task → Using → Environment
scope_with task u = scope_left u.names (task ∷ u.tasks)
