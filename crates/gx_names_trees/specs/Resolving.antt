-- What a resolution in its midst comes to: the refusals that are left, and the trees.
use Rattle.std.specs.Prelude.{List, [], ◌∷◌, ◌++◌, drop, unwrap_or}
use Rattle.gx_ast.specs.declared.expression.Binding.{Binding}
use Rattle.gx_ast.specs.declared.expression.DirectAttribute.{DirectAttribute}
use Rattle.gx_ast.specs.SyntaxView.{trees_of, bindings_of, clauses_of, keys_of, cases_of, attributes_of, attribute_parts_of, parts_of}
use Rattle.gx_names_scope.specs.declared.refusal.Refusal.{Refusal}
use Rattle.gx_names_scope.specs.declared.tasks.Rest.{Rest}
use Rattle.gx_names_scope.specs.declared.tasks.Task.{Task}
use Rattle.gx_names_scope.specs.declared.tasks.Task.TheVariants.{Tree, Trees, Clauses, Keys, Cases, Default, Bind, BindOptional, Unbind, UnbindOptional, Written, Target, Attributes, AttributeParts, Parts, LeaveTag, Close}
use Rattle.gx_names_trees.specs.declared.resolving.Resolving.{Resolving}
use Rattle.gx_resolved.specs.ResolvedTree.{ResolvedTree, ResolvedTrees, resolved_at, no_resolved, a_resolved, one_resolved, and_parts}
use Rattle.gx_names_scope.specs.Environment.{Environment, with_variable, with_optional, without_variable, without_optional, with_bound}
use Rattle.gx_names_types.specs.TypeNames.{type_refusals, target_refusals}
use Rattle.gx_base.specs.Stacked.{first}
use Rattle.gx_names_scope.specs.StartTags.{without_namespaces}
use Rattle.gx_names_trees.specs.TreeRefusals.{AttributeNames, bound_refusals, tree_refusals, trees_refusals, bindings_refusals, clauses_refusals, keys_refusals, cases_refusals, default_refusals, attribute_names_with, direct_attribute_refusals, attributes_refusals, attribute_parts_refusals, parts_refusals}
use Rattle.gx_names_trees.specs.TreeResolution.{bound_resolved, tree_resolved, trees_resolved, bindings_resolved, clauses_resolved, keys_resolved, cases_resolved, default_resolved, attributes_resolved, attribute_parts_resolved, parts_resolved}

-- ---- trees in the making, the innermost first: what is finished becomes the last part of the tree around it

abbrev pub and_part : ResolvedTrees → ResolvedTree → ResolvedTrees
and_part no_resolved tree = a_resolved tree no_resolved
and_part (a_resolved first others) tree = a_resolved first (and_part others tree)

abbrev pub with_part : ResolvedTree → ResolvedTree → ResolvedTree
with_part (resolved_at place construct parts) tree = resolved_at place construct (and_part parts tree)

abbrev pub adopted : ResolvedTree → List ResolvedTree → List ResolvedTree
adopted tree [] = tree ∷ []
adopted tree (around ∷ outer) = with_part around tree ∷ outer

abbrev pub all_adopted : ResolvedTrees → List ResolvedTree → List ResolvedTree
all_adopted no_resolved unfinished = unfinished
all_adopted (a_resolved first others) unfinished = all_adopted others (adopted first unfinished)

abbrev pub closed : List ResolvedTree → List ResolvedTree
closed [] = []
closed (tree ∷ outer) = adopted tree outer

-- ---- what is left to do

-- the bindings, clauses and keys that are left, and what is returned
abbrev pub rest_refusals : Environment → Rest → List Refusal
rest_refusals environment rest =
    bindings_refusals (bindings_of rest.bindings.now)
    (clauses_refusals (clauses_of rest.clauses.now) (λ inner. keys_refusals inner (keys_of rest.keys.now) ++ tree_refusals inner rest.returned.now)) environment

abbrev pub rest_resolved : Environment → Rest → ResolvedTrees
rest_resolved environment rest =
    bindings_resolved rest.word (bindings_of rest.bindings.now)
    (clauses_resolved (clauses_of rest.clauses.now)
    (λ inner. and_parts (keys_resolved inner (keys_of rest.keys.now)) (one_resolved (tree_resolved inner rest.returned.now)))) environment

-- a binding, and what follows it
abbrev pub bound_rest_refusals : Environment → Binding → Rest → List Refusal
bound_rest_refusals environment first rest =
    bound_refusals environment first.bound ++ (tree_refusals environment first.value ++ rest_refusals (with_bound first.bound environment) rest)

abbrev pub bound_rest_resolved : Environment → Binding → Rest → ResolvedTrees
bound_rest_resolved environment first rest =
    a_resolved (resolved_at first.bound.variable.place (bound_resolved environment rest.word first.bound) (one_resolved (tree_resolved environment first.value)))
    (rest_resolved (with_bound first.bound environment) rest)

-- the attributes of the innermost open start tag
abbrev pub innermost_tag : List AttributeNames → AttributeNames
innermost_tag tags = unwrap_or (first tags) []

abbrev pub refusals_left : Environment → (tags : List AttributeNames) → List Task → List Refusal
refusals_left environment tags [] = []
refusals_left environment tags (Tree tree ∷ tasks) = tree_refusals environment tree.now ++ refusals_left environment tags tasks
refusals_left environment tags (Trees trees ∷ tasks) = trees_refusals environment (trees_of trees.now) ++ refusals_left environment tags tasks
refusals_left environment tags (Clauses rest ∷ tasks) = rest_refusals environment rest ++ refusals_left environment tags tasks
refusals_left environment tags (Keys keys ∷ tasks) = keys_refusals environment (keys_of keys.now) ++ refusals_left environment tags tasks
refusals_left environment tags (Cases cases ∷ tasks) = cases_refusals environment (cases_of cases.now) ++ refusals_left environment tags tasks
refusals_left environment tags (Default heading otherwise ∷ tasks) = default_refusals environment heading.now otherwise.now ++ refusals_left environment tags tasks
refusals_left environment tags (Bind binder ∷ tasks) = refusals_left (with_variable binder.now environment) tags tasks
refusals_left environment tags (BindOptional binder ∷ tasks) = refusals_left (with_optional binder.now environment) tags tasks
refusals_left environment tags (Unbind ∷ tasks) = refusals_left (without_variable environment) tags tasks
refusals_left environment tags (UnbindOptional binder ∷ tasks) = refusals_left (without_optional binder.now environment) tags tasks
refusals_left environment tags (Written kind ∷ tasks) = type_refusals environment kind.now ++ refusals_left environment tags tasks
refusals_left environment tags (Target target ∷ tasks) = target_refusals environment target.now ++ refusals_left environment tags tasks
refusals_left environment tags (Attributes attributes ∷ tasks) =
    attributes_refusals environment (innermost_tag tags) (attributes_of attributes.now) ++ refusals_left environment (drop 1 tags) tasks
refusals_left environment tags (AttributeParts value place ∷ tasks) = attribute_parts_refusals environment (attribute_parts_of value.now) ++ refusals_left environment tags tasks
refusals_left environment tags (Parts content place ∷ tasks) = parts_refusals environment (parts_of content.now) ++ refusals_left environment tags tasks
refusals_left environment tags (LeaveTag attributes ∷ tasks) = refusals_left (without_namespaces (attributes_of attributes.now) environment) tags tasks
refusals_left environment tags (Close ∷ tasks) = refusals_left environment tags tasks

-- the trees, and what names stand for behind them
abbrev pub trees_left : Environment → List Task → List ResolvedTree → List ResolvedTree × Environment
trees_left environment [] unfinished = (unfinished, environment)
trees_left environment (Tree tree ∷ tasks) unfinished = trees_left environment tasks (adopted (tree_resolved environment tree.now) unfinished)
trees_left environment (Trees trees ∷ tasks) unfinished = trees_left environment tasks (all_adopted (trees_resolved environment (trees_of trees.now)) unfinished)
trees_left environment (Clauses rest ∷ tasks) unfinished = trees_left environment tasks (all_adopted (rest_resolved environment rest) unfinished)
trees_left environment (Keys keys ∷ tasks) unfinished = trees_left environment tasks (all_adopted (keys_resolved environment (keys_of keys.now)) unfinished)
trees_left environment (Cases cases ∷ tasks) unfinished = trees_left environment tasks (all_adopted (cases_resolved environment (cases_of cases.now)) unfinished)
trees_left environment (Default heading otherwise ∷ tasks) unfinished = trees_left environment tasks (adopted (default_resolved environment heading.now otherwise.now) unfinished)
trees_left environment (Bind binder ∷ tasks) unfinished = trees_left (with_variable binder.now environment) tasks unfinished
trees_left environment (BindOptional binder ∷ tasks) unfinished = trees_left (with_optional binder.now environment) tasks unfinished
trees_left environment (Unbind ∷ tasks) unfinished = trees_left (without_variable environment) tasks unfinished
trees_left environment (UnbindOptional binder ∷ tasks) unfinished = trees_left (without_optional binder.now environment) tasks unfinished
trees_left environment (Written kind ∷ tasks) unfinished = trees_left environment tasks unfinished
trees_left environment (Target target ∷ tasks) unfinished = trees_left environment tasks unfinished
trees_left environment (Attributes attributes ∷ tasks) unfinished = trees_left environment tasks (all_adopted (attributes_resolved environment (attributes_of attributes.now)) unfinished)
trees_left environment (AttributeParts value place ∷ tasks) unfinished = trees_left environment tasks (all_adopted (attribute_parts_resolved environment place (attribute_parts_of value.now)) unfinished)
trees_left environment (Parts content place ∷ tasks) unfinished = trees_left environment tasks (all_adopted (parts_resolved environment place (parts_of content.now)) unfinished)
trees_left environment (LeaveTag attributes ∷ tasks) unfinished = trees_left (without_namespaces (attributes_of attributes.now) environment) tasks unfinished
trees_left environment (Close ∷ tasks) unfinished = trees_left environment tasks (closed unfinished)

abbrev pub refusals_of_rest : Resolving → List Refusal
refusals_of_rest r = refusals_left r.names r.tags r.tasks

-- with an attribute of the innermost start tag in front
abbrev pub attribute_left_refusals : DirectAttribute → Resolving → List Refusal
attribute_left_refusals attribute r =
    direct_attribute_refusals r.names (innermost_tag r.tags) attribute.name
    ++ (attribute_parts_refusals r.names (attribute_parts_of attribute.value.items)
    ++ refusals_left r.names (attribute_names_with r.names attribute.name (innermost_tag r.tags) ∷ drop 1 r.tags) r.tasks)

abbrev pub refusals_with : Task → Resolving → List Refusal
refusals_with task r = refusals_left r.names r.tags (task ∷ r.tasks)

abbrev pub trees_of_rest : Resolving → List ResolvedTree × Environment
trees_of_rest r = trees_left r.names r.tasks r.unfinished

abbrev pub trees_with : Task → Resolving → List ResolvedTree × Environment
trees_with task r = trees_left r.names (task ∷ r.tasks) r.unfinished

-- with a tree that is finished
abbrev pub trees_behind : ResolvedTree → Resolving → List ResolvedTree × Environment
trees_behind tree r = trees_left r.names r.tasks (adopted tree r.unfinished)
