-- An element has its attributes and then its content.
use Rattle.std.proofs.Common.{◌≡◌, List, [], ◌∷◌, ◌++◌, ℕ, refl, sym, ap, ◌∙◌, append_assoc}
use Rattle.gx_base.specs.declared.place.Place.{Place}
use Rattle.gx_ast.specs.SyntaxTree.{Attributes, Parts}
use Rattle.gx_names_scope.specs.declared.refusal.Refusal.{Refusal}
use Rattle.gx_resolved.specs.declared.tree.Construct.{Construct}
use Rattle.gx_names_scope.specs.Environment.{Environment}
use Rattle.gx_resolved.specs.ResolvedTree.{ResolvedTree, ResolvedTrees, resolved_at, no_resolved, a_resolved, and_parts}
use Rattle.gx_names_scope.specs.declared.tasks.Task.{Task}
use Rattle.gx_names_trees.specs.TreeRefusals.{AttributeNames, attributes_refusals, parts_refusals}
use Rattle.gx_names_trees.specs.Resolving.{refusals_left, adopted, all_adopted, closed}
use Rattle.gx_names_scope.specs.StartTags.{with_namespaces, without_namespaces}
use Rattle.gx_names_scope.proofs.StartTagLemmas.{namespaces_gone}
use Rattle.gx_names_trees.proofs.ResolvingLemmas.{all_closed}

-- ---- refusals

-- where nothing is refused of the declarations and the name
pub nothing_in_front : (declarations name inside : List Refusal) → declarations ++ name ≡ [] → declarations ++ (name ++ inside) ≡ inside
nothing_in_front [] [] inside h = refl
nothing_in_front [] (r ∷ rs) inside h = absurd (cc)
nothing_in_front (r ∷ rs) name inside h = absurd (cc)

-- the attributes and the content are left, and the outer namespaces behind them
pub element_left : (declarations name : List Refusal) → declarations ++ name ≡ [] → (attributes : Attributes) (content : Parts) (environment : Environment) (tags : List AttributeNames) (tasks : List Task)
    → attributes_refusals (with_namespaces attributes environment) [] attributes
    ++ (parts_refusals (with_namespaces attributes environment) content ++ refusals_left (without_namespaces attributes (with_namespaces attributes environment)) tags tasks)
    ≡ (declarations ++ (name ++ (attributes_refusals (with_namespaces attributes environment) [] attributes ++ parts_refusals (with_namespaces attributes environment) content)))
    ++ refusals_left environment tags tasks
element_left declarations name h attributes content environment tags tasks =
    let inside : List Refusal = attributes_refusals (with_namespaces attributes environment) [] attributes in
    let within : List Refusal = parts_refusals (with_namespaces attributes environment) content in
    ap (λ (outer : Environment). inside ++ (within ++ refusals_left outer tags tasks)) (namespaces_gone attributes environment)
    ∙ sym (append_assoc inside within (refusals_left environment tags tasks))
    ∙ ap (λ (refusals : List Refusal). refusals ++ refusals_left environment tags tasks) (sym (nothing_in_front declarations name (inside ++ within) h))

-- ---- parts

both_adopted : (first second : ResolvedTrees) (unfinished : List ResolvedTree) → all_adopted second (all_adopted first unfinished) ≡ all_adopted (and_parts first second) unfinished
both_adopted no_resolved second unfinished = refl
both_adopted (a_resolved tree others) second unfinished = both_adopted others second (adopted tree unfinished)

pub attribute_closed : (value : ResolvedTrees) (place : Place) (construct : Construct) (outer : List ResolvedTree)
    → closed (all_adopted value (resolved_at place construct no_resolved ∷ outer)) ≡ adopted (resolved_at place construct value) outer
attribute_closed value place construct outer = all_closed value place construct outer

pub element_closed : (attributes content : ResolvedTrees) (place : Place) (construct : Construct) (outer : List ResolvedTree)
    → closed (all_adopted content (all_adopted attributes (resolved_at place construct no_resolved ∷ outer))) ≡ adopted (resolved_at place construct (and_parts attributes content)) outer
element_closed attributes content place construct outer =
    ap closed (both_adopted attributes content (resolved_at place construct no_resolved ∷ outer)) ∙ all_closed (and_parts attributes content) place construct outer
