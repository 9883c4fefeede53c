-- Refusals in front of others, and trees in the making.
use Rattle.std.proofs.Common.{◌≡◌, ℕ, List, [], ◌∷◌, ◌++◌, length, refl, sym, ap, subst, ◌∙◌}
use Rattle.gx_base.specs.declared.place.Place.{Place}
use Rattle.gx_ast.specs.declared.name.QName.{QName}
use Rattle.gx_ast.specs.SyntaxTree.{SyntaxTree, call}
use Rattle.gx_ast.specs.SyntaxView.{trees_of}
use Rattle.gx_names_scope.specs.declared.refusal.Refusal.{Refusal}
use Rattle.gx_names_scope.specs.declared.refusal.NameRefusal.{NameRefusal}
use Rattle.gx_resolved.specs.declared.tree.Construct.{Construct}
use Rattle.gx_names_scope.specs.Refused.{IsFirstRefusal}
use Rattle.gx_names_scope.specs.Environment.{Environment}
use Rattle.gx_names_scope.specs.TreeCounts.{count_trees}
use Rattle.gx_names_trees.specs.TreeRefusals.{call_refusals, form_refusals, trees_refusals}
use Rattle.gx_names_trees.specs.TreeResolution.{call_resolved, call_over, form_resolved, trees_resolved}
use Rattle.gx_names_trees.specs.Calls.{context_argument}
use Rattle.gx_resolved.specs.ResolvedTree.{ResolvedTree, ResolvedTrees, resolved_at, no_resolved, a_resolved, one_resolved, and_parts}
use Rattle.gx_resolved.specs.ResolvedView.{resolved_parts}
use Rattle.gx_names_scope.proofs.CountLemmas.{counted}
use Rattle.gx_names_scope.proofs.RefusalLemmas.{refused_before}
use Rattle.gx_names_trees.specs.Resolving.{and_part, adopted, all_adopted, closed}

-- ---- refusals

pub nothing_behind : (refusals : List Refusal) → refusals ++ [] ≡ refusals
nothing_behind [] = refl
nothing_behind (r ∷ rs) = ap (λ (others : List Refusal). r ∷ others) (nothing_behind rs)

-- ---- trees in the making

pub parts_with_one_more : (trees : List ResolvedTree) (tree : ResolvedTree) → resolved_parts (trees ++ tree ∷ []) ≡ and_part (resolved_parts trees) tree
parts_with_one_more [] tree = refl
parts_with_one_more (t ∷ ts) tree = ap (λ others. a_resolved t others) (parts_with_one_more ts tree)

none_behind : (parts : ResolvedTrees) → and_parts parts no_resolved ≡ parts
none_behind no_resolved = refl
none_behind (a_resolved first others) = ap (a_resolved first) (none_behind others)

one_behind : (parts : ResolvedTrees) (tree : ResolvedTree) (more : ResolvedTrees) → and_parts (and_part parts tree) more ≡ and_parts parts (a_resolved tree more)
one_behind no_resolved tree more = refl
one_behind (a_resolved first others) tree more = ap (a_resolved first) (one_behind others tree more)

adopted_in_turn : (trees parts : ResolvedTrees) (place : Place) (construct : Construct) (outer : List ResolvedTree)
    → all_adopted trees (resolved_at place construct parts ∷ outer) ≡ resolved_at place construct (and_parts parts trees) ∷ outer
adopted_in_turn no_resolved parts place construct outer = ap (λ (ps : ResolvedTrees). resolved_at place construct ps ∷ outer) (sym (none_behind parts))
adopted_in_turn (a_resolved first others) parts place construct outer =
    adopted_in_turn others (and_part parts first) place construct outer
    ∙ ap (λ (ps : ResolvedTrees). resolved_at place construct ps ∷ outer) (one_behind parts first others)

-- the parts of a tree that was opened with some
all_closed_behind : (trees parts : ResolvedTrees) (place : Place) (construct : Construct) (outer : List ResolvedTree)
    → closed (all_adopted trees (resolved_at place construct parts ∷ outer)) ≡ adopted (resolved_at place construct (and_parts parts trees)) outer
all_closed_behind trees parts place construct outer = ap closed (adopted_in_turn trees parts place construct outer)

-- the parts of a tree that was opened without any
pub all_closed : (trees : ResolvedTrees) (place : Place) (construct : Construct) (outer : List ResolvedTree)
    → closed (all_adopted trees (resolved_at place construct no_resolved ∷ outer)) ≡ adopted (resolved_at place construct trees) outer
all_closed trees place construct outer = all_closed_behind trees no_resolved place construct outer

pub one_more_adopted : (trees : ResolvedTrees) (tree : ResolvedTree) (unfinished : List ResolvedTree)
    → all_adopted (and_parts trees (one_resolved tree)) unfinished ≡ adopted tree (all_adopted trees unfinished)
one_more_adopted no_resolved tree unfinished = refl
one_more_adopted (a_resolved first others) tree unfinished = one_more_adopted others tree (adopted first unfinished)

-- a typeswitch with its operand, its cases and its default
pub branches_closed : (operand default : ResolvedTree) (cases : ResolvedTrees) (place : Place) (construct : Construct) (outer : List ResolvedTree)
    → closed (adopted default (all_adopted cases (resolved_at place construct (one_resolved operand) ∷ outer)))
    ≡ adopted (resolved_at place construct (a_resolved operand (and_parts cases (one_resolved default)))) outer
branches_closed operand default cases place construct outer =
    ap closed (sym (one_more_adopted cases default (resolved_at place construct (one_resolved operand) ∷ outer)))
    ∙ all_closed (a_resolved operand (and_parts cases (one_resolved default))) place construct outer

-- ---- calls

pub call_refused : (refusal : NameRefusal) (environment : Environment) (place : Place) (name : QName) (arguments : List SyntaxTree) (rest : List Refusal)
    → IsFirstRefusal refusal (call_refusals environment place name (length arguments))
    → IsFirstRefusal refusal (form_refusals environment place (call name (trees_of arguments)) ++ rest)
call_refused refusal environment place name arguments rest h =
    refused_before refusal (form_refusals environment place (call name (trees_of arguments))) rest
    (refused_before refusal (call_refusals environment place name (count_trees (trees_of arguments))) (trees_refusals environment (trees_of arguments))
    (subst (λ (n : ℕ). IsFirstRefusal refusal (call_refusals environment place name n)) (sym (counted arguments)) h))

pub call_proceeds : (environment : Environment) (place : Place) (name : QName) (arguments : List SyntaxTree) (rest : List Refusal)
    → call_refusals environment place name (length arguments) ≡ []
    → trees_refusals environment (trees_of arguments) ++ rest ≡ form_refusals environment place (call name (trees_of arguments)) ++ rest
call_proceeds environment place name arguments rest h =
    ap (λ (refusals : List Refusal). (refusals ++ trees_refusals environment (trees_of arguments)) ++ rest)
    (sym (ap (λ (n : ℕ). call_refusals environment place name n) (counted arguments) ∙ h))

pub call_made : (environment : Environment) (place : Place) (name : QName) (arguments : List SyntaxTree) (outer : List ResolvedTree) (construct : Construct)
    → construct ≡ call_resolved environment name (length arguments)
    → closed (all_adopted (trees_resolved environment (trees_of arguments)) (resolved_at place construct (context_argument place construct (length arguments)) ∷ outer))
    ≡ adopted (form_resolved environment place (call name (trees_of arguments))) outer
call_made environment place name arguments outer construct h =
    let trees : ResolvedTrees = trees_resolved environment (trees_of arguments) in
    all_closed_behind trees (context_argument place construct (length arguments)) place construct outer
    ∙ (ap (λ (c : Construct). adopted (call_over place c (length arguments) trees) outer) h
    ∙ ap (λ (n : ℕ). adopted (call_over place (call_resolved environment name n) n trees) outer) (sym (counted arguments)))
