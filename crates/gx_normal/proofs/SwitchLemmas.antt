-- Branches that are joined from the last one on.
use Rattle.std.proofs.Common.{◌≡◌, ◌≢◌, ℕ, List, [], ◌∷◌, ◌++◌, length, take, drop, refl, sym, ap}
use Rattle.gx_base.specs.declared.place.Place.{Place}
use Rattle.gx_resolved.specs.declared.tree.Construct.{Construct}
use Rattle.gx_resolved.specs.ResolvedTree.{ResolvedTree, a_resolved, no_resolved}
use Rattle.gx_resolved.specs.ResolvedView.{resolved_parts}
use Rattle.gx_core.specs.declared.cases.TypeCase.{TypeCase}
use Rattle.gx_core.specs.declared.operator.Operator.TheVariants as operators
use Rattle.gx_core.specs.Expression.{CoreExpression, At, Parts, a_part, all_parts}
use Rattle.gx_normal.specs.declared.signatures.Signatures.{Signatures}
use Rattle.gx_normal.specs.declared.focus.Focus.{Focus}
use Rattle.gx_normal.specs.Clauses.{Numbers}
use Rattle.gx_normal.specs.Constructs.{empty_at}
use Rattle.gx_normal.specs.Making.{first_item, put_in_front}
use Rattle.gx_normal.specs.Normalisation.{branch_core}
use Rattle.gx_normal.specs.Switches.{case_in_front, branches_joined, over_operand, typeswitch_at}

-- the last two branches are one
pub last_two_joined : (place : Place) (front : List CoreExpression) (a b : CoreExpression) → branches_joined place (front ++ case_in_front place a b ∷ []) ≡ branches_joined place (front ++ a ∷ b ∷ [])
last_two_joined place [] a b = refl
last_two_joined place (e ∷ []) a b = refl
last_two_joined place (e ∷ f ∷ front) a b = ap (case_in_front place e) (last_two_joined place (f ∷ front) a b)

-- a case and a body in front of a switch
pub first_in_front : (place there outer behind other : Place) (number : ℕ) (nothing none : CoreExpression) (more : List TypeCase) (bodies : List CoreExpression) (cases : List TypeCase) (default : ℕ) (branches : Parts (Unit {0}))
    → put_in_front place nothing (first_item more) (first_item bodies) cases default branches
    ≡ case_in_front place (At there outer tt (operators.Switch more number) (a_part nothing (all_parts bodies))) (At behind other tt (operators.Switch cases default) (a_part none branches))
first_in_front place there outer behind other number nothing none [] [] cases default branches = refl
first_in_front place there outer behind other number nothing none [] (e ∷ es) cases default branches = refl
first_in_front place there outer behind other number nothing none (c ∷ cs) [] cases default branches = refl
first_in_front place there outer behind other number nothing none (c ∷ cs) (e ∷ es) cases default branches = refl

-- an operand, and the branches behind it
pub behind_operand : (place : Place) (parts front : List CoreExpression) (operand : CoreExpression) → take 1 parts ≡ front ++ operand ∷ [] → over_operand place operand (branches_joined place (drop 1 parts)) ≡ typeswitch_at place parts
behind_operand place [] [] operand e = absurd (cc)
behind_operand place [] (f ∷ front) operand e = absurd (cc)
behind_operand place (a ∷ parts) [] operand e = let same : operand ≡ a = cc in ap (λ (o : CoreExpression). over_operand place o (branches_joined place parts)) same
behind_operand place (a ∷ parts) (f ∷ []) operand e = absurd (cc)
behind_operand place (a ∷ parts) (f ∷ g ∷ front) operand e = absurd (cc)

pub no_operand : (place : Place) (parts : List CoreExpression) → length parts ≡ 0 → typeswitch_at place parts ≡ empty_at place
no_operand place [] e = refl
no_operand place (a ∷ parts) e = absurd (cc)

-- ---- the body of a branch

pub of_one_body : (signatures : Signatures) (place : Place) (construct : Construct) (body : ResolvedTree) (all : List ResolvedTree) (numbers : Numbers) (focus : Focus) (free : ℕ) → all ≡ body ∷ []
    → branch_core signatures place construct (a_resolved body no_resolved) numbers focus free ≡ branch_core signatures place construct (resolved_parts all) numbers focus free
of_one_body signatures place construct body all numbers focus free h = ap (λ (l : List ResolvedTree). branch_core signatures place construct (resolved_parts l) numbers focus free) (sym h)

pub not_one_body : (signatures : Signatures) (place : Place) (construct : Construct) (all : List ResolvedTree) (numbers : Numbers) (focus : Focus) (free : ℕ) → length all ≢ 1
    → (empty_at place, free) ≡ branch_core signatures place construct (resolved_parts all) numbers focus free
not_one_body signatures place construct [] numbers focus free h = refl
not_one_body signatures place construct (a ∷ []) numbers focus free h = absurd (h refl)
not_one_body signatures place construct (a ∷ b ∷ more) numbers focus free h = refl
