-- What a pass over an expression gathers.
use Rattle.std.proofs.Common.{◌≡◌, ℕ, List, [], ◌∷◌, ◌++◌, map, refl, sym, ◌∙◌, ap, append_assoc}
use Rattle.std.specs.List.{flat_map}
use Rattle.gx_core.specs.declared.expression.Clause.{Clause}
use Rattle.gx_core.specs.declared.expression.SortKey.{SortKey}
use Rattle.gx_core.specs.declared.operator.Operator.{Operator}
use Rattle.gx_core.specs.Expression.{Expression, Parts, no_parts, a_part, all_parts}
use Rattle.gx_core.specs.ExpressionView.{part_of_clause, part_of_key, parts_of_block}
use Rattle.gx_settling.specs.Uses.{of_operators, of_operators_in}
use Rattle.gx_settling.specs.Gathering.{listed_parts}

pub listed_all : {A : Type 0} (es : List (Expression A)) → listed_parts (all_parts es) ≡ es
listed_all [] = refl
listed_all (e ∷ es) = ap (λ others. e ∷ others) (listed_all es)

pub listed_block : {A : Type 0} (cs : List (Clause A)) (ks : List (SortKey A)) (e : Expression A) (left : List (Expression A))
    → listed_parts (all_parts (parts_of_block cs ks e)) ++ left ≡ map part_of_clause cs ++ (map part_of_key ks ++ e ∷ left)
listed_block cs ks e left =
    ap (λ es. es ++ left) (listed_all (parts_of_block cs ks e))
    ∙ append_assoc (map part_of_clause cs) (map part_of_key ks ++ e ∷ []) left
    ∙ ap (λ es. map part_of_clause cs ++ es) (append_assoc (map part_of_key ks) (e ∷ []) left)

parts_opened : {A : Type 0} (look : Operator → List ℕ) (parts : Parts A) (left : List (Expression A))
    → flat_map (of_operators look) (listed_parts parts ++ left) ≡ of_operators_in look parts ++ flat_map (of_operators look) left
parts_opened look no_parts left = refl
parts_opened look (a_part first others) left =
    ap (λ numbers. of_operators look first ++ numbers) (parts_opened look others left)
    ∙ sym (append_assoc (of_operators look first) (of_operators_in look others) (flat_map (of_operators look) left))

-- an expression is looked at, and its parts are put in its place
pub one_opened : {A : Type 0} (look : Operator → List ℕ) (before now : List ℕ) (operator : Operator) (parts : Parts A)
    (pending left : List (Expression A)) → now ≡ before ++ look operator → left ≡ listed_parts parts ++ pending
    → now ++ flat_map (of_operators look) left ≡ before ++ ((look operator ++ of_operators_in look parts) ++ flat_map (of_operators look) pending)
one_opened {A} look before now operator parts pending left noted put =
    ap (λ (es : List (Expression A)). now ++ flat_map (of_operators look) es) put
    ∙ ap (λ (numbers : List ℕ). now ++ numbers) (parts_opened look parts pending)
    ∙ ap (λ (numbers : List ℕ). numbers ++ (of_operators_in look parts ++ flat_map (of_operators look) pending)) noted
    ∙ append_assoc before (look operator) (of_operators_in look parts ++ flat_map (of_operators look) pending)
    ∙ ap (λ (numbers : List ℕ). before ++ numbers) (sym (append_assoc (look operator) (of_operators_in look parts) (flat_map (of_operators look) pending)))
