-- The parts of forms in order.
use Rattle.std.proofs.Common.{◌≡◌, List, [], ◌∷◌, ◌++◌, map, refl, ◌∙◌, ap, append_assoc}
use Rattle.gx_core.specs.declared.expression.Clause.{Clause}
use Rattle.gx_core.specs.declared.expression.SortKey.{SortKey}
use Rattle.gx_core.specs.Expression.{Expression, all_parts}
use Rattle.gx_core.specs.ExpressionView.{part_of_clause, part_of_key, parts_of_block}
use Rattle.gx_plan.specs.Walk.{parts_in_order}

pub all_in_order : {A : Type 0} (es : List (Expression A)) → parts_in_order (all_parts es) ≡ es
all_in_order [] = refl
all_in_order (e ∷ es) = ap (λ others. e ∷ others) (all_in_order es)

pub block_in_order : {A : Type 0} (cs : List (Clause A)) (ks : List (SortKey A)) (e : Expression A) (left : List (Expression A))
    → parts_in_order (all_parts (parts_of_block cs ks e)) ++ left ≡ map part_of_clause cs ++ (map part_of_key ks ++ e ∷ left)
block_in_order cs ks e left =
    ap (λ es. es ++ left) (all_in_order (parts_of_block cs ks e))
    ∙ append_assoc (map part_of_clause cs) (map part_of_key ks ++ e ∷ []) left
    ∙ ap (λ es. map part_of_clause cs ++ es) (append_assoc (map part_of_key ks) (e ∷ []) left)
