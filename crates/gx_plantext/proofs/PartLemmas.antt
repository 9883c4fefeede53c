-- The fields of the parts of operators.
use Rattle.std.proofs.Common.{◌≡◌, List, [], ◌∷◌, ◌++◌, map, refl, ap}
use Rattle.std.specs.List.{flat_map}
use Rattle.std.proofs.lemmas.List.{append-nil}
use Rattle.gx_core.specs.declared.expression.Clause.{Clause}
use Rattle.gx_core.specs.declared.expression.SortKey.{SortKey}
use Rattle.gx_core.specs.Expression.{all_parts}
use Rattle.gx_core.specs.ExpressionView.{kind_of_clause, order_of_key, part_of_key, parts_of_block}
use Rattle.gx_plan.specs.declared.plan.Carried.{Carried}
use Rattle.gx_plan.specs.Plan.{PlanExpression}
use Rattle.gx_plantext.specs.PlanText.{all_fields, block_fields, fields_of, fields_of_each, key_fields}
use Rattle.gx_plantext.specs.Printing.{clause_piece, key_piece}

pub fields_of_all : (es : List PlanExpression) → fields_of_each (all_parts es) ≡ map fields_of es
fields_of_all [] = refl
fields_of_all (e ∷ es) = ap (λ parts. fields_of e ∷ parts) (fields_of_all es)

pub fields_joined : (es : List PlanExpression) → all_fields (map fields_of es) ≡ flat_map fields_of es
fields_joined [] = refl
fields_joined (e ∷ es) = ap (λ fields. fields_of e ++ fields) (fields_joined es)

keys_written : (keys : List (SortKey Carried)) (body : PlanExpression)
    → key_fields (map order_of_key keys) (fields_of_each (all_parts (map part_of_key keys ++ body ∷ []))) ≡ map key_piece keys ++ fields_of body
keys_written [] body = append-nil (fields_of body)
keys_written (key ∷ keys) body = ap (λ fields. key_piece key ∷ fields) (keys_written keys body)

-- those of a block
pub block_written : (clauses : List (Clause Carried)) (keys : List (SortKey Carried)) (body : PlanExpression)
    → block_fields (map kind_of_clause clauses) (map order_of_key keys) (fields_of_each (all_parts (parts_of_block clauses keys body)))
    ≡ map clause_piece clauses ++ (map key_piece keys ++ fields_of body)
block_written [] keys body = keys_written keys body
block_written (clause ∷ clauses) keys body = ap (λ fields. clause_piece clause ∷ fields) (block_written clauses keys body)
