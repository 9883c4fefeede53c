-- What is compiled is remade operator by operator.
use Rattle.std.proofs.Common.{◌≡◌, List, [], ◌∷◌, map, Some, None, ◌≢◌, refl, sym, ◌∙◌, ap}
use Rattle.gx_core.specs.declared.operator.Operator.{Operator}
use Rattle.gx_core.specs.declared.operator.Operator.TheVariants as operators
use Rattle.gx_plan.specs.declared.plan.Carried.{Carried}
use Rattle.gx_plan.specs.Plan.{own}
use Rattle.gx_base.specs.declared.place.Place.{Place}
use Rattle.gx_types.specs.SequenceType.{SequenceType}
use Rattle.gx_core.specs.declared.expression.Declaration.{Declaration}
use Rattle.gx_core.specs.declared.expression.Declaration.TheVariants.{Global, Function}
use Rattle.gx_core.specs.Expression.{At, Parts, no_parts, a_part}
use Rattle.gx_core.specs.Queries.{TypedCore}
use Rattle.gx_core.specs.Soundness.{TypedExpression}
use Rattle.gx_plan.specs.Compiling.{compiled_operator, compiled, compiled_parts, compiled_declaration, compiled_query}
use Rattle.gx_plan.specs.Remaking.{remade, parts_remade, declaration_remade, query_remade}

mutual
  is_remade : (e : TypedExpression) → compiled e ≡ remade compiled_operator e
  is_remade (At place outer kind operator parts) = ap (compiled_operator place outer kind operator) (are_remade parts)

  are_remade : (parts : Parts SequenceType) → compiled_parts parts ≡ parts_remade compiled_operator parts
  are_remade no_parts = refl
  are_remade (a_part first others) =
      ap (λ e. a_part e (compiled_parts others)) (is_remade first) ∙ ap (a_part (remade compiled_operator first)) (are_remade others)

declaration_is_remade : (d : Declaration SequenceType) → compiled_declaration d ≡ declaration_remade compiled_operator d
declaration_is_remade (Global name binder None) = refl
declaration_is_remade (Global name binder (Some value)) = ap (λ e. Global name binder (Some e)) (is_remade value)
declaration_is_remade (Function function) =
    ap (λ e. Function (record { place = function.place; name = function.name; parameters = function.parameters; result = function.result; body = e })) (is_remade function.body)

declarations_are_remade : (ds : List (Declaration SequenceType)) → map compiled_declaration ds ≡ map (declaration_remade compiled_operator) ds
declarations_are_remade [] = refl
declarations_are_remade (d ∷ ds) =
    ap (λ e. e ∷ map compiled_declaration ds) (declaration_is_remade d)
    ∙ ap (λ es. declaration_remade compiled_operator d ∷ es) (declarations_are_remade ds)

pub queries_are_remade : (query : TypedCore) → query_remade compiled_operator query ≡ compiled_query query
queries_are_remade query =
    sym (ap (λ ds. record { declarations = ds; body = compiled query.body }) (declarations_are_remade query.declarations)
    ∙ ap (λ e. record { declarations = map (declaration_remade compiled_operator) query.declarations; body = e }) (is_remade query.body))

-- every operator but `nodes` stays
pub others_stay : (place outer : Place) (kind : SequenceType) (operator : Operator) (parts : Parts Carried) → operator ≢ operators.Nodes
    → compiled_operator place outer kind operator parts ≡ At place outer (own kind) operator parts
others_stay place outer kind operators.Nodes parts h = absurd (h refl)
others_stay place outer kind _ parts h = refl
