-- What an expression is rewritten to, and what a query is.
use Rattle.std.proofs.Common.{List, [], ◌∷◌, map, None, Some, refl, inl, inr}
use Rattle.gx_core.specs.declared.expression.Declaration.{Declaration}
use Rattle.gx_core.specs.declared.expression.Declaration.TheVariants.{Global, Function}
use Rattle.gx_core.specs.Expression.{At, Parts, no_parts, a_part}
use Rattle.gx_plan.specs.declared.plan.Carried.{Carried}
use Rattle.gx_plan.specs.Plan.{PlanExpression, PlanQuery}
use Rattle.gx_plan.specs.Remaking.{parts_remade, declaration_remade, query_remade}
use Rattle.gx_rules.specs.Rules.{RuleSetting}
use Rattle.gx_rules.specs.Normal.{StepsTo, PartStepsTo, DeclarationStepsTo, DeclarationsStepTo, QueryStepsTo, ReachesBy, AreNormal, IsNormalDeclaration, AreNormalDeclarations, IsRewritten}
use Rattle.gx_rewrite.specs.Rewriting.{rewritten_operator, rewritten}
use Rattle.gx_rewrite.proofs.Reaching.{stays, then_reaches, reaches_inside, step_in_parts, step_in_first, step_in_others}
use Rattle.gx_rewrite.proofs.NormalForms.{BecomesNormal, becomes_normal}

record PartsBecomeNormal (setting : RuleSetting) (parts others : Parts Carried) : Type 0 where
  pub reached : ReachesBy (PartStepsTo setting) parts others
  pub normal : AreNormal setting others

mutual
  -- an expression is rewritten by the rules, to a normal one
  pub is_rewritten : (setting : RuleSetting) (e : PlanExpression) → BecomesNormal setting e (rewritten setting e)
  is_rewritten setting (At place outer carried operator parts) =
      let inside = are_rewritten setting parts in
      let others = parts_remade (rewritten_operator setting) parts in
      let at = becomes_normal setting place outer carried operator others inside.normal in
      record {
        reached =
            then_reaches (StepsTo setting) (At place outer carried operator parts) (At place outer carried operator others) _
            (reaches_inside (PartStepsTo setting) (StepsTo setting) (At place outer carried operator)
            (λ ps qs. step_in_parts setting place outer carried operator ps qs) parts others inside.reached) at.reached;
        normal = at.normal;
      }

  are_rewritten : (setting : RuleSetting) (parts : Parts Carried) → PartsBecomeNormal setting parts (parts_remade (rewritten_operator setting) parts)
  are_rewritten setting no_parts = record { reached = stays (PartStepsTo setting) no_parts; normal = tt }
  are_rewritten setting (a_part e es) =
      let first = is_rewritten setting e in
      let behind = are_rewritten setting es in
      let d = rewritten setting e in
      let ds = parts_remade (rewritten_operator setting) es in
      record {
        reached =
            then_reaches (PartStepsTo setting) (a_part e es) (a_part d es) (a_part d ds)
            (reaches_inside (StepsTo setting) (PartStepsTo setting) (λ c. a_part c es) (λ c other. step_in_first setting c other es) e d first.reached)
            (reaches_inside (PartStepsTo setting) (PartStepsTo setting) (a_part d) (λ ps qs. step_in_others setting d ps qs) es ds behind.reached);
        normal = (first.normal, behind.normal);
      }

-- ---- declarations and whole queries

record DeclarationBecomesNormal (setting : RuleSetting) (d other : Declaration Carried) : Type 0 where
  pub reached : ReachesBy (DeclarationStepsTo setting) d other
  pub normal : IsNormalDeclaration setting other

record DeclarationsBecomeNormal (setting : RuleSetting) (ds others : List (Declaration Carried)) : Type 0 where
  pub reached : ReachesBy (DeclarationsStepTo setting) ds others
  pub normal : AreNormalDeclarations setting others

declaration_is_rewritten : (setting : RuleSetting) (d : Declaration Carried)
    → DeclarationBecomesNormal setting d (declaration_remade (rewritten_operator setting) d)
declaration_is_rewritten setting (Global name binder None) =
    record { reached = stays (DeclarationStepsTo setting) (Global name binder None); normal = tt }
declaration_is_rewritten setting (Global name binder (Some value)) =
    let done = is_rewritten setting value in
    record {
      reached =
          reaches_inside (StepsTo setting) (DeclarationStepsTo setting) (λ e. Global name binder (Some e)) (λ e other h. (other, refl, h)) value
          (rewritten setting value) done.reached;
      normal = done.normal;
    }
declaration_is_rewritten setting (Function function) =
    let done = is_rewritten setting function.body in
    let with : PlanExpression → Declaration Carried = λ e.
    Function (record { place = function.place; name = function.name; parameters = function.parameters; result = function.result; body = e }) in
    record {
      reached =
          reaches_inside (StepsTo setting) (DeclarationStepsTo setting) with (λ e other h. (other, refl, h)) function.body
          (rewritten setting function.body) done.reached;
      normal = done.normal;
    }

declarations_are_rewritten : (setting : RuleSetting) (ds : List (Declaration Carried))
    → DeclarationsBecomeNormal setting ds (map (declaration_remade (rewritten_operator setting)) ds)
declarations_are_rewritten setting [] = record { reached = stays (DeclarationsStepTo setting) []; normal = tt }
declarations_are_rewritten setting (d ∷ ds) =
    let first = declaration_is_rewritten setting d in
    let behind = declarations_are_rewritten setting ds in
    let c = declaration_remade (rewritten_operator setting) d in
    let cs = map (declaration_remade (rewritten_operator setting)) ds in
    record {
      reached =
          then_reaches (DeclarationsStepTo setting) (d ∷ ds) (c ∷ ds) (c ∷ cs)
          (reaches_inside (DeclarationStepsTo setting) (DeclarationsStepTo setting) (λ e. e ∷ ds) (λ e other h. inl (other, refl, h)) d c
          first.reached)
          (reaches_inside (DeclarationsStepTo setting) (DeclarationsStepTo setting) (λ es. c ∷ es) (λ es others h. inr (others, refl, h)) ds cs
          behind.reached);
      normal = (first.normal, behind.normal);
    }

-- a query is rewritten by the rules, to one to which no rule applies
pub query_is_rewritten : (setting : RuleSetting) (query : PlanQuery) → IsRewritten setting query (query_remade (rewritten_operator setting) query)
query_is_rewritten setting query =
    let declared = declarations_are_rewritten setting query.declarations in
    let body = is_rewritten setting query.body in
    let ds = map (declaration_remade (rewritten_operator setting)) query.declarations in
    let with_declarations : List (Declaration Carried) → PlanQuery = λ cs. record { declarations = cs; body = query.body } in
    let function_over : PlanExpression → PlanQuery = λ e. record { declarations = ds; body = e } in
    record {
      reached =
          then_reaches (QueryStepsTo setting) query (with_declarations ds) (function_over (rewritten setting query.body))
          (reaches_inside (DeclarationsStepTo setting) (QueryStepsTo setting) with_declarations (λ cs others h. inl (h, refl)) query.declarations ds
          declared.reached)
          (reaches_inside (StepsTo setting) (QueryStepsTo setting) function_over (λ e other h. inr (refl, h)) query.body (rewritten setting query.body)
          body.reached);
      normal = record { declarations = declared.normal; body = body.normal };
    }
