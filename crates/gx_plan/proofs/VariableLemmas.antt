-- The variables that declarations, operators and clauses bind, one after the other.
use Rattle.std.proofs.Common.{◌≡◌, List, [], ◌∷◌, ◌++◌, map, Some, None, refl, sym, ◌∙◌, ap}
use Rattle.gx_core.specs.declared.expression.Clause.{Clause}
use Rattle.gx_core.specs.declared.expression.SortKey.{SortKey}
use Rattle.gx_core.specs.declared.expression.Declaration.{Declaration}
use Rattle.gx_core.specs.declared.expression.Declaration.TheVariants.{Global, Function}
use Rattle.gx_core.specs.declared.cases.TypeCase.{TypeCase}
use Rattle.gx_core.specs.declared.expression.Binder.{Binder}
use Rattle.gx_core.specs.CalledFunctions.{type_of_parameter}
use Rattle.gx_core.specs.QueryMeaning.{parameter_types}
use Rattle.gx_core.specs.Bindings.{Types, position_bound, block_types_bound}
use Rattle.gx_core.specs.Expression.{At, Parts, no_parts, a_part, all_parts}
use Rattle.gx_core.specs.ExpressionView.{kind_of_clause, part_of_clause, part_of_key, parts_of_block}
use Rattle.gx_plan.specs.declared.plan.Carried.{Carried}
use Rattle.gx_plan.specs.Plan.{PlanExpression, kinds_carried}
use Rattle.gx_plan.specs.Walk.{parts_in_order, IsNext}
use Rattle.gx_plan.specs.Variables.{case_variables, with_variables_at, with_variables_in, with_variables_in_parts, with_variables_in_all, with_variables_of_clauses, with_variables_declared}

pub one_by_one : (declaration : Declaration Carried) (others : List (Declaration Carried)) (before : Types)
    → with_variables_declared (declaration ∷ others) before ≡ with_variables_declared others (with_variables_declared (declaration ∷ []) before)
one_by_one (Global name binder (Some value)) others before = refl
one_by_one (Global name binder None) others before = refl
one_by_one (Function function) others before = refl

parts_then : (parts : Parts Carried) (es : List PlanExpression) (before : Types)
    → with_variables_in_all (parts_in_order parts ++ es) before ≡ with_variables_in_all es (with_variables_in_parts parts before)
parts_then no_parts es before = refl
parts_then (a_part first others) es before = parts_then others es (with_variables_in first before)

-- an expression that a walk meets
pub met_next : (e : PlanExpression) (before after : List PlanExpression) (types : Types) → IsNext e before after
    → with_variables_in_all after (with_variables_at e types) ≡ with_variables_in_all before types
met_next (At place outer carried operator parts) before after types next =
    ap (λ es. with_variables_in_all es (with_variables_at (At place outer carried operator parts) types)) next.left
    ∙ parts_then parts next.others (with_variables_at (At place outer carried operator parts) types)
    ∙ ap (λ es. with_variables_in_all es types) (sym next.met)

clauses_of : (cs : List (Clause Carried)) (others : List PlanExpression) (before : Types)
    → block_types_bound (map kind_of_clause cs) (kinds_carried (all_parts (map part_of_clause cs ++ others))) before
    ≡ with_variables_of_clauses cs before
clauses_of [] others before = refl
clauses_of (c ∷ cs) others before = clauses_of cs others _

pub of_a_block : (cs : List (Clause Carried)) (ks : List (SortKey Carried)) (body : PlanExpression) (before : Types)
    → block_types_bound (map kind_of_clause cs) (kinds_carried (all_parts (parts_of_block cs ks body))) before ≡ with_variables_of_clauses cs before
of_a_block cs ks body before = clauses_of cs (map part_of_key ks ++ body ∷ []) before

-- the last of parameters and of cases is bound first
pub last_parameter : (parameters : List Binder) (last : Binder) (before : Types)
    → parameter_types (parameters ++ last ∷ []) ++ before ≡ parameter_types parameters ++ ((last.variable, type_of_parameter last) ∷ before)
last_parameter [] last before = refl
last_parameter (p ∷ ps) last before = ap (λ types. (p.variable, type_of_parameter p) ∷ types) (last_parameter ps last before)

pub last_case : (cases : List TypeCase) (last : TypeCase) (before : Types)
    → case_variables (cases ++ last ∷ []) before ≡ case_variables cases (position_bound last.variable last.kind ++ before)
last_case [] last before = refl
last_case (c ∷ cs) last before = ap (λ types. position_bound c.variable c.kind ++ types) (last_case cs last before)
