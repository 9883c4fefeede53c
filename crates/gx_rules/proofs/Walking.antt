-- What holds of an expression that a walk meets, and of what it is still to meet.
use Rattle.std.proofs.Common.{◌≡◌, ℕ, Bool, true, false, ◌&&◌, ◌||◌, List, [], ◌∷◌, ◌++◌, refl, sym, ◌∙◌, ap}
use Rattle.gx_types.specs.SchemaSet.{SchemaSet}
use Rattle.gx_core.specs.Expression.{At, Parts, no_parts, a_part}
use Rattle.gx_core.specs.FreeVariables.{names_variable}
use Rattle.gx_plan.specs.declared.plan.Carried.{Carried}
use Rattle.gx_plan.specs.Plan.{PlanExpression}
use Rattle.gx_plan.specs.Walk.{parts_in_order, IsNext}
use Rattle.gx_rules.specs.Guards.{names_at, is_named_in, is_named_in_parts, is_quiet, are_quiet, is_quiet_at}

-- one of these names a variable
abbrev pub one_names : List PlanExpression → ℕ → Bool
one_names [] number = false
one_names (e ∷ es) number = is_named_in e number || one_names es number

or_associates : (a b c : Bool) → (a || b) || c ≡ a || (b || c)
or_associates true b c = refl
or_associates false b c = refl

and_associates : (a b c : Bool) → (a && b) && c ≡ a && (b && c)
and_associates true b c = refl
and_associates false b c = refl

parts_name : (parts : Parts Carried) (es : List PlanExpression) (number : ℕ)
    → one_names (parts_in_order parts ++ es) number ≡ is_named_in_parts parts number || one_names es number
parts_name no_parts es number = refl
parts_name (a_part first others) es number =
    ap (λ b. is_named_in first number || b) (parts_name others es number)
    ∙ sym (or_associates (is_named_in first number) (is_named_in_parts others number) (one_names es number))

pub named_next : (e : PlanExpression) (before after : List PlanExpression) (number : ℕ) → IsNext e before after
    → one_names before number ≡ names_at e number || one_names after number
named_next (At place outer carried operator parts) before after number next =
    ap (λ es. one_names es number) next.met
    ∙ or_associates (names_variable operator number) (is_named_in_parts parts number) (one_names next.others number)
    ∙ ap (λ b. names_variable operator number || b)
    (sym (ap (λ es. one_names es number) next.left ∙ parts_name parts next.others number))

-- all of these are quiet
abbrev pub all_quiet : SchemaSet → List PlanExpression → Bool
all_quiet schemas [] = true
all_quiet schemas (e ∷ es) = is_quiet schemas e && all_quiet schemas es

quiet_parts : (schemas : SchemaSet) (parts : Parts Carried) (es : List PlanExpression)
    → all_quiet schemas (parts_in_order parts ++ es) ≡ are_quiet schemas parts && all_quiet schemas es
quiet_parts schemas no_parts es = refl
quiet_parts schemas (a_part first others) es =
    ap (λ b. is_quiet schemas first && b) (quiet_parts schemas others es)
    ∙ sym (and_associates (is_quiet schemas first) (are_quiet schemas others) (all_quiet schemas es))

pub quiet_next : (schemas : SchemaSet) (e : PlanExpression) (before after : List PlanExpression) → IsNext e before after
    → all_quiet schemas before ≡ is_quiet_at schemas e && all_quiet schemas after
quiet_next schemas (At place outer carried operator parts) before after next =
    ap (λ es. all_quiet schemas es) next.met
    ∙ and_associates (is_quiet_at schemas (At place outer carried operator parts)) (are_quiet schemas parts) (all_quiet schemas next.others)
    ∙ ap (λ b. is_quiet_at schemas (At place outer carried operator parts) && b)
    (sym (ap (λ es. all_quiet schemas es) next.left ∙ quiet_parts schemas parts next.others))

-- an expression is met whose operator is quiet
pub quiet_goes_on : (schemas : SchemaSet) (e : PlanExpression) (before after : List PlanExpression) → IsNext e before after
    → is_quiet_at schemas e ≡ true → all_quiet schemas after ≡ all_quiet schemas before
quiet_goes_on schemas e before after next quiet =
    sym (quiet_next schemas e before after next ∙ ap (λ b. b && all_quiet schemas after) quiet)
