-- The plan that a typed query is compiled to is orderly.
use Rattle.std.proofs.Common.{◌≡◌, ◌≢◌, ℕ, zero, suc, Bool, true, false, List, [], ◌∷◌, ◌++◌, map, Option, None, Some, refl, sym, ◌∙◌, ap, subst, nat_eq, if◌then◌else◌}
use Rattle.gx_base.specs.declared.code.Code.TheVariants.{XPST0008}
use Rattle.gx_base.specs.declared.type_name.Builtin.TheVariants.{Integer}
use Rattle.gx_types.specs.Prime.{prime_of}
use Rattle.gx_types.specs.SchemaSet.{SchemaSet}
use Rattle.gx_types.specs.SequenceType.{SequenceType}
use Rattle.gx_core.specs.declared.expression.Declaration.TheVariants.{Global, Function}
use Rattle.gx_core.specs.declared.operator.Operator.{Operator}
use Rattle.gx_core.specs.declared.operator.Operator.TheVariants as operators
use Rattle.gx_core.specs.Queries.{TypedDeclaration}
use Rattle.gx_core.specs.Expression.{At, Parts, no_parts, a_part, each_of, annotation_of, plain}
use Rattle.gx_core.specs.Bindings.{Types, look_up, types_bound, position_bound, position_numbers, numbers_bound_by, numbers_new_in}
use Rattle.gx_core.specs.FreeVariables.{is_free_in}
use Rattle.gx_core.specs.Invariant.{parameter_numbers, numbers_bound, numbers_bound_in, declared_numbers}
use Rattle.gx_core.specs.QueryMeaning.{plain_declaration, plain_query, global_types, types_declared, parameter_types}
use Rattle.gx_core.specs.Soundness.{TypedExpression}
use Rattle.gx_core.specs.WrittenTypes.{IsOverWrittenTypes, NamesWrittenTypes, PartsNameWrittenTypes, ValuesNameWrittenTypes}
use Rattle.gx_static.specs.Rule.{atomic, has_type, has_none, variable_ruling, step_ruling, ruling}
use Rattle.gx_plan.specs.declared.plan.Carried.{Carried}
use Rattle.gx_plan.specs.Plan.{PlanExpression, typed_expression, typed_parts, typed_declaration}
use Rattle.gx_plan.specs.Compiling.{compiled, compiled_declaration, compiled_query}
use Rattle.gx_plan.specs.Variables.{variables_of_query}
use Rattle.gx_plan.specs.FullSoundness.{types_named}
use Rattle.gx_plan.proofs.PartsBefore.{AreBefore, none_before, next_before, taken_before}
use Rattle.gx_sound_typing.specs.CarriedTyping.{with_carried, carried_types, carried_binders, CarryBound, CarryAllBound, CarryBoundInParts, CarryBoundInDeclarations}
use Rattle.gx_sound_typing.proofs.TypedTrees.{HasItsTypes, PartsHaveTheirTypes}
use Rattle.gx_sound_typing.proofs.FullTyping.{DeclarationsHaveTheirTypes, query_has}
use Rattle.gx_sound_typing.proofs.CompiledTyping.{tree_again}
use Rattle.gx_sound_typing.proofs.CompiledPlans.{compiled_queries_carry_bound}
use Rattle.gx_sound_typing.proofs.VariableTables.{distinct_once}
use Rattle.gx_rule_laws.specs.KeepingRules.{IsRegularOperator, IsRegular, AreRegular}
use Rattle.gx_rule_laws.specs.KeepingSoundness.{CountsByIntegers, AllCountByIntegers, PartsCountByIntegers}
use Rattle.gx_rule_laws.specs.RewrittenQueries.{IsOrderly, AreOrderlyDeclarations}
use Rattle.gx_rule_laws.specs.TypedQueries.{CompiledPlansAreOrderly}
use Rattle.gx_rule_laws.proofs.Rewriting.{none_typed_behind}
use Rattle.gx_rule_laws.proofs.BoundNumbers.{AreNumbers, front_numbers, numbers_behind, absent, position_apart, none_in_front, compiled_numbers, compiled_written}
use Rattle.gx_rule_laws.proofs.NoneCarried.{parameters_none, global_none, compiled_global_none, globals_none, compiled_globals_none, none_carried}

-- ---- one operator

-- what has no type in scope is no variable and no step
variable_apart : (s : SchemaSet) (number : ℕ) (types : Types) (k : SequenceType) → variable_ruling s number (look_up types number) ≡ has_type k → look_up types 0 ≡ None
    → number ≢ 0
variable_apart s number types k e none same =
    let missing : variable_ruling s number (look_up types number) ≡ has_none XPST0008 None =
    ap (λ (found : Option SequenceType). variable_ruling s number found) (ap (look_up types) same ∙ none) in cc

-- the positions of loops are apart from their items
operator_regular : (s : SchemaSet) (operator : Operator) (parts : Parts Carried) (types : Types) (k : SequenceType)
    → ruling s operator (each_of annotation_of (typed_parts parts)) types ≡ has_type k → AreNumbers (numbers_bound_in operator [] parts)
    → IsOverWrittenTypes operator → look_up types 0 ≡ None → IsRegularOperator operator
operator_regular s (operators.Var number) no_parts types k e n w none = variable_apart s number types k e none
operator_regular s (operators.Var number) (a_part first others) types k e n w none = λ same. cc
operator_regular s (operators.Step axis asks number) no_parts types k e n w none = λ same.
    let missing : step_ruling s axis asks number (look_up types number) ≡ has_none XPST0008 None =
    ap (λ (found : Option SequenceType). step_ruling s axis asks number found) (ap (look_up types) same ∙ none) in cc
operator_regular s (operators.Step axis asks number) (a_part first others) types k e n w none = λ same. cc
operator_regular s (operators.For binder position) no_parts types k e n w none = λ same. cc
operator_regular s (operators.For binder position) (a_part source no_parts) types k e n w none = λ same. cc
operator_regular s (operators.For binder position) (a_part source (a_part body others)) types k e n w none =
    let rest : List ℕ = numbers_bound_in (operators.For binder position) (tt ∷ tt ∷ []) others in
    let here : List ℕ = (binder.variable ∷ position_numbers position) ++ numbers_bound body in
    position_apart binder.variable position (numbers_bound body) (front_numbers here rest (numbers_behind (numbers_bound source) (here ++ rest) n))
operator_regular s (operators.Switch cases default) parts types k e n w none = w
operator_regular s _ parts types k e n w none = tt

carried_so : (number : ℕ) (t : SequenceType) (other : ℕ) (u : SequenceType) (first found : Option SequenceType)
    → with_carried number first (with_carried other found []) ≡ (number, t) ∷ (other, u) ∷ [] → found ≡ Some u
carried_so number t other u None None e = absurd (cc)
carried_so number t other u None (Some w) e = absurd (cc)
carried_so number t other u (Some v) None e = absurd (cc)
carried_so number t other u (Some v) (Some w) e = ap (λ (types : Types). second w types) e
  where
    second : SequenceType → Types → Option SequenceType
    second w (a ∷ b ∷ types) = Some b.1
    second w types = Some w

position_carries : (variables : Types) (variable position : ℕ) (t : SequenceType)
    → carried_types variables (variable ∷ position_numbers position) ≡ (variable, t) ∷ position_bound position (atomic Integer)
    → position ≢ 0 → look_up variables position ≡ Some (atomic Integer)
position_carries variables variable zero t e n = absurd (n refl)
position_carries variables variable (suc position) t e n =
    carried_so variable t (suc position) (atomic Integer) (look_up variables variable) (look_up variables (suc position)) e

operator_counts : (s : SchemaSet) (variables : Types) (operator : Operator) (ts : List SequenceType) (types : Types) (k : SequenceType)
    → ruling s operator ts types ≡ has_type k → CarryBound variables operator ts → CountsByIntegers variables operator
operator_counts s variables (operators.For binder position) [] types k e c = absurd (cc)
operator_counts s variables (operators.For binder position) (t ∷ ts) types k e c = position_carries variables binder.variable position (prime_of t) (c (suc zero))
operator_counts s variables _ ts types k e c = tt

-- ---- expressions

module _ (s : SchemaSet) (variables : Types) (none_carries : look_up variables 0 ≡ None) where
  mutual
    tree_orderly : (e : PlanExpression) (types : Types) → HasItsTypes s (typed_expression e) types → AreNumbers (numbers_bound e) → NamesWrittenTypes e
        → CarryAllBound variables (typed_expression e) → look_up types 0 ≡ None → IsRegular e × AllCountByIntegers variables e
    tree_orderly (At place outer carried operator parts) types h n w c none =
        let ts : List SequenceType = each_of annotation_of (typed_parts parts) in
        let p = parts_orderly operator ts [] 0 [] parts types (none_before ts) h.1 n w.1 c.0 c.1 none in (
          (operator_regular s operator parts types carried.kind h.0 n w.0 none, p.0),
          (operator_counts s variables operator ts types carried.kind h.0 c.0, p.1),
        )

    parts_orderly : (operator : Operator) (ts before : List SequenceType) (number : ℕ) (places : List (Unit {0})) (parts : Parts Carried) (types : Types)
        → AreBefore ts before (each_of annotation_of (typed_parts parts)) number → PartsHaveTheirTypes s operator before (typed_parts parts) types
        → AreNumbers (numbers_bound_in operator places parts) → PartsNameWrittenTypes parts → CarryBound variables operator ts
        → CarryBoundInParts variables (typed_parts parts) → look_up types 0 ≡ None → AreRegular parts × PartsCountByIntegers variables parts
    parts_orderly operator ts before number places no_parts types a h n w b c none = (tt, tt)
    parts_orderly operator ts before number places (a_part first others) types a h n w b c none =
        let t : SequenceType = annotation_of (typed_expression first) in
        let us : List SequenceType = each_of annotation_of (typed_parts others) in
        let new : List ℕ = numbers_new_in operator places in
        let rest : List ℕ = numbers_bound_in operator (places ++ tt ∷ []) others in
        let front = front_numbers (new ++ numbers_bound first) rest n in
        let bound : carried_binders variables operator before ≡ types_bound operator before =
        subst (λ (vs : List SequenceType). carried_binders variables operator vs ≡ types_bound operator vs) (taken_before ts before (t ∷ us) number a) (b number) in
        let inside : look_up (types_bound operator before ++ types) 0 ≡ None =
        subst (λ (bs : Types). look_up (bs ++ types) 0 ≡ None) bound
        (none_typed_behind variables (numbers_bound_by operator (map (λ (v : SequenceType). tt) before)) types none_carries none) in
        let f = tree_orderly first (types_bound operator before ++ types) h.0 (numbers_behind new (numbers_bound first) front) w.0 c.0 inside in
        let r = parts_orderly operator ts (before ++ t ∷ []) (suc number) (places ++ tt ∷ []) others types (next_before ts before us t number a) h.1
        (numbers_behind (new ++ numbers_bound first) rest n) w.1 b c.1 none in
        ((f.0, r.0), (f.1, r.1))

  -- ---- declarations

  -- what is compiled from a value that stands where variables have types, also where others have them
  value_orderly : (t : TypedExpression) (types others : Types) → HasItsTypes s t types → AreNumbers (numbers_bound (plain t)) → NamesWrittenTypes (plain t)
      → CarryAllBound variables (typed_expression (compiled t)) → look_up types 0 ≡ None → look_up others 0 ≡ None → IsOrderly variables (compiled t) others
  value_orderly t types others h n w c none here =
      let o = tree_orderly (compiled t) types (tree_again s t types h).0 (subst (λ (ns : List ℕ). AreNumbers ns) (sym (compiled_numbers t)) n) (compiled_written t w) c none in
      record { regular = o.0; positions = o.1; none_typed = here }

  -- what an expression names of variables without 0
  none_named : (e : TypedExpression) (types : Types) → look_up types 0 ≡ None → look_up (types_named e types) 0 ≡ None
  none_named e [] h = refl
  none_named e (b ∷ types) h = by (λ k. none_named e types k) (is_free_in e b.0)
    where
      by : (look_up types 0 ≡ None → look_up (types_named e types) 0 ≡ None) → (free : Bool)
          → look_up (if free then b ∷ types_named e types else types_named e types) 0 ≡ None
      by rest true =
          elim (nat_eq b.0 0) as (λ (same : Bool). (if same then Some b.1 else look_up types 0) ≡ None → (if same then Some b.1 else look_up (types_named e types) 0) ≡ None) [
            | true ↦ λ f. absurd (cc)
            | false ↦ λ f. rest f
          ] h
      by rest false =
          elim (nat_eq b.0 0) as (λ (same : Bool). (if same then Some b.1 else look_up types 0) ≡ None → look_up (types_named e types) 0 ≡ None) [
            | true ↦ λ f. absurd (cc)
            | false ↦ λ f. rest f
          ] h

  declarations_orderly : (ds : List TypedDeclaration) (types others : Types) → DeclarationsHaveTheirTypes s ds types → AreNumbers (declared_numbers (map plain_declaration ds))
      → ValuesNameWrittenTypes (map plain_declaration ds) → CarryBoundInDeclarations variables (map typed_declaration (map compiled_declaration ds))
      → look_up types 0 ≡ None → look_up others 0 ≡ None → AreOrderlyDeclarations variables (map compiled_declaration ds) others
  declarations_orderly [] types others h n w c none here = tt
  declarations_orderly (Global name binder (Some value) ∷ ds) types others h n w c none here =
      let d : TypedDeclaration = Global name binder (Some value) in
      let rest : List ℕ = declared_numbers (map plain_declaration ds) in
      let behind = numbers_behind (numbers_bound (plain value)) (binder.variable ∷ rest) n in (
        value_orderly value types others h.0 (front_numbers (numbers_bound (plain value)) (binder.variable ∷ rest) n) w.0 c.0 none here,
        declarations_orderly ds (global_types d ++ types) (global_types (typed_declaration (compiled_declaration d)) ++ others) h.1
            (numbers_behind (binder.variable ∷ []) rest behind) w.1 c.1 (global_none d ds types n.none none) (compiled_global_none d ds others n.none here),
      )
  declarations_orderly (Global name binder None ∷ ds) types others h n w c none here =
      let d : TypedDeclaration = Global name binder None in (
        tt,
        declarations_orderly ds (global_types d ++ types) (global_types (typed_declaration (compiled_declaration d)) ++ others) h.1
            (numbers_behind (binder.variable ∷ []) (declared_numbers (map plain_declaration ds)) n) w c.1 (global_none d ds types n.none none)
            (compiled_global_none d ds others n.none here),
      )
  declarations_orderly (Function function ∷ ds) types others h n w c none here =
      let rest : List ℕ = declared_numbers (map plain_declaration ds) in
      let bound : List ℕ = numbers_bound (plain function.body) in
      let own = front_numbers (parameter_numbers function.parameters ++ bound) rest n in
      let front = none_in_front (parameter_numbers function.parameters) bound own.none in (
        value_orderly function.body (parameter_types function.parameters ++ types)
            (types_named (typed_expression (compiled function.body)) (parameter_types function.parameters ++ others)) h.0 (numbers_behind (parameter_numbers function.parameters) bound own) w.0 c.0
            (parameters_none function.parameters types front none)
            (none_named (typed_expression (compiled function.body)) (parameter_types function.parameters ++ others) (parameters_none function.parameters others front here)),
        declarations_orderly ds types others h.1 (numbers_behind (parameter_numbers function.parameters ++ bound) rest n) w.1 c.1 none here,
      )

-- ---- the law

pub compiled_plans_are_orderly : CompiledPlansAreOrderly
compiled_plans_are_orderly s query is well =
    let declared : List ℕ = declared_numbers (map plain_declaration query.declarations) in
    let bound : List ℕ = numbers_bound (plain query.body) in
    let variables : Types = variables_of_query (compiled_query query) in
    let have = query_has s (plain_query query) query well.judged in
    let carry = compiled_queries_carry_bound s (plain_query query) query is well.judged well.variables in
    let none = none_carried s query have well.variables in
    let n : AreNumbers (declared ++ bound) = record {
      once = λ number. distinct_once (declared ++ bound) number well.variables.once;
      none = absent (declared ++ bound) 0 well.variables.none;
    } in
    let front = none_in_front declared bound n.none in
    record {
      schemas_kept = is;
      none_carries = none;
      declarations = declarations_orderly s variables none query.declarations [] [] have.declarations (front_numbers declared bound n) well.types.values carry.declarations refl refl;
      body = value_orderly s variables none query.body (types_declared query.declarations []) (types_declared (map typed_declaration (map compiled_declaration query.declarations)) [])
          have.body (numbers_behind declared bound n) well.types.body carry.body (globals_none query.declarations [] front refl) (compiled_globals_none query.declarations [] front refl);
    }
