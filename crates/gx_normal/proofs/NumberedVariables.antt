-- Variables stand in the scopes of their binders, and are numbered once each.
use Rattle.std.proofs.Common.{◌≡◌, ℕ, suc, add-one, ◌+◌, ◌≤◌, length, Bool, true, false, List, [], ◌∷◌, ◌++◌, Some, None, Result, Ok, Err, IfOk, All, refl, sym, subst, arith}
use Rattle.std.proofs.lemmas.List.Elements.{All-nil, All-cons}
use Rattle.gx_base.specs.declared.place.Place.{Place}
use Rattle.gx_types.specs.declared.step.Axis.TheVariants as axes
use Rattle.gx_types.specs.declared.step.Test.TheVariants as tests
use Rattle.gx_funcs.specs.declared.function.Function.{Function}
use Rattle.gx_funcs.specs.declared.function.Function.TheVariants as functions
use Rattle.gx_resolved.specs.declared.tree.Construct.{Construct}
use Rattle.gx_resolved.specs.declared.tree.Construct.TheVariants as written
use Rattle.gx_resolved.specs.declared.tree.Declaration.{Declaration}
use Rattle.gx_resolved.specs.declared.tree.Declaration.TheVariants as declared
use Rattle.gx_resolved.specs.ResolvedTree.{ResolvedTree, ResolvedTrees, resolved_at, no_resolved, a_resolved}
use Rattle.gx_core.specs.Queries.{Core, CoreDeclaration}
use Rattle.gx_core.specs.declared.expression.Declaration.TheVariants as declarations
use Rattle.gx_core.specs.declared.operator.ClauseKind.TheVariants as kinds
use Rattle.gx_core.specs.Expression.{CoreExpression}
use Rattle.gx_core.specs.Invariant.{IsScoped, parameter_numbers, numbers_bound, scope_behind, AreValuesScoped, declared_numbers, HasValueOrType, HasQueryVariablesInOrder}
use Rattle.gx_normal.specs.Constructs.{within, data_around, boolean_around, core_sequence, empty_at, signed_at, cast_at, castable_at, step_at}
use Rattle.gx_normal.specs.Switches.{instance_at, treat_at, branch_or}
use Rattle.gx_normal.specs.declared.signatures.Signatures.{Signatures}
use Rattle.gx_normal.specs.Signatures.{inside_parameters, parameter_binders, signature_called}
use Rattle.gx_resolved.specs.declared.tree.FunctionDeclaration.{FunctionDeclaration}
use Rattle.gx_core.specs.declared.constructor.Constructor.TheVariants as constructors
use Rattle.gx_normal.specs.declared.focus.Focus.{Focus}
use Rattle.gx_normal.specs.declared.clauses.Ending.{Ending}
use Rattle.gx_normal.specs.declared.clauses.Ending.TheVariants.{Returned, Condition, Sorted}
use Rattle.gx_normal.specs.Clauses.{Numbers, numbered_binder, clause_in_front, key_order, ending_of_clauses}
use Rattle.gx_normal.specs.declared.contexts.Asked.TheVariants as asked
use Rattle.gx_normal.specs.declared.contexts.ContextUse.{ContextUse}
use Rattle.gx_normal.specs.declared.contexts.ContextUse.TheVariants as uses
use Rattle.gx_normal.specs.declared.filters.Predicate.{Predicate}
use Rattle.gx_normal.specs.declared.filters.Predicate.TheVariants as predicates
use Rattle.gx_normal.specs.Contexts.{asks_context, path_use, predicate_use, no_focus, focus_with, behind_context}
use Rattle.gx_normal.specs.Filters.{predicate_of, is_reverse_step, filtered_by}
use Rattle.gx_normal.specs.Normalisation.{number_at, constructed, is_to_descendants, left_of_path, core_of, construct_core, cores_of, clauses_core, branch_core, path_core, predicates_core, filtered_core, external_binder, declared_function, function_core, declarations_of, behind_declarations, main_core, is_kept_part, parts_with}
use Rattle.gx_normal.proofs.NumberedConstructs.{Rise, rise_joined, not_among, rising_distinct, IsNumbered, numbers_of, found_among, within_numbered, data_numbered, boolean_numbered, cast_numbered, castable_numbered, signed_numbered, sequence_numbered, conditional_numbered, AreNumbered, rising_order, least, empty_numbered, one_numbered, two_numbered, three_numbered, joining_numbered, call_numbered, instance_numbered, treat_numbered, typeswitch_numbered, case_numbered, default_numbered, constructor_numbered, user_call_numbered, parameters_covered, parameters_rise, have_types}
use Rattle.gx_normal.proofs.NumberedContexts.{let_numbered, for_numbered, for_position_numbered, quantifier_numbered, clause_in_front_numbered, key_in_front_numbered, sorted_numbered, IsCovered, among_itself, covered_more, covered_turned, scope_with, there, covered_with, covered_without, covered_by, found_numbered, context_item_numbered, step_numbered, path_numbered, behind_some, filtered_by_numbered}

module _ (signatures : Signatures) where
  constructed_numbered : (place : Place) (construct : Construct) (scope : List ℕ) (free next : ℕ) (es : List CoreExpression) → AreNumbered scope free next es → IsNumbered scope free next (constructed signatures place construct es)
  constructed_numbered place (written.Number value) scope free next es h = record { scoped = (tt, tt); rising = least scope free next es h }
  constructed_numbered place (written.String characters) scope free next es h = record { scoped = (tt, tt); rising = least scope free next es h }
  constructed_numbered place written.Parenthesised scope free next es h = one_numbered place (within place) (within_numbered place) scope free next es h
  constructed_numbered place (written.CallDeclared name) scope free next es h = user_call_numbered place (signature_called signatures name (length es)) scope free next es h
  constructed_numbered place (written.Call function) scope free next es h = call_numbered place function scope free next es h
  constructed_numbered place written.Sequence scope free next es h = two_numbered place core_sequence sequence_numbered scope free next es h
  constructed_numbered place written.If scope free next es h = three_numbered place scope free next es h
  constructed_numbered place (written.Binary o) scope free next es h = joining_numbered place o scope free next es h
  constructed_numbered place (written.CastableAs kind optional) scope free next es h = one_numbered place (castable_at place kind optional) (castable_numbered place kind optional) scope free next es h
  constructed_numbered place (written.CastAs kind optional) scope free next es h = one_numbered place (cast_at place kind optional) (cast_numbered place kind optional) scope free next es h
  constructed_numbered place (written.InstanceOf kind) scope free next es h = one_numbered place (instance_at place kind) (instance_numbered place kind) scope free next es h
  constructed_numbered place (written.TreatAs kind) scope free next es h = one_numbered place (treat_at place kind) (treat_numbered place kind) scope free next es h
  constructed_numbered place written.Typeswitch scope free next es h = typeswitch_numbered place scope free next es h
  constructed_numbered place (written.Signed minus) scope free next es h = one_numbered place (signed_at place minus) (signed_numbered place minus) scope free next es h
  constructed_numbered place written.Document scope free next es h = constructor_numbered place constructors.Document scope free next es h
  constructed_numbered place written.TextNode scope free next es h = constructor_numbered place constructors.Text scope free next es h
  constructed_numbered place (written.Element name) scope free next es h = constructor_numbered place (constructors.Element name) scope free next es h
  constructed_numbered place (written.Attribute name) scope free next es h = constructor_numbered place (constructors.Attribute name) scope free next es h
  constructed_numbered place (written.DirectElement name) scope free next es h = constructor_numbered place (constructors.Element name) scope free next es h
  constructed_numbered place (written.DirectAttribute name) scope free next es h = constructor_numbered place (constructors.Attribute name) scope free next es h
  constructed_numbered place (written.Blank characters) scope free next es h = record { scoped = (tt, tt); rising = least scope free next es h }
  constructed_numbered place _ scope free next es h = empty_numbered place scope free next (least scope free next es h)

  abbrev IsNumberedCore : List ℕ → ℕ → CoreExpression × ℕ → Type 0
  IsNumberedCore scope free made = IsNumbered scope free made.1 made.0

  left_numbered : (descendants : Bool) (place : Place) (scope : List ℕ) (free : ℕ) (left : CoreExpression × ℕ) → IsNumberedCore scope free left → IsNumberedCore scope free (left_of_path descendants place left)
  left_numbered false place scope free left h = h
  left_numbered true place scope free left h =
      path_numbered uses.Item place scope free left.1 (left.1 + 1) left.0 (step_at place (Some left.1) axes.DescendantOrSelf tests.Node) h (record { scoped = (among_itself left.1 scope, tt); rising = omega arith })

  construct_numbered : (place : Place) (construct : Construct) (scope : List ℕ) (numbers : Numbers) (focus : Focus) (free : ℕ) (parts : List CoreExpression × ℕ) (clauses path filtered : CoreExpression × ℕ)
      → IsCovered scope numbers focus → AreNumbered scope free parts.1 parts.0 → IsNumberedCore scope free clauses → IsNumberedCore scope free path → IsNumberedCore scope free filtered
      → IsNumberedCore scope free (construct_core signatures place construct numbers focus free parts clauses path filtered)
  construct_numbered place (written.Variable name binder) scope numbers focus free parts clauses path filtered c h k l m = found_numbered place scope free (number_at numbers binder) (c.bound binder)
  construct_numbered place written.Context scope numbers focus free parts clauses path filtered c h k l m = context_item_numbered place scope free focus.context.item c.item
  construct_numbered place (written.Call functions.Position) scope numbers focus free parts clauses path filtered c h k l m = context_item_numbered place scope free focus.context.position c.position
  construct_numbered place (written.Call functions.Last) scope numbers focus free parts clauses path filtered c h k l m = context_item_numbered place scope free focus.context.size c.size
  construct_numbered place (written.Step axis asks) scope numbers focus free parts clauses path filtered c h k l m = step_numbered place scope free focus.context.item axis asks c.item
  construct_numbered place written.ParentStep scope numbers focus free parts clauses path filtered c h k l m = step_numbered place scope free focus.context.item axes.Parent tests.Node c.item
  construct_numbered place written.Flwor scope numbers focus free parts clauses path filtered c h k l m = k
  construct_numbered place (written.Quantified every) scope numbers focus free parts clauses path filtered c h k l m = k
  construct_numbered place (written.Path descendants) scope numbers focus free parts clauses path filtered c h k l m = l
  construct_numbered place written.Filtered scope numbers focus free parts clauses path filtered c h k l m = m
  construct_numbered place construct scope numbers focus free parts clauses path filtered c h k l m = constructed_numbered place construct scope free parts.1 parts.0 h

  -- where a number is free, the one behind an expression is
  later_on : (scope : List ℕ) (free next : ℕ) (e : CoreExpression) → 1 ≤ free → IsNumbered scope free next e → 1 ≤ next
  later_on scope free next e p h = omega (arith, p, rising_order free next (numbers_bound e) h.rising)

  filtered_later : (predicate : Predicate) (reverse : Bool) (use' : ContextUse) (place : Place) (n : ℕ) (e : CoreExpression) (condition : CoreExpression × ℕ) → 1 ≤ n → 1 ≤ condition.1
      → 1 ≤ (filtered_by predicate reverse use' place n e condition).1
  filtered_later (predicates.Numbered number) reverse use' place n e condition p q = p
  filtered_later predicates.Last reverse use' place n e condition p q = p
  filtered_later predicates.Condition reverse use' place n e condition p q = omega (arith, q)

  -- what stands for nothing has the numbers of what stands there
  nothing_numbered : (place : Place) (scope inner : List ℕ) (free low next : ℕ) (e : CoreExpression) → free ≤ low → IsNumbered inner low next e → IsNumbered scope free next (empty_at place)
  nothing_numbered place scope inner free low next e l h = empty_numbered place scope free next (omega (arith, l, rising_order low next (numbers_bound e) h.rising))

  branch_or_numbered : (construct : Construct) (scope : List ℕ) (free : ℕ) (branch other : CoreExpression × ℕ) → IsNumberedCore scope free branch → IsNumberedCore scope free other → IsNumberedCore scope free (branch_or construct branch other)
  branch_or_numbered (written.Case bound kind) scope free branch other h k = h
  branch_or_numbered (written.Default bound) scope free branch other h k = h
  branch_or_numbered construct scope free branch other h k = k

  -- a part that stays, or not, in front of others
  parts_with_numbered : (scope : List ℕ) (free : ℕ) (stays : Bool) (e : CoreExpression × ℕ) (others : ℕ → List CoreExpression × ℕ) → 1 ≤ free → IsNumberedCore scope free e
      → ((n : ℕ) → 1 ≤ n → AreNumbered scope n (others n).1 (others n).0) → AreNumbered scope free (parts_with stays e others free).1 (parts_with stays e others free).0
  parts_with_numbered scope free true e others p h k = (e.1, h, k e.1 (later_on scope free e.1 e.0 p h))
  parts_with_numbered scope free false e others p h k = k free p

  mutual
    core_numbered : (tree : ResolvedTree) (scope : List ℕ) (numbers : Numbers) (focus : Focus) (free : ℕ) → IsCovered scope numbers focus → 1 ≤ free → IsNumberedCore scope free (core_of signatures tree numbers focus free)
    core_numbered (resolved_at place construct parts) scope numbers focus free c p =
        branch_or_numbered construct scope free (branch_core signatures place construct parts numbers focus free)
        (construct_core signatures place construct numbers focus free (cores_of signatures parts numbers focus free) (clauses_core signatures (ending_of_clauses construct parts focus.greatest) place parts numbers focus free) (path_core signatures (is_to_descendants construct) place parts numbers focus free)
        (predicates_core signatures place parts numbers focus free))
        (branch_core_numbered place construct parts scope numbers focus free c p)
        (construct_numbered place construct scope numbers focus free (cores_of signatures parts numbers focus free) (clauses_core signatures (ending_of_clauses construct parts focus.greatest) place parts numbers focus free) (path_core signatures (is_to_descendants construct) place parts numbers focus free)
        (predicates_core signatures place parts numbers focus free) c
        (cores_numbered parts scope numbers focus free c p) (clauses_numbered (ending_of_clauses construct parts focus.greatest) place parts scope numbers focus free c p) (path_parts_numbered (is_to_descendants construct) place parts scope numbers focus free c p)
        (predicates_numbered place parts scope numbers focus free c p))

    cores_numbered : (parts : ResolvedTrees) (scope : List ℕ) (numbers : Numbers) (focus : Focus) (free : ℕ) → IsCovered scope numbers focus → 1 ≤ free
        → AreNumbered scope free (cores_of signatures parts numbers focus free).1 (cores_of signatures parts numbers focus free).0
    cores_numbered no_resolved scope numbers focus free c p = omega arith
    cores_numbered (a_resolved first others) scope numbers focus free c p =
        parts_with_numbered scope free (is_kept_part focus first) (core_of signatures first numbers focus free) (cores_of signatures others numbers focus) p (core_numbered first scope numbers focus free c p)
        (λ n q. cores_numbered others scope numbers focus n c q)

    clauses_numbered : (ending : Ending) (place : Place) (parts : ResolvedTrees) (scope : List ℕ) (numbers : Numbers) (focus : Focus) (free : ℕ) → IsCovered scope numbers focus → 1 ≤ free
        → IsNumberedCore scope free (clauses_core signatures ending place parts numbers focus free)
    clauses_numbered ending place no_resolved scope numbers focus free c p = empty_numbered place scope free free (omega arith)
    clauses_numbered (Sorted greatest) place (a_resolved (resolved_at there (written.For bound None) (a_resolved source more)) others) scope numbers focus free c p =
        let middle = (core_of signatures source numbers focus free).1 in
        let rest = clauses_core signatures (Sorted greatest) place others ((bound.place, middle) ∷ numbers) focus (middle + 1) in
        clause_in_front_numbered place (kinds.For (numbered_binder bound middle) 0) scope free middle (middle + 1) rest.1 (core_of signatures source numbers focus free).0 rest.0 (core_numbered source scope numbers focus free c p) (omega arith, omega arith)
        (clauses_numbered (Sorted greatest) place others (middle ∷ scope) ((bound.place, middle) ∷ numbers) focus (middle + 1) (covered_more scope numbers focus bound.place middle c) (omega arith))
    clauses_numbered (Sorted greatest) place (a_resolved (resolved_at there (written.For bound (Some position)) (a_resolved source more)) others) scope numbers focus free c p =
        let middle = (core_of signatures source numbers focus free).1 in
        let inner : Numbers = (position.place, middle + 1) ∷ (bound.place, middle) ∷ numbers in
        let rest = clauses_core signatures (Sorted greatest) place others inner focus (middle + 2) in
        let r = clauses_numbered (Sorted greatest) place others (middle ∷ (middle + 1) ∷ scope) inner focus (middle + 2)
        (covered_turned middle (middle + 1) scope inner focus
        (covered_more (middle ∷ scope) ((bound.place, middle) ∷ numbers) focus position.place (middle + 1) (covered_more scope numbers focus bound.place middle c))) (omega arith) in
        subst (λ (number : ℕ). IsNumbered scope free rest.1 (clause_in_front place (kinds.For (numbered_binder bound middle) number) (core_of signatures source numbers focus free).0 rest.0)) (sym (add-one middle))
        (clause_in_front_numbered place (kinds.For (numbered_binder bound middle) (suc middle)) scope free middle (middle + 2) rest.1 (core_of signatures source numbers focus free).0 rest.0 (core_numbered source scope numbers focus free c p)
        (omega arith, (omega arith, omega arith)) (subst (λ (number : ℕ). IsNumbered (middle ∷ number ∷ scope) (middle + 2) rest.1 rest.0) (add-one middle) r))
    clauses_numbered (Sorted greatest) place (a_resolved (resolved_at there (written.Let bound) (a_resolved value more)) others) scope numbers focus free c p =
        let middle = (core_of signatures value numbers focus free).1 in
        let rest = clauses_core signatures (Sorted greatest) place others ((bound.place, middle) ∷ numbers) focus (middle + 1) in
        clause_in_front_numbered place (kinds.Let (numbered_binder bound middle)) scope free middle (middle + 1) rest.1 (core_of signatures value numbers focus free).0 rest.0 (core_numbered value scope numbers focus free c p) (omega arith, omega arith)
        (clauses_numbered (Sorted greatest) place others (middle ∷ scope) ((bound.place, middle) ∷ numbers) focus (middle + 1) (covered_more scope numbers focus bound.place middle c) (omega arith))
    clauses_numbered (Sorted greatest) place (a_resolved (resolved_at there written.Where (a_resolved condition more)) others) scope numbers focus free c p =
        let middle = (core_of signatures condition numbers focus free).1 in
        let rest = clauses_core signatures (Sorted greatest) place others numbers focus middle in
        clause_in_front_numbered place kinds.Where scope free middle middle rest.1 (boolean_around (core_of signatures condition numbers focus free).0) rest.0
        (boolean_numbered scope free middle (core_of signatures condition numbers focus free).0 (core_numbered condition scope numbers focus free c p)) (omega arith)
        (clauses_numbered (Sorted greatest) place others scope numbers focus middle c (later_on scope free middle (core_of signatures condition numbers focus free).0 p (core_numbered condition scope numbers focus free c p)))
    clauses_numbered (Sorted greatest) place (a_resolved (resolved_at there (written.Key order) (a_resolved key more)) others) scope numbers focus free c p =
        let middle = (core_of signatures key numbers focus free).1 in
        let rest = clauses_core signatures (Sorted greatest) place others numbers focus middle in
        key_in_front_numbered place (key_order greatest order) scope free middle rest.1 (data_around (core_of signatures key numbers focus free).0) rest.0
        (data_numbered scope free middle (core_of signatures key numbers focus free).0 (core_numbered key scope numbers focus free c p)) (clauses_numbered (Sorted greatest) place others scope numbers focus middle c (later_on scope free middle (core_of signatures key numbers focus free).0 p (core_numbered key scope numbers focus free c p)))
    clauses_numbered ending place (a_resolved (resolved_at there (written.Key order) (a_resolved key more)) others) scope numbers focus free c p =
        let middle = (core_of signatures key numbers focus free).1 in
        let rest = clauses_numbered ending place others scope numbers focus middle c (later_on scope free middle (core_of signatures key numbers focus free).0 p (core_numbered key scope numbers focus free c p)) in
        let l = rising_order free middle (numbers_bound (core_of signatures key numbers focus free).0) (core_numbered key scope numbers focus free c p).rising in
        let m = rising_order middle (clauses_core signatures ending place others numbers focus middle).1 (numbers_bound (clauses_core signatures ending place others numbers focus middle).0) rest.rising in
        empty_numbered place scope free (clauses_core signatures ending place others numbers focus middle).1 (omega (arith, l, m))
    clauses_numbered ending place (a_resolved (resolved_at there (written.For bound None) (a_resolved source more)) others) scope numbers focus free c p =
        let middle = (core_of signatures source numbers focus free).1 in
        let rest = clauses_core signatures ending place others ((bound.place, middle) ∷ numbers) focus (middle + 1) in
        for_numbered place bound scope free middle rest.1 (core_of signatures source numbers focus free).0 rest.0 (core_numbered source scope numbers focus free c p)
        (clauses_numbered ending place others (middle ∷ scope) ((bound.place, middle) ∷ numbers) focus (middle + 1) (covered_more scope numbers focus bound.place middle c) (omega arith))
    clauses_numbered ending place (a_resolved (resolved_at there (written.For bound (Some position)) (a_resolved source more)) others) scope numbers focus free c p =
        let middle = (core_of signatures source numbers focus free).1 in
        let inner : Numbers = (position.place, middle + 1) ∷ (bound.place, middle) ∷ numbers in
        let rest = clauses_core signatures ending place others inner focus (middle + 2) in
        for_position_numbered place bound scope free middle rest.1 (core_of signatures source numbers focus free).0 rest.0 (core_numbered source scope numbers focus free c p)
        (clauses_numbered ending place others (middle ∷ (middle + 1) ∷ scope) inner focus (middle + 2)
        (covered_turned middle (middle + 1) scope inner focus
        (covered_more (middle ∷ scope) ((bound.place, middle) ∷ numbers) focus position.place (middle + 1) (covered_more scope numbers focus bound.place middle c))) (omega arith))
    clauses_numbered ending place (a_resolved (resolved_at there (written.Let bound) (a_resolved value more)) others) scope numbers focus free c p =
        let middle = (core_of signatures value numbers focus free).1 in
        let rest = clauses_core signatures ending place others ((bound.place, middle) ∷ numbers) focus (middle + 1) in
        let_numbered place bound scope free middle rest.1 (core_of signatures value numbers focus free).0 rest.0 (core_numbered value scope numbers focus free c p)
        (clauses_numbered ending place others (middle ∷ scope) ((bound.place, middle) ∷ numbers) focus (middle + 1) (covered_more scope numbers focus bound.place middle c) (omega arith))
    clauses_numbered ending place (a_resolved (resolved_at there written.Where (a_resolved condition more)) others) scope numbers focus free c p =
        let middle = (core_of signatures condition numbers focus free).1 in
        let rest = clauses_core signatures ending place others numbers focus middle in
        let r = clauses_numbered ending place others scope numbers focus middle c (later_on scope free middle (core_of signatures condition numbers focus free).0 p (core_numbered condition scope numbers focus free c p)) in
        conditional_numbered place scope free middle rest.1 rest.1 (core_of signatures condition numbers focus free).0 rest.0 (empty_at place) (core_numbered condition scope numbers focus free c p) r
        (empty_numbered place scope rest.1 rest.1 (omega arith))
    clauses_numbered Returned place (a_resolved (resolved_at there (written.In bound) (a_resolved source more)) others) scope numbers focus free c p =
        let middle = (core_of signatures source numbers focus free).1 in
        let rest = clauses_numbered Returned place others (middle ∷ scope) ((bound.place, middle) ∷ numbers) focus (middle + 1) (covered_more scope numbers focus bound.place middle c) (omega arith) in
        let s = core_numbered source scope numbers focus free c p in
        let l = rising_order free middle (numbers_bound (core_of signatures source numbers focus free).0) s.rising in
        let m = rising_order (middle + 1) (clauses_core signatures Returned place others ((bound.place, middle) ∷ numbers) focus (middle + 1)).1 (numbers_bound (clauses_core signatures Returned place others ((bound.place, middle) ∷ numbers) focus (middle + 1)).0) rest.rising in
        empty_numbered place scope free (clauses_core signatures Returned place others ((bound.place, middle) ∷ numbers) focus (middle + 1)).1 (omega (arith, l, m))
    clauses_numbered (Sorted greatest) place (a_resolved (resolved_at there (written.In bound) (a_resolved source more)) others) scope numbers focus free c p =
        let middle = (core_of signatures source numbers focus free).1 in
        let rest = clauses_numbered (Sorted greatest) place others (middle ∷ scope) ((bound.place, middle) ∷ numbers) focus (middle + 1) (covered_more scope numbers focus bound.place middle c) (omega arith) in
        let s = core_numbered source scope numbers focus free c p in
        let l = rising_order free middle (numbers_bound (core_of signatures source numbers focus free).0) s.rising in
        let m = rising_order (middle + 1) (clauses_core signatures (Sorted greatest) place others ((bound.place, middle) ∷ numbers) focus (middle + 1)).1 (numbers_bound (clauses_core signatures (Sorted greatest) place others ((bound.place, middle) ∷ numbers) focus (middle + 1)).0) rest.rising in
        empty_numbered place scope free (clauses_core signatures (Sorted greatest) place others ((bound.place, middle) ∷ numbers) focus (middle + 1)).1 (omega (arith, l, m))
    clauses_numbered (Condition every) place (a_resolved (resolved_at there (written.In bound) (a_resolved source more)) others) scope numbers focus free c p =
        let middle = (core_of signatures source numbers focus free).1 in
        let rest = clauses_core signatures (Condition every) place others ((bound.place, middle) ∷ numbers) focus (middle + 1) in
        quantifier_numbered every place bound scope free middle rest.1 (core_of signatures source numbers focus free).0 rest.0 (core_numbered source scope numbers focus free c p)
        (clauses_numbered (Condition every) place others (middle ∷ scope) ((bound.place, middle) ∷ numbers) focus (middle + 1) (covered_more scope numbers focus bound.place middle c) (omega arith))
    clauses_numbered Returned place (a_resolved last others) scope numbers focus free c p = core_numbered last scope numbers focus free c p
    clauses_numbered (Sorted greatest) place (a_resolved last others) scope numbers focus free c p =
        sorted_numbered greatest scope free (core_of signatures last numbers focus free).1 (core_of signatures last numbers focus free).0 (core_numbered last scope numbers focus free c p)
    clauses_numbered (Condition every) place (a_resolved last others) scope numbers focus free c p =
        boolean_numbered scope free (core_of signatures last numbers focus free).1 (core_of signatures last numbers focus free).0 (core_numbered last scope numbers focus free c p)

    branch_core_numbered : (place : Place) (construct : Construct) (parts : ResolvedTrees) (scope : List ℕ) (numbers : Numbers) (focus : Focus) (free : ℕ) → IsCovered scope numbers focus → 1 ≤ free
        → IsNumberedCore scope free (branch_core signatures place construct parts numbers focus free)
    branch_core_numbered place (written.Case None kind) (a_resolved body no_resolved) scope numbers focus free c p =
        case_numbered place None kind scope free (core_of signatures body numbers focus free).1 (core_of signatures body numbers focus free).0 p (core_numbered body scope numbers focus free c p)
    branch_core_numbered place (written.Case (Some bound) kind) (a_resolved body no_resolved) scope numbers focus free c p =
        let inner : Numbers = (bound.place, free) ∷ numbers in
        case_numbered place (Some bound) kind scope free (core_of signatures body inner focus (free + 1)).1 (core_of signatures body inner focus (free + 1)).0 p
        (core_numbered body (free ∷ scope) inner focus (free + 1) (covered_more scope numbers focus bound.place free c) (omega arith))
    branch_core_numbered place (written.Default None) (a_resolved body no_resolved) scope numbers focus free c p =
        default_numbered place None scope free (core_of signatures body numbers focus free).1 (core_of signatures body numbers focus free).0 p (core_numbered body scope numbers focus free c p)
    branch_core_numbered place (written.Default (Some bound)) (a_resolved body no_resolved) scope numbers focus free c p =
        let inner : Numbers = (bound.place, free) ∷ numbers in
        default_numbered place (Some bound) scope free (core_of signatures body inner focus (free + 1)).1 (core_of signatures body inner focus (free + 1)).0 p
        (core_numbered body (free ∷ scope) inner focus (free + 1) (covered_more scope numbers focus bound.place free c) (omega arith))
    branch_core_numbered place construct (a_resolved body (a_resolved other more)) scope numbers focus free c p = empty_numbered place scope free free (omega arith)
    branch_core_numbered place construct no_resolved scope numbers focus free c p = empty_numbered place scope free free (omega arith)
    branch_core_numbered place (written.For bound None) (a_resolved body no_resolved) scope numbers focus free c p =
        let inner : Numbers = (bound.place, free) ∷ numbers in
        nothing_numbered place scope (free ∷ scope) free (free + 1) (core_of signatures body inner focus (free + 1)).1 (core_of signatures body inner focus (free + 1)).0 (omega arith)
        (core_numbered body (free ∷ scope) inner focus (free + 1) (covered_more scope numbers focus bound.place free c) (omega arith))
    branch_core_numbered place (written.For bound (Some position)) (a_resolved body no_resolved) scope numbers focus free c p =
        let inner : Numbers = (position.place, free + 1) ∷ (bound.place, free) ∷ numbers in
        nothing_numbered place scope ((free + 1) ∷ free ∷ scope) free (free + 2) (core_of signatures body inner focus (free + 2)).1 (core_of signatures body inner focus (free + 2)).0 (omega arith)
        (core_numbered body ((free + 1) ∷ free ∷ scope) inner focus (free + 2)
        (covered_more (free ∷ scope) ((bound.place, free) ∷ numbers) focus position.place (free + 1) (covered_more scope numbers focus bound.place free c)) (omega arith))
    branch_core_numbered place (written.Let bound) (a_resolved body no_resolved) scope numbers focus free c p =
        let inner : Numbers = (bound.place, free) ∷ numbers in
        nothing_numbered place scope (free ∷ scope) free (free + 1) (core_of signatures body inner focus (free + 1)).1 (core_of signatures body inner focus (free + 1)).0 (omega arith)
        (core_numbered body (free ∷ scope) inner focus (free + 1) (covered_more scope numbers focus bound.place free c) (omega arith))
    branch_core_numbered place (written.In bound) (a_resolved body no_resolved) scope numbers focus free c p =
        let inner : Numbers = (bound.place, free) ∷ numbers in
        nothing_numbered place scope (free ∷ scope) free (free + 1) (core_of signatures body inner focus (free + 1)).1 (core_of signatures body inner focus (free + 1)).0 (omega arith)
        (core_numbered body (free ∷ scope) inner focus (free + 1) (covered_more scope numbers focus bound.place free c) (omega arith))
    branch_core_numbered place construct (a_resolved body no_resolved) scope numbers focus free c p =
        nothing_numbered place scope scope free free (core_of signatures body numbers focus free).1 (core_of signatures body numbers focus free).0 (omega arith) (core_numbered body scope numbers focus free c p)

    path_parts_numbered : (descendants : Bool) (place : Place) (parts : ResolvedTrees) (scope : List ℕ) (numbers : Numbers) (focus : Focus) (free : ℕ) → IsCovered scope numbers focus → 1 ≤ free
        → IsNumberedCore scope free (path_core signatures descendants place parts numbers focus free)
    path_parts_numbered descendants place (a_resolved first (a_resolved second no_resolved)) scope numbers focus free c p =
        let a = left_of_path descendants place (core_of signatures first numbers focus free) in
        let use' = path_use (asks_context asked.Position second) (asks_context asked.Last second) in
        let b = core_of signatures second numbers (focus_with focus use' a.1) (behind_context use' a.1) in
        path_numbered use' place scope free a.1 b.1 a.0 b.0 (left_numbered descendants place scope free (core_of signatures first numbers focus free) (core_numbered first scope numbers focus free c p))
        (core_numbered second (scope_with use' a.1 scope) numbers (focus_with focus use' a.1) (behind_context use' a.1) (covered_with use' scope numbers focus a.1 c) (behind_some use' a.1))
    path_parts_numbered descendants place _ scope numbers focus free c p = empty_numbered place scope free free (omega arith)

    predicates_numbered : (place : Place) (parts : ResolvedTrees) (scope : List ℕ) (numbers : Numbers) (focus : Focus) (free : ℕ) → IsCovered scope numbers focus → 1 ≤ free → IsNumberedCore scope free (predicates_core signatures place parts numbers focus free)
    predicates_numbered place no_resolved scope numbers focus free c p = empty_numbered place scope free free (omega arith)
    predicates_numbered place (a_resolved operand predicates) scope numbers focus free c p =
        let e = core_of signatures operand numbers focus free in
        filtered_numbered (is_reverse_step operand) place e.0 predicates scope numbers focus free e.1 c (later_on scope free e.1 e.0 p (core_numbered operand scope numbers focus free c p)) (core_numbered operand scope numbers focus free c p)

    filtered_numbered : (reverse : Bool) (place : Place) (e : CoreExpression) (predicates : ResolvedTrees) (scope : List ℕ) (numbers : Numbers) (focus : Focus) (free n : ℕ) → IsCovered scope numbers focus → 1 ≤ n → IsNumbered scope free n e
        → IsNumberedCore scope free (filtered_core signatures reverse place e predicates numbers focus n)
    filtered_numbered reverse place e no_resolved scope numbers focus free n c p h = h
    filtered_numbered reverse place e (a_resolved predicate others) scope numbers focus free n c p h =
        let use' = predicate_use reverse (asks_context asked.Last predicate) in
        let condition = core_of signatures predicate numbers (focus_with focus use' n) (behind_context use' n) in
        let f = filtered_by (predicate_of predicate) reverse use' place n e condition in
        let inner = core_numbered predicate (scope_with use' n scope) numbers (focus_with focus use' n) (behind_context use' n) (covered_with use' scope numbers focus n c) (behind_some use' n) in
        filtered_numbered reverse place f.0 others scope numbers focus free f.1 c
        (filtered_later (predicate_of predicate) reverse use' place n e condition p (later_on (scope_with use' n scope) (behind_context use' n) condition.1 condition.0 (behind_some use' n) inner))
        (filtered_by_numbered (predicate_of predicate) reverse use' place scope numbers focus free n e condition c h inner)

  -- ---- whole queries

  abbrev scope_of : (greatest blanks : Bool) → List Declaration → Numbers → ℕ → List ℕ
  scope_of greatest blanks declarations numbers free = numbers_of (behind_declarations signatures (no_focus greatest blanks) declarations numbers free).0

  scope_is : (greatest blanks : Bool) (ds : List Declaration) (numbers : Numbers) (free : ℕ) → scope_behind (declarations_of signatures (no_focus greatest blanks) ds numbers free) (numbers_of numbers) ≡ scope_of greatest blanks ds numbers free
  scope_is greatest blanks [] numbers free = refl
  scope_is greatest blanks (declared.Global g ∷ ds) numbers free =
      let middle = (core_of signatures g.value numbers (no_focus greatest blanks) free).1 in scope_is greatest blanks ds ((g.bound.place, middle) ∷ numbers) (middle + 1)
  scope_is greatest blanks (declared.External e ∷ ds) numbers free = scope_is greatest blanks ds ((e.bound.place, free) ∷ numbers) (free + 1)
  scope_is greatest blanks (declared.Function f ∷ ds) numbers free = scope_is greatest blanks ds numbers (function_core signatures f numbers (no_focus greatest blanks) free).1

  -- the parameters and the body of a function
  function_numbered : (greatest blanks : Bool) (f : FunctionDeclaration) (numbers : Numbers) (free : ℕ) → 1 ≤ free
      → IsNumbered (parameter_numbers (parameter_binders f.parameters free) ++ numbers_of numbers) (free + length f.parameters)
      (function_core signatures f numbers (no_focus greatest blanks) free).1 (function_core signatures f numbers (no_focus greatest blanks) free).0
  function_numbered greatest blanks f numbers free p =
      core_numbered f.body (parameter_numbers (parameter_binders f.parameters free) ++ numbers_of numbers) (inside_parameters f.parameters free numbers) (no_focus greatest blanks) (free + length f.parameters)
      (covered_by (parameter_numbers (parameter_binders f.parameters free) ++ numbers_of numbers) (inside_parameters f.parameters free numbers) greatest blanks
      (λ binder k e. parameters_covered f.parameters free numbers (numbers_of numbers) (λ b j g. found_among numbers b j g) binder k e)) (omega (arith, p))

  behind_function : (greatest blanks : Bool) (f : FunctionDeclaration) (numbers : Numbers) (free : ℕ) → 1 ≤ free → 1 ≤ (function_core signatures f numbers (no_focus greatest blanks) free).1
  behind_function greatest blanks f numbers free p =
      let h = function_numbered greatest blanks f numbers free p in
      let b = function_core signatures f numbers (no_focus greatest blanks) free in
      omega (arith, p, rising_order (free + length f.parameters) b.1 (numbers_bound b.0) h.rising)

  values_scoped : (greatest blanks : Bool) (ds : List Declaration) (numbers : Numbers) (free : ℕ) → 1 ≤ free → AreValuesScoped (numbers_of numbers) (declarations_of signatures (no_focus greatest blanks) ds numbers free)
  values_scoped greatest blanks [] numbers free p = tt
  values_scoped greatest blanks (declared.Global g ∷ ds) numbers free p =
      let middle = (core_of signatures g.value numbers (no_focus greatest blanks) free).1 in
      ((core_numbered g.value (numbers_of numbers) numbers (no_focus greatest blanks) free (covered_without numbers greatest blanks) p).scoped, values_scoped greatest blanks ds ((g.bound.place, middle) ∷ numbers) (middle + 1) (omega arith))
  values_scoped greatest blanks (declared.External e ∷ ds) numbers free p = (tt, values_scoped greatest blanks ds ((e.bound.place, free) ∷ numbers) (free + 1) (omega arith))
  values_scoped greatest blanks (declared.Function f ∷ ds) numbers free p =
      let h = function_numbered greatest blanks f numbers free p in
      (h.scoped, values_scoped greatest blanks ds numbers (function_core signatures f numbers (no_focus greatest blanks) free).1 (behind_function greatest blanks f numbers free p))

  variables_rising : (greatest blanks : Bool) (ds : List Declaration) (numbers : Numbers) (free : ℕ) → 1 ≤ free → Rise free (behind_declarations signatures (no_focus greatest blanks) ds numbers free).1 (declared_numbers (declarations_of signatures (no_focus greatest blanks) ds numbers free))
  variables_rising greatest blanks [] numbers free p = omega arith
  variables_rising greatest blanks (declared.Global g ∷ ds) numbers free p =
      let middle = (core_of signatures g.value numbers (no_focus greatest blanks) free).1 in
      let next = (behind_declarations signatures (no_focus greatest blanks) ds ((g.bound.place, middle) ∷ numbers) (middle + 1)).1 in
      rise_joined free middle next (numbers_bound (core_of signatures g.value numbers (no_focus greatest blanks) free).0) (middle ∷ declared_numbers (declarations_of signatures (no_focus greatest blanks) ds ((g.bound.place, middle) ∷ numbers) (middle + 1)))
      (core_numbered g.value (numbers_of numbers) numbers (no_focus greatest blanks) free (covered_without numbers greatest blanks) p).rising (omega arith, variables_rising greatest blanks ds ((g.bound.place, middle) ∷ numbers) (middle + 1) (omega arith))
  variables_rising greatest blanks (declared.External e ∷ ds) numbers free p = (omega arith, variables_rising greatest blanks ds ((e.bound.place, free) ∷ numbers) (free + 1) (omega arith))
  variables_rising greatest blanks (declared.Function f ∷ ds) numbers free p =
      let b = function_core signatures f numbers (no_focus greatest blanks) free in
      let next = (behind_declarations signatures (no_focus greatest blanks) ds numbers b.1).1 in
      let inner = free + length f.parameters in
      let declared' = declared_numbers (declarations_of signatures (no_focus greatest blanks) ds numbers b.1) in
      rise_joined free b.1 next (parameter_numbers (parameter_binders f.parameters free) ++ numbers_bound b.0) declared'
      (rise_joined free inner b.1 (parameter_numbers (parameter_binders f.parameters free)) (numbers_bound b.0) (parameters_rise f.parameters free) (function_numbered greatest blanks f numbers free p).rising)
      (variables_rising greatest blanks ds numbers b.1 (behind_function greatest blanks f numbers free p))

  have_values : (greatest blanks : Bool) (ds : List Declaration) (numbers : Numbers) (free : ℕ) → All HasValueOrType (declarations_of signatures (no_focus greatest blanks) ds numbers free)
  have_values greatest blanks [] numbers free = All-nil HasValueOrType
  have_values greatest blanks (declared.Global g ∷ ds) numbers free =
      let v = core_of signatures g.value numbers (no_focus greatest blanks) free in
      let d : CoreDeclaration = declarations.Global g.bound.name (numbered_binder g.bound v.1) (Some v.0) in
      All-cons HasValueOrType d (declarations_of signatures (no_focus greatest blanks) ds ((g.bound.place, v.1) ∷ numbers) (v.1 + 1)) tt (have_values greatest blanks ds ((g.bound.place, v.1) ∷ numbers) (v.1 + 1))
  have_values greatest blanks (declared.External e ∷ ds) numbers free =
      let d : CoreDeclaration = declarations.Global e.bound.name (external_binder e.bound free) None in
      All-cons HasValueOrType d (declarations_of signatures (no_focus greatest blanks) ds ((e.bound.place, free) ∷ numbers) (free + 1)) refl (have_values greatest blanks ds ((e.bound.place, free) ∷ numbers) (free + 1))
  have_values greatest blanks (declared.Function f ∷ ds) numbers free =
      let b = function_core signatures f numbers (no_focus greatest blanks) free in
      All-cons HasValueOrType (declarations.Function (declared_function f free b.0)) (declarations_of signatures (no_focus greatest blanks) ds numbers b.1) (have_types f.parameters free) (have_values greatest blanks ds numbers b.1)

  pub query_in_order : (greatest blanks : Bool) (ds : List Declaration) (tree : ResolvedTree) → HasQueryVariablesInOrder (main_core signatures (no_focus greatest blanks) ds tree)
  query_in_order greatest blanks ds tree =
      let behind = behind_declarations signatures (no_focus greatest blanks) ds [] 1 in
      let body = core_of signatures tree behind.0 (no_focus greatest blanks) behind.1 in
      let numbered = core_numbered tree (numbers_of behind.0) behind.0 (no_focus greatest blanks) behind.1 (covered_without behind.0 greatest blanks)
      (rising_order 1 behind.1 (declared_numbers (declarations_of signatures (no_focus greatest blanks) ds [] 1)) (variables_rising greatest blanks ds [] 1 (omega arith))) in
      let rising : Rise 1 body.1 (declared_numbers (declarations_of signatures (no_focus greatest blanks) ds [] 1) ++ numbers_bound body.0) =
      rise_joined 1 behind.1 body.1 (declared_numbers (declarations_of signatures (no_focus greatest blanks) ds [] 1)) (numbers_bound body.0) (variables_rising greatest blanks ds [] 1 (omega arith)) numbered.rising in
      record {
        values = values_scoped greatest blanks ds [] 1 (omega arith);
        body = subst (λ (scope : List ℕ). IsScoped scope body.0) (sym (scope_is greatest blanks ds [] 1)) numbered.scoped;
        once = rising_distinct 1 body.1 (declared_numbers (declarations_of signatures (no_focus greatest blanks) ds [] 1) ++ numbers_bound body.0) rising;
        none = not_among 1 body.1 0 (declared_numbers (declarations_of signatures (no_focus greatest blanks) ds [] 1) ++ numbers_bound body.0) (omega arith) rising;
        externals = have_values greatest blanks ds [] 1;
      }

  pub made_in_order : {E : Type 0} (greatest blanks : Bool) (ds : List Declaration) (tree : ResolvedTree) (made : Result Core E) → IfOk made (λ core. core ≡ main_core signatures (no_focus greatest blanks) ds tree) → IfOk made (λ core. HasQueryVariablesInOrder core)
  made_in_order greatest blanks ds tree (Ok core) h = subst (λ (c : Core). HasQueryVariablesInOrder c) (sym h) (query_in_order greatest blanks ds tree)
  made_in_order greatest blanks ds tree (Err error) h = tt
