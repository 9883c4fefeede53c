-- From resolved trees to Core: the numbers of variables, and what each construct stands for (XQuery 1.0 and XPath 2.0 Formal Semantics, section 4).
use Rattle.std.specs.Prelude.{ℕ, ◌+◌, Bool, true, false, ◌==◌, ◌&&◌, List, [], ◌∷◌, ◌++◌, length, Option, None, Some}
use Rattle.gx_base.specs.declared.place.Place.{Place}
use Rattle.gx_types.specs.SequenceType.{SequenceType, item}
use Rattle.gx_types.specs.declared.item_type.ItemType.TheVariants as items
use Rattle.gx_types.specs.declared.step.Axis.TheVariants as axes
use Rattle.gx_types.specs.declared.step.Test.TheVariants as tests
use Rattle.gx_resolved.specs.declared.tree.BoundName.{BoundName}
use Rattle.gx_resolved.specs.declared.tree.Construct.{Construct}
use Rattle.gx_resolved.specs.declared.tree.Construct.TheVariants as written
use Rattle.gx_resolved.specs.declared.tree.Declaration.{Declaration}
use Rattle.gx_resolved.specs.declared.tree.Declaration.TheVariants as declared
use Rattle.gx_resolved.specs.declared.tree.FunctionDeclaration.{FunctionDeclaration}
use Rattle.gx_resolved.specs.declared.tree.Resolved.{Resolved}
use Rattle.gx_resolved.specs.NestedMap.{innermost_value}
use Rattle.gx_resolved.specs.ResolvedTree.{ResolvedTree, ResolvedTrees, resolved_at, no_resolved, a_resolved}
use Rattle.gx_funcs.specs.declared.function.Function.TheVariants as functions
use Rattle.gx_funcs.specs.Function.{string_atom}
use Rattle.gx_core.specs.declared.expression.Binder.{Binder}
use Rattle.gx_core.specs.Queries.{Core, CoreDeclaration, CoreFunction}
use Rattle.gx_core.specs.declared.expression.Declaration.TheVariants.{Global, Function}
use Rattle.gx_core.specs.declared.operator.Operator.TheVariants as operators
use Rattle.gx_funcs.specs.Numbers.{number_atom}
use Rattle.gx_core.specs.Expression.{CoreExpression, no_parts, core_at}
use Rattle.gx_normal.specs.Constructs.{within, literal_at, core_sequence, call_of, empty_at, of_one, conditional_at, signed_at, cast_at, castable_at, joining, context_item_at, step_at, constructor_at}
use Rattle.gx_normal.specs.declared.signatures.Signatures.{Signatures}
use Rattle.gx_normal.specs.Signatures.{inside_parameters, parameter_binders, signature_called, signatures_of, type_or_items, user_call_at}
use Rattle.gx_normal.specs.Switches.{instance_at, treat_at, branch_at, typeswitch_at, branch_or}
use Rattle.gx_core.specs.declared.constructor.Constructor.TheVariants as constructors
use Rattle.gx_normal.specs.declared.contexts.Asked.TheVariants as asked
use Rattle.gx_normal.specs.declared.contexts.ContextUse.TheVariants.{Item}
use Rattle.gx_normal.specs.Contexts.{asks_context, path_use, predicate_use, no_focus, focus_with, behind_context, path_with}
use Rattle.gx_normal.specs.declared.focus.Focus.{Focus}
use Rattle.gx_normal.specs.Filters.{predicate_of, is_reverse_step, filtered_by}
use Rattle.gx_normal.specs.Clauses.{Numbers, numbered_binder, clause_numbers, behind_clause, clause_at, ended, ending_of_clauses, is_empty_greatest}
use Rattle.gx_normal.specs.declared.clauses.Ending.{Ending}

-- ---- variables

abbrev pub same_place : Place → Place → Bool
same_place a b = a.line == b.line && a.column == b.column

abbrev pub number_at : Numbers → Place → Option ℕ
number_at numbers binder = innermost_value same_place numbers binder

-- a variable, by the number of its binder
abbrev pub variable_at : Place → Option ℕ → CoreExpression
variable_at place None = empty_at place
variable_at place (Some number) = core_at place place (operators.Var number) no_parts

-- the binder of an external variable, whose type is written: a document
abbrev pub declared_type : Option SequenceType → SequenceType
declared_type None = item (items.Document None)
declared_type (Some kind) = kind

abbrev pub external_binder : BoundName → ℕ → Binder
external_binder bound number = record { variable = number; place = bound.place; kind = Some (declared_type bound.kind) }

-- ---- constructs over the Core of their parts; over another number of parts than theirs they stand for nothing

abbrev pub of_two : Place → (CoreExpression → CoreExpression → CoreExpression) → List CoreExpression → CoreExpression
of_two place make (a ∷ b ∷ []) = make a b
of_two place make _ = empty_at place

abbrev pub of_three : Place → (CoreExpression → CoreExpression → CoreExpression → CoreExpression) → List CoreExpression → CoreExpression
of_three place make (a ∷ b ∷ c ∷ []) = make a b c
of_three place make _ = empty_at place

abbrev pub joined_at : Place → Option (CoreExpression → CoreExpression → CoreExpression) → List CoreExpression → CoreExpression
joined_at place None parts = empty_at place
joined_at place (Some join) parts = of_two place join parts

abbrev pub constructed : Signatures → Place → Construct → (parts : List CoreExpression) → CoreExpression
constructed signatures place (written.Number value) parts = literal_at place (number_atom value)
constructed signatures place (written.String characters) parts = literal_at place (string_atom characters)
constructed signatures place written.Parenthesised parts = of_one place (within place) parts
constructed signatures place (written.Call function) parts = call_of place function parts
constructed signatures place (written.CallDeclared name) parts = user_call_at place (signature_called signatures name (length parts)) parts
constructed signatures place written.Sequence parts = of_two place core_sequence parts
constructed signatures place written.If parts = of_three place (conditional_at place) parts
constructed signatures place (written.Binary operator) parts = joined_at place (joining place operator) parts
constructed signatures place (written.CastableAs kind optional) parts = of_one place (castable_at place kind optional) parts
constructed signatures place (written.CastAs kind optional) parts = of_one place (cast_at place kind optional) parts
constructed signatures place (written.InstanceOf kind) parts = of_one place (instance_at place kind) parts
constructed signatures place (written.TreatAs kind) parts = of_one place (treat_at place kind) parts
constructed signatures place written.Typeswitch parts = typeswitch_at place parts
constructed signatures place (written.Signed minus) parts = of_one place (signed_at place minus) parts
constructed signatures place written.Document parts = constructor_at place constructors.Document parts
constructed signatures place written.TextNode parts = constructor_at place constructors.Text parts
constructed signatures place (written.Element name) parts = constructor_at place (constructors.Element name) parts
constructed signatures place (written.Attribute name) parts = constructor_at place (constructors.Attribute name) parts
constructed signatures place (written.DirectElement name) parts = constructor_at place (constructors.Element name) parts
constructed signatures place (written.DirectAttribute name) parts = constructor_at place (constructors.Attribute name) parts
constructed signatures place (written.Blank characters) parts = literal_at place (string_atom characters)
constructed signatures place _ parts = empty_at place

-- ---- trees

-- a construct, over the Core of its parts, or of its clauses where it has clauses, of its two parts where it is a path, or of what
-- is left of its first part where it has predicates; with the number that is free behind it
abbrev pub construct_core : Signatures → Place → Construct → Numbers → Focus → (free : ℕ) → (parts : List CoreExpression × ℕ) → (clauses path filtered : CoreExpression × ℕ) → CoreExpression × ℕ
construct_core signatures place (written.Variable name binder) numbers focus free parts clauses path filtered = (variable_at place (number_at numbers binder), free)
construct_core signatures place written.Context numbers focus free parts clauses path filtered = (context_item_at place focus.context.item, free)
construct_core signatures place (written.Call functions.Position) numbers focus free parts clauses path filtered = (context_item_at place focus.context.position, free)
construct_core signatures place (written.Call functions.Last) numbers focus free parts clauses path filtered = (context_item_at place focus.context.size, free)
construct_core signatures place (written.Step axis asks) numbers focus free parts clauses path filtered = (step_at place focus.context.item axis asks, free)
construct_core signatures place written.ParentStep numbers focus free parts clauses path filtered = (step_at place focus.context.item axes.Parent tests.Node, free)
construct_core signatures place written.Flwor numbers focus free parts clauses path filtered = clauses
construct_core signatures place (written.Quantified every) numbers focus free parts clauses path filtered = clauses
construct_core signatures place (written.Path descendants) numbers focus free parts clauses path filtered = path
construct_core signatures place written.Filtered numbers focus free parts clauses path filtered = filtered
construct_core signatures place construct numbers focus free parts clauses path filtered = (constructed signatures place construct parts.0, parts.1)

-- a part of a constructor stays, unless it is boundary white space that is stripped (XQuery 1.0, section 3.7.1.4)
abbrev pub is_kept_part : Focus → ResolvedTree → Bool
is_kept_part focus (resolved_at place (written.Blank characters) parts) = focus.preserves_blanks
is_kept_part focus _ = true

-- a part in front of others, if it stays
abbrev pub parts_with : (stays : Bool) → CoreExpression × ℕ → (others : ℕ → List CoreExpression × ℕ) → (free : ℕ) → List CoreExpression × ℕ
parts_with true e others free = let es = others e.1 in (e.0 ∷ es.0, es.1)
parts_with false e others free = others free

-- whether `//` stands between the parts of a path
abbrev pub is_to_descendants : Construct → Bool
is_to_descendants (written.Path descendants) = descendants
is_to_descendants construct = false

-- the left part of a path: where `//` stands behind it, a path from it to `descendant-or-self::node()`, with a number of its own
abbrev pub left_of_path : (descendants : Bool) → Place → CoreExpression × ℕ → CoreExpression × ℕ
left_of_path false place left = left
left_of_path true place left = (path_with Item place left.1 left.0 (step_at place (Some left.1) axes.DescendantOrSelf tests.Node), left.1 + 1)

-- Variables are numbered in the order in which their scopes begin.
abbrev mutual
  pub core_of : Signatures → ResolvedTree → Numbers → Focus → (free : ℕ) → CoreExpression × ℕ
  core_of signatures (resolved_at place construct parts) numbers focus free =
      branch_or construct (branch_core signatures place construct parts numbers focus free)
      (construct_core signatures place construct numbers focus free (cores_of signatures parts numbers focus free) (clauses_core signatures (ending_of_clauses construct parts focus.greatest) place parts numbers focus free) (path_core signatures (is_to_descendants construct) place parts numbers focus free) (predicates_core signatures place parts numbers focus free))

  pub cores_of : Signatures → ResolvedTrees → Numbers → Focus → (free : ℕ) → List CoreExpression × ℕ
  cores_of signatures no_resolved numbers focus free = ([], free)
  cores_of signatures (a_resolved first others) numbers focus free =
      parts_with (is_kept_part focus first) (core_of signatures first numbers focus free) (cores_of signatures others numbers focus) free

  -- clauses, one inside another, and what they end in
  pub clauses_core : Signatures → Ending → Place → ResolvedTrees → Numbers → Focus → (free : ℕ) → CoreExpression × ℕ
  clauses_core signatures ending place no_resolved numbers focus free = (empty_at place, free)
  clauses_core signatures ending place (a_resolved (resolved_at there (written.For bound position) (a_resolved part more)) others) numbers focus free =
      let p = core_of signatures part numbers focus free in
      let rest = clauses_core signatures ending place others (clause_numbers (written.For bound position) p.1 ++ numbers) focus (behind_clause (written.For bound position) p.1) in
      (clause_at ending place (written.For bound position) p.1 p.0 rest.0, rest.1)
  clauses_core signatures ending place (a_resolved (resolved_at there (written.Let bound) (a_resolved part more)) others) numbers focus free =
      let p = core_of signatures part numbers focus free in
      let rest = clauses_core signatures ending place others (clause_numbers (written.Let bound) p.1 ++ numbers) focus (behind_clause (written.Let bound) p.1) in
      (clause_at ending place (written.Let bound) p.1 p.0 rest.0, rest.1)
  clauses_core signatures ending place (a_resolved (resolved_at there written.Where (a_resolved part more)) others) numbers focus free =
      let p = core_of signatures part numbers focus free in
      let rest = clauses_core signatures ending place others numbers focus p.1 in
      (clause_at ending place written.Where p.1 p.0 rest.0, rest.1)
  clauses_core signatures ending place (a_resolved (resolved_at there (written.In bound) (a_resolved part more)) others) numbers focus free =
      let p = core_of signatures part numbers focus free in
      let rest = clauses_core signatures ending place others (clause_numbers (written.In bound) p.1 ++ numbers) focus (behind_clause (written.In bound) p.1) in
      (clause_at ending place (written.In bound) p.1 p.0 rest.0, rest.1)
  clauses_core signatures ending place (a_resolved (resolved_at there (written.Key order) (a_resolved part more)) others) numbers focus free =
      let p = core_of signatures part numbers focus free in
      let rest = clauses_core signatures ending place others numbers focus p.1 in
      (clause_at ending place (written.Key order) p.1 p.0 rest.0, rest.1)
  clauses_core signatures ending place (a_resolved last others) numbers focus free = let e = core_of signatures last numbers focus free in (ended ending e.0, e.1)

  -- a branch of a typeswitch, whose variable has the free number
  pub branch_core : Signatures → Place → Construct → ResolvedTrees → Numbers → Focus → (free : ℕ) → CoreExpression × ℕ
  branch_core signatures place construct (a_resolved body no_resolved) numbers focus free =
      let b = core_of signatures body (clause_numbers construct free ++ numbers) focus (behind_clause construct free) in
      (branch_at place construct free b.0, b.1)
  branch_core signatures place construct _ numbers focus free = (empty_at place, free)

  -- the two parts of a path; the variables of the context of the right one are numbered behind the left one
  pub path_core : Signatures → (descendants : Bool) → Place → ResolvedTrees → Numbers → Focus → (free : ℕ) → CoreExpression × ℕ
  path_core signatures descendants place (a_resolved first (a_resolved second no_resolved)) numbers focus free =
      let a = left_of_path descendants place (core_of signatures first numbers focus free) in
      let use' = path_use (asks_context asked.Position second) (asks_context asked.Last second) in
      let b = core_of signatures second numbers (focus_with focus use' a.1) (behind_context use' a.1) in
      (path_with use' place a.1 a.0 b.0, b.1)
  path_core signatures descendants place _ numbers focus free = (empty_at place, free)

  -- an expression and its predicates
  pub predicates_core : Signatures → Place → ResolvedTrees → Numbers → Focus → (free : ℕ) → CoreExpression × ℕ
  predicates_core signatures place no_resolved numbers focus free = (empty_at place, free)
  predicates_core signatures place (a_resolved operand predicates) numbers focus free =
      let e = core_of signatures operand numbers focus free in
      filtered_core signatures (is_reverse_step operand) place e.0 predicates numbers focus e.1

  -- what predicates let through, one after another; each has a context of its own
  pub filtered_core : Signatures → (reverse : Bool) → Place → CoreExpression → ResolvedTrees → Numbers → Focus → (free : ℕ) → CoreExpression × ℕ
  filtered_core signatures reverse place e no_resolved numbers focus free = (e, free)
  filtered_core signatures reverse place e (a_resolved predicate others) numbers focus free =
      let use' = predicate_use reverse (asks_context asked.Last predicate) in
      let condition = core_of signatures predicate numbers (focus_with focus use' free) (behind_context use' free) in
      let f = filtered_by (predicate_of predicate) reverse use' place free e condition in
      filtered_core signatures reverse place f.0 others numbers focus f.1

-- ---- whole queries

-- a function, whose parameters are numbered before the variables of its body
abbrev pub function_core : Signatures → FunctionDeclaration → Numbers → Focus → (free : ℕ) → CoreExpression × ℕ
function_core signatures f numbers focus free =
    core_of signatures f.body (inside_parameters f.parameters free numbers) focus (free + length f.parameters)

abbrev pub declared_function : FunctionDeclaration → (free : ℕ) → CoreExpression → CoreFunction
declared_function f free body = record {
  place = f.place;
  name = f.name;
  parameters = parameter_binders f.parameters free;
  result = type_or_items f.result;
  body = body;
}

-- global variables, an external one without a value, and functions; the scope of a variable begins behind its declaration
abbrev pub declarations_of : Signatures → Focus → List Declaration → Numbers → (free : ℕ) → List CoreDeclaration
declarations_of signatures focus [] numbers free = []
declarations_of signatures focus (declared.Global g ∷ others) numbers free =
    let v = core_of signatures g.value numbers focus free in
    Global g.bound.name (numbered_binder g.bound v.1) (Some v.0) ∷ declarations_of signatures focus others ((g.bound.place, v.1) ∷ numbers) (v.1 + 1)
declarations_of signatures focus (declared.External e ∷ others) numbers free =
    Global e.bound.name (external_binder e.bound free) None ∷ declarations_of signatures focus others ((e.bound.place, free) ∷ numbers) (free + 1)
declarations_of signatures focus (declared.Function f ∷ others) numbers free =
    let b = function_core signatures f numbers focus free in
    Function (declared_function f free b.0) ∷ declarations_of signatures focus others numbers b.1

-- the numbers in scope behind them, and the number that is free
abbrev pub behind_declarations : Signatures → Focus → List Declaration → Numbers → (free : ℕ) → Numbers × ℕ
behind_declarations signatures focus [] numbers free = (numbers, free)
behind_declarations signatures focus (declared.Global g ∷ others) numbers free =
    let v = core_of signatures g.value numbers focus free in
    behind_declarations signatures focus others ((g.bound.place, v.1) ∷ numbers) (v.1 + 1)
behind_declarations signatures focus (declared.External e ∷ others) numbers free =
    behind_declarations signatures focus others ((e.bound.place, free) ∷ numbers) (free + 1)
behind_declarations signatures focus (declared.Function f ∷ others) numbers free =
    behind_declarations signatures focus others numbers (function_core signatures f numbers focus free).1

-- the Core of a query, whose variables are numbered from 1
abbrev pub main_core : Signatures → Focus → List Declaration → ResolvedTree → Core
main_core signatures focus declarations body =
    let behind = behind_declarations signatures focus declarations [] 1 in
    record { declarations = declarations_of signatures focus declarations [] 1; body = (core_of signatures body behind.0 focus behind.1).0 }

-- where the prolog says nothing, empty keys are the least
abbrev pub query_core : Resolved → Core
query_core query =
    main_core (signatures_of query.declarations) (no_focus (is_empty_greatest false query.settings.empty_order) query.settings.preserves_boundary_space)
    query.declarations query.body
