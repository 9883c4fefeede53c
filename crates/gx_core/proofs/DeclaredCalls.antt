-- What is well formed calls declared functions alone.
use Rattle.std.proofs.Common.{ℕ, List, [], ◌∷◌, Some, None}
use Rattle.gx_core.specs.declared.expression.Declaration.TheVariants.{Global, Function}
use Rattle.gx_core.specs.declared.operator.Operator.{Operator}
use Rattle.gx_core.specs.declared.operator.Operator.TheVariants as operators
use Rattle.gx_core.specs.declared.signature.FunctionSignature.{FunctionSignature}
use Rattle.gx_core.specs.Queries.{CoreDeclaration}
use Rattle.gx_core.specs.CalledFunctions.{IsCallOf, AllCalls, AllCallsInParts}
use Rattle.gx_core.specs.Expression.{Expression, At, Parts, no_parts, a_part}
use Rattle.gx_core.specs.Laws.{WellFormedQueriesCallDeclaredFunctions}
use Rattle.gx_core.specs.Invariant.{IsWellFormedOver, IsWellFormedExpression, ArePartsWellFormed, AreValuesWellFormed, CallsInDeclarations, query_signatures, number_of_parts}

call_known : (known : List FunctionSignature) (operator : Operator) (parts : ℕ) → IsWellFormedOver known operator parts → IsCallOf known operator
call_known known (operators.User signature count) parts h = h
call_known known _ parts h = tt

mutual
  pub all_calls_known : (A : Type 0) (known : List FunctionSignature) (e : Expression A) → IsWellFormedExpression known e → AllCalls known e
  all_calls_known A known (At place outer annotation operator parts) h = (call_known known operator (number_of_parts parts) h.0, all_in_parts_known A known parts h.1)

  all_in_parts_known : (A : Type 0) (known : List FunctionSignature) (parts : Parts A) → ArePartsWellFormed known parts → AllCallsInParts known parts
  all_in_parts_known A known no_parts h = tt
  all_in_parts_known A known (a_part first others) h = (all_calls_known A known first h.0, all_in_parts_known A known others h.1)

in_declarations : (known : List FunctionSignature) (ds : List CoreDeclaration) → AreValuesWellFormed known ds → CallsInDeclarations known ds
in_declarations known [] h = tt
in_declarations known (Global name binder None ∷ ds) h = in_declarations known ds h
in_declarations known (Global name binder (Some value) ∷ ds) h = (all_calls_known (Unit {0}) known value h.0, in_declarations known ds h.1)
in_declarations known (Function f ∷ ds) h = (all_calls_known (Unit {0}) known f.body h.0, in_declarations known ds h.1)

pub well_formed_queries_call_declared_functions : WellFormedQueriesCallDeclaredFunctions
well_formed_queries_call_declared_functions core h = record {
  declarations = in_declarations (query_signatures core) core.declarations h.values;
  body = all_calls_known (Unit {0}) (query_signatures core) core.body h.body;
}
