-- Where an expression of a query with its types may be evaluated, the functions that it calls may be called.
use Rattle.std.proofs.Common.{◌≡◌, ℕ, zero, suc, Bool, true, false, ◌||◌, nat_eq, List, [], ◌∷◌, ◌++◌, map, Option, None, Some, refl, sym, ◌∙◌, ap, subst, if◌then◌else◌}
use Rattle.std.specs.List.{slice_get}
use Rattle.std.proofs.lemmas.Bool.{or_right}
use Rattle.gx_types.specs.SequenceType.{SequenceType}
use Rattle.gx_core.specs.declared.expression.Binder.{Binder}
use Rattle.gx_core.specs.declared.expression.Declaration.TheVariants.{Global, Function}
use Rattle.gx_core.specs.declared.signature.FunctionSignature.{FunctionSignature}
use Rattle.gx_core.specs.Expression.{annotation_of}
use Rattle.gx_core.specs.Queries.{CoreFunction, CoreDeclaration, TypedFunction, TypedDeclaration}
use Rattle.gx_core.specs.Bindings.{look_up, Types}
use Rattle.gx_core.specs.Functions.{functions_of}
use Rattle.gx_core.specs.Invariant.{is_among, scope_behind, CallsInDeclarations}
use Rattle.gx_core.specs.CalledFunctions.{signature_of, AllCalls}
use Rattle.gx_core.specs.FreeVariables.{is_free_in}
use Rattle.gx_core.specs.QueryMeaning.{plain_function, plain_declaration, external_types, types_declared, functions_declared, IsCallable}
use Rattle.gx_settling.specs.Laws.{IsSettledFunction, KeepTheirTypes, EvaluationCallsCallable, declared_signatures, AreNew, BodyCallsCallable}
use Rattle.gx_settling.proofs.UsesLemmas.{free_without_types, calls_with_types}
use Rattle.gx_settling.proofs.SettledFunctions.{IsDeclared, declared_of, body_calls, calls_are_settled}
use Rattle.gx_settling.proofs.GlobalTypes.{functions_agree}

-- the variables that have types are among these
abbrev Covers : Types → (scope : List ℕ) → Type 0
Covers types scope = (number : ℕ) (t : SequenceType) → look_up types number ≡ Some t → is_among scope number ≡ true

one_more_covered : (types : Types) (scope : List ℕ) → Covers types scope → (variable : ℕ) (kind : SequenceType) → Covers ((variable, kind) ∷ types) (variable ∷ scope)
one_more_covered types scope covers variable kind number t e = by (nat_eq variable number) e
  where
    by : (same : Bool) → (if same then Some kind else look_up types number) ≡ Some t → (same || is_among scope number) ≡ true
    by true e = refl
    by false e = covers number t e

external_covered : (types : Types) (scope : List ℕ) → Covers types scope → (binder : Binder) (kind : Option SequenceType)
    → Covers (external_types binder kind ++ types) (binder.variable ∷ scope)
external_covered types scope covers binder None number t e = or_right (nat_eq binder.variable number) (is_among scope number) (covers number t e)
external_covered types scope covers binder (Some kind) number t e = one_more_covered types scope covers binder.variable kind number t e

scope_stays : (declarations : List CoreDeclaration) (scope : List ℕ) (number : ℕ) → is_among scope number ≡ true → is_among (scope_behind declarations scope) number ≡ true
scope_stays [] scope number h = h
scope_stays (Global name binder value ∷ others) scope number h =
    scope_stays others (binder.variable ∷ scope) number (or_right (nat_eq binder.variable number) (is_among scope number) h)
scope_stays (Function function ∷ others) scope number h = scope_stays others scope number h

-- a function of the query with its types, and the types of the globals before it
record Declared (declarations : List TypedDeclaration) (first : Types) (scope : List ℕ) (number : ℕ) (plain : CoreFunction) : Type 0 where
  function : TypedFunction
  before : Types
  declared : slice_get (functions_declared declarations first) number ≡ Some (function, before)
  same : plain_function function ≡ plain
  covered : Covers before (scope_behind (map plain_declaration declarations) scope)

declared_at : (declarations : List TypedDeclaration) (first : Types) (scope : List ℕ) (number : ℕ) (plain : CoreFunction) → Covers first scope
    → slice_get (functions_of (map plain_declaration declarations)) number ≡ Some plain → Declared declarations first scope number plain
declared_at [] first scope number plain covers e = absurd (cc)
declared_at (Function f ∷ others) first scope zero plain covers e = record {
  function = f;
  before = first;
  declared = refl;
  same = cc;
  covered = λ number t e. scope_stays (map plain_declaration others) scope number (covers number t e);
}
declared_at (Function f ∷ others) first scope (suc number) plain covers e =
    let d = declared_at others first scope number plain covers e in
    record { function = d.function; before = d.before; declared = d.declared; same = d.same; covered = d.covered }
declared_at (Global name binder (Some value) ∷ others) first scope number plain covers e =
    let d = declared_at others ((binder.variable, annotation_of value) ∷ first) (binder.variable ∷ scope) number plain
    (one_more_covered first scope covers binder.variable (annotation_of value)) e in
    record { function = d.function; before = d.before; declared = d.declared; same = d.same; covered = d.covered }
declared_at (Global name binder None ∷ others) first scope number plain covers e =
    let d = declared_at others (external_types binder binder.kind ++ first) (binder.variable ∷ scope) number plain
    (external_covered first scope covers binder binder.kind) e in
    record { function = d.function; before = d.before; declared = d.declared; same = d.same; covered = d.covered }

nothing_covered : Covers [] []
nothing_covered number t e = absurd (cc)

one_callable : (declarations : List TypedDeclaration) (types : Types) → KeepTheirTypes (functions_declared declarations []) types
    → (known : List FunctionSignature) (signature : FunctionSignature)
    → IsSettledFunction (functions_of (map plain_declaration declarations)) (scope_behind (map plain_declaration declarations) []) types known signature
    → IsCallable (functions_declared declarations []) types known signature
one_callable declarations types kept known signature settled =
    let d = declared_at declarations [] [] signature.number settled.function nothing_covered settled.declared in
    record {
      function = d.function;
      before = d.before;
      declared = d.declared;
      is = settled.is ∙ sym (ap (signature_of signature.number) d.same);
      calls = calls_with_types known d.function.body (subst (λ (f : CoreFunction). AllCalls known f.body) (sym d.same) settled.calls);
      named = λ number t free own found.
          kept signature.number d.function d.before d.declared number t found
          (settled.named number (ap (λ (f : CoreFunction). is_free_in f.body number) (sym d.same) ∙ free_without_types d.function.body number ∙ free)
          (d.covered number t found));
    }

pub calls_are_callable : EvaluationCallsCallable
calls_are_callable declarations types e bodies calls may kept =
    let s = calls_are_settled (map plain_declaration declarations) types e bodies calls may in
    record {
      known = s.known;
      calls = s.calls;
      callable = λ signature there. one_callable declarations types kept s.known signature (s.settled signature there);
    }

-- ---- the body of the query

pub body_calls_are_callable : BodyCallsCallable
body_calls_are_callable declarations body bodies calls new = record {
  known = declared_signatures (map plain_declaration declarations);
  calls = calls;
  callable = λ signature there. one_declared declarations signature bodies new (declared_of (functions_of (map plain_declaration declarations)) signature there);
}
  where
    one_declared : (declarations : List TypedDeclaration) (signature : FunctionSignature)
        → CallsInDeclarations (declared_signatures (map plain_declaration declarations)) (map plain_declaration declarations) → AreNew declarations []
        → IsDeclared (functions_of (map plain_declaration declarations)) signature
        → IsCallable (functions_declared declarations []) (types_declared declarations []) (declared_signatures (map plain_declaration declarations)) signature
    one_declared declarations signature bodies new of =
        let d = declared_at declarations [] [] signature.number of.function nothing_covered of.declared in
        record {
          function = d.function;
          before = d.before;
          declared = d.declared;
          is = of.is ∙ sym (ap (signature_of signature.number) d.same);
          calls =
              calls_with_types (declared_signatures (map plain_declaration declarations)) d.function.body
              (subst (λ (f : CoreFunction). AllCalls (declared_signatures (map plain_declaration declarations)) f.body) (sym d.same)
              (body_calls (declared_signatures (map plain_declaration declarations)) (map plain_declaration declarations) signature.number of.function bodies of.declared));
          named = λ number t free own found. functions_agree declarations [] new signature.number d.function d.before d.declared number t found;
        }
