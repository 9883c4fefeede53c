-- Where an expression may be evaluated, the functions that it calls are settled.
use Rattle.std.proofs.Common.{◌≡◌, ℕ, zero, suc, ◌+◌, Bool, true, false, ◌||◌, nat_eq, List, [], ◌∷◌, ◌++◌, map, Option, None, Some, refl, sym, ◌∙◌, ap, subst, arith}
use Rattle.std.specs.Prelude.{Contains, All, is_some, option_map}
use Rattle.std.specs.List.{slice_get, list_all, filter}
use Rattle.std.specs.Set.{is_member}
use Rattle.std.proofs.lemmas.Bool.{true≢false, eqb-true}
use Rattle.std.proofs.lemmas.List.Elements.{All-nil, All-cons, All-weaker, All-contains, Contains-append_left, Contains-append_right, Contains-push}
use Rattle.gx_closure.specs.Closure.{AreAmong}
use Rattle.gx_core.specs.declared.expression.Declaration.TheVariants.{Global, Function}
use Rattle.gx_core.specs.declared.operator.Operator.{Operator}
use Rattle.gx_core.specs.declared.operator.Operator.TheVariants as operators
use Rattle.gx_core.specs.declared.signature.FunctionSignature.{FunctionSignature}
use Rattle.gx_core.specs.Expression.{Expression, At, Parts, no_parts, a_part}
use Rattle.gx_core.specs.Queries.{CoreFunction, CoreDeclaration}
use Rattle.gx_core.specs.Bindings.{look_up, Types}
use Rattle.gx_core.specs.Functions.{functions_of}
use Rattle.gx_core.specs.Invariant.{is_among, scope_behind, CallsInDeclarations}
use Rattle.gx_core.specs.CalledFunctions.{signature_of, signatures_from, IsCallOf, AllCalls, AllCallsInParts}
use Rattle.gx_settling.specs.declared.functions.FunctionUse.{FunctionUse}
use Rattle.gx_settling.specs.Uses.{of_operators_in, called_function, called_by, variables_named}
use Rattle.gx_settling.specs.Reaching.{function_use, function_uses, called_in_body, called_from, functions_reached, names_bound, may_be_evaluated}
use Rattle.gx_settling.specs.Laws.{IsSettledFunction, declared_signatures, EvaluationIsSettled}
use Rattle.gx_settling.proofs.UsesLemmas.{free_are_named}
use Rattle.gx_settling.proofs.ReachedFunctions.{among_themselves, holds_among, all_pass_among, all_in_front, all_behind, passes_filter, reached_are_closed, all_among, all_pass_once}

-- ---- the signatures of functions with these numbers

abbrev signature_at : (number : ℕ) → Option CoreFunction → List FunctionSignature
signature_at number None = []
signature_at number (Some function) = signature_of number function ∷ []

abbrev signatures_at : List CoreFunction → (numbers : List ℕ) → List FunctionSignature
signatures_at functions [] = []
signatures_at functions (n ∷ ns) = signature_at n (slice_get functions n) ++ signatures_at functions ns

-- a signature is that of a function, and its number is one of these
record IsOf (functions : List CoreFunction) (numbers : List ℕ) (signature : FunctionSignature) : Type 0 where
  function : CoreFunction
  declared : slice_get functions signature.number ≡ Some function
  is : signature ≡ signature_of signature.number function
  among : is_member nat_eq numbers signature.number ≡ true

all_are_of : (functions : List CoreFunction) (numbers some : List ℕ) → AreAmong nat_eq numbers some → All (IsOf functions numbers) (signatures_at functions some)
all_are_of functions numbers [] h = All-nil (IsOf functions numbers)
all_are_of functions numbers (n ∷ ns) h = by (all_are_of functions numbers ns h.1) (slice_get functions n) refl
  where
    by : All (IsOf functions numbers) (signatures_at functions ns) → (found : Option CoreFunction) → slice_get functions n ≡ found → All (IsOf functions numbers) (signature_at n found ++ signatures_at functions ns)
    by rest None e = rest
    by rest (Some f) e =
        All-cons (IsOf functions numbers) (signature_of n f) (signatures_at functions ns)
        (record { function = f; declared = e; is = refl; among = h.0 }) rest

one_is_of : (functions : List CoreFunction) (numbers : List ℕ) (signature : FunctionSignature) → Contains (signatures_at functions numbers) signature
    → IsOf functions numbers signature
one_is_of functions numbers signature there =
    All-contains (IsOf functions numbers) (signatures_at functions numbers) signature (all_are_of functions numbers numbers (among_themselves numbers)) there

one_is_there : (functions : List CoreFunction) (numbers : List ℕ) (signature : FunctionSignature) → IsOf functions numbers signature
    → (some : List ℕ) → is_member nat_eq some signature.number ≡ true → Contains (signatures_at functions some) signature
one_is_there functions numbers signature of [] m = absurd (true≢false (sym m))
one_is_there functions numbers signature of (n ∷ ns) m = by (one_is_there functions numbers signature of ns) (nat_eq signature.number n) refl m
  where
    by : (is_member nat_eq ns signature.number ≡ true → Contains (signatures_at functions ns) signature) → (same : Bool) → nat_eq signature.number n ≡ same → same || is_member nat_eq ns signature.number ≡ true
        → Contains (signature_at n (slice_get functions n) ++ signatures_at functions ns) signature
    by rest true e k =
        let at : slice_get functions n ≡ Some of.function = ap (slice_get functions) (sym (eqb-true signature.number n e)) ∙ of.declared in
        let one : signature ≡ signature_of n of.function = of.is ∙ ap (λ (k : ℕ). signature_of k of.function) (eqb-true signature.number n e) in
        subst (λ (o : Option CoreFunction). Contains (signature_at n o ++ signatures_at functions ns) signature) (sym at)
        (Contains-append_left (signature_of n of.function ∷ []) (signatures_at functions ns) signature
        (subst (λ (s : FunctionSignature). Contains (s ∷ []) signature) one (Contains-push [] signature)))
    by rest false e k = Contains-append_right (signature_at n (slice_get functions n)) (signatures_at functions ns) signature (rest k)

-- the signatures of all functions

record IsFrom (first : ℕ) (functions : List CoreFunction) (signature : FunctionSignature) : Type 0 where
  at : ℕ
  number : signature.number ≡ first + at
  function : CoreFunction
  declared : slice_get functions at ≡ Some function
  is : signature ≡ signature_of signature.number function

all_are_from : (first : ℕ) (functions : List CoreFunction) → All (IsFrom first functions) (signatures_from first functions)
all_are_from first [] = All-nil (IsFrom first [])
all_are_from first (f ∷ fs) =
    All-cons (IsFrom first (f ∷ fs)) (signature_of first f) (signatures_from (suc first) fs)
    (record { at = zero; number = omega arith; function = f; declared = refl; is = refl })
    (All-weaker (IsFrom (suc first) fs) (IsFrom first (f ∷ fs))
    (λ s h. record { at = suc h.at; number = omega (arith, h.number); function = h.function; declared = h.declared; is = h.is })
    (signatures_from (suc first) fs) (all_are_from (suc first) fs))

-- a signature is that of a function
pub record IsDeclared (functions : List CoreFunction) (signature : FunctionSignature) : Type 0 where
  pub function : CoreFunction
  pub declared : slice_get functions signature.number ≡ Some function
  pub is : signature ≡ signature_of signature.number function

pub declared_of : (functions : List CoreFunction) (signature : FunctionSignature) → Contains (signatures_from 0 functions) signature → IsDeclared functions signature
declared_of functions signature there =
    let from = All-contains (IsFrom 0 functions) (signatures_from 0 functions) signature (all_are_from 0 functions) there in
    let same : from.at ≡ signature.number = omega (arith, from.number) in
    record { function = from.function; declared = ap (slice_get functions) (sym same) ∙ from.declared; is = from.is }

declared_is_of : (functions : List CoreFunction) (numbers : List ℕ) (signature : FunctionSignature) → Contains (signatures_from 0 functions) signature
    → is_member nat_eq numbers signature.number ≡ true → IsOf functions numbers signature
declared_is_of functions numbers signature there among =
    let d = declared_of functions signature there in
    record { function = d.function; declared = d.declared; is = d.is; among = among }

-- ---- calls of functions with these numbers

operator_calls : (functions : List CoreFunction) (numbers : List ℕ) (operator : Operator) → IsCallOf (signatures_from 0 functions) operator
    → AreAmong nat_eq numbers (called_function operator) → IsCallOf (signatures_at functions numbers) operator
operator_calls functions numbers (operators.User signature count) h among =
    (one_is_there functions numbers signature (declared_is_of functions numbers signature h.0 among.0) numbers among.0, h.1)
operator_calls functions numbers _ h among = tt

mutual
  -- an expression that calls functions of the query alone, whose numbers are among these, calls functions with these numbers alone
  pub calls_at : {A : Type 0} (functions : List CoreFunction) (numbers : List ℕ) (e : Expression A) → AllCalls (signatures_from 0 functions) e
      → AreAmong nat_eq numbers (called_by e) → AllCalls (signatures_at functions numbers) e
  calls_at functions numbers (At place outer annotation operator parts) h among = (
    operator_calls functions numbers operator h.0 (all_in_front (λ n. is_member nat_eq numbers n ≡ true) (called_function operator) (of_operators_in called_function parts) among),
    calls_in_parts_at functions numbers parts h.1 (all_behind (λ n. is_member nat_eq numbers n ≡ true) (called_function operator) (of_operators_in called_function parts) among),
  )

  calls_in_parts_at : {A : Type 0} (functions : List CoreFunction) (numbers : List ℕ) (parts : Parts A) → AllCallsInParts (signatures_from 0 functions) parts
      → AreAmong nat_eq numbers (of_operators_in called_function parts) → AllCallsInParts (signatures_at functions numbers) parts
  calls_in_parts_at functions numbers no_parts h among = tt
  calls_in_parts_at functions numbers (a_part first others) h among = (
    calls_at functions numbers first h.0 (all_in_front (λ n. is_member nat_eq numbers n ≡ true) (called_by first) (of_operators_in called_function others) among),
    calls_in_parts_at functions numbers others h.1 (all_behind (λ n. is_member nat_eq numbers n ≡ true) (called_by first) (of_operators_in called_function others) among),
  )

-- the body of a function of a query
pub body_calls : (known : List FunctionSignature) (declarations : List CoreDeclaration) (number : ℕ) (function : CoreFunction)
    → CallsInDeclarations known declarations → slice_get (functions_of declarations) number ≡ Some function → AllCalls known function.body
body_calls known [] number function h e = absurd (cc)
body_calls known (Global name binder None ∷ others) number function h e = body_calls known others number function h e
body_calls known (Global name binder (Some value) ∷ others) number function h e = body_calls known others number function h.1 e
body_calls known (Function f ∷ others) zero function h e = let same : f ≡ function = cc in subst (λ (g : CoreFunction). AllCalls known g.body) same h.0
body_calls known (Function f ∷ others) (suc number) function h e = body_calls known others number function h.1 e

-- ---- settled functions

pub slice_map : {A B : Type 0} (f : A → B) (xs : List A) (n : ℕ) → slice_get (map f xs) n ≡ option_map f (slice_get xs n)
slice_map f [] n = refl
slice_map f (x ∷ xs) zero = refl
slice_map f (x ∷ xs) (suc n) = slice_map f xs n

uses_are : (declarations : List CoreDeclaration) → function_uses declarations ≡ map (function_use (scope_behind declarations [])) (functions_of declarations)
unfolding function_uses
uses_are declarations = refl

all_bound : {A : Type 0} (uses : List FunctionUse) (types : Types) (e : Expression A) → may_be_evaluated uses types e ≡ true
    → list_all (λ number. names_bound types (slice_get uses number)) (functions_reached uses (called_by e)) ≡ true
unfolding may_be_evaluated
all_bound uses types e h = h

use_at : (declarations : List CoreDeclaration) (number : ℕ) (function : CoreFunction) → slice_get (functions_of declarations) number ≡ Some function
    → slice_get (function_uses declarations) number ≡ Some (function_use (scope_behind declarations []) function)
use_at declarations number function e =
    ap (λ (uses : List FunctionUse). slice_get uses number) (uses_are declarations)
    ∙ slice_map (function_use (scope_behind declarations [])) (functions_of declarations) number
    ∙ ap (option_map (function_use (scope_behind declarations []))) e

abbrev numbers_reached : {A : Type 0} → List CoreDeclaration → Expression A → List ℕ
numbers_reached declarations e = functions_reached (function_uses declarations) (called_by e)

one_settled : {A : Type 0} (declarations : List CoreDeclaration) (types : Types) (e : Expression A) → CallsInDeclarations (declared_signatures declarations) declarations
    → may_be_evaluated (function_uses declarations) types e ≡ true → (signature : FunctionSignature)
    → IsOf (functions_of declarations) (numbers_reached declarations e) signature
    → IsSettledFunction (functions_of declarations) (scope_behind declarations []) types (signatures_at (functions_of declarations) (numbers_reached declarations e)) signature
one_settled declarations types e bodies may signature of = record {
  function = of.function;
  declared = of.declared;
  is = of.is;
  calls =
      calls_at (functions_of declarations) (numbers_reached declarations e) of.function.body
      (body_calls (declared_signatures declarations) declarations signature.number of.function bodies of.declared)
      (all_among (numbers_reached declarations e) (called_by of.function.body)
      (subst (AreAmong nat_eq (numbers_reached declarations e)) (ap called_in_body (use_at declarations signature.number of.function of.declared))
      (holds_among (λ n. AreAmong nat_eq (numbers_reached declarations e) (called_from (function_uses declarations) n)) (numbers_reached declarations e) signature.number
      (reached_are_closed (function_uses declarations) (called_by e)).closed of.among)));
  named = λ number free global.
      passes_filter (is_among (scope_behind declarations [])) (λ n. is_some (look_up types n)) (variables_named of.function.body) number
      (free_are_named of.function.body number free) global
      (all_pass_once (λ n. is_some (look_up types n)) (filter (is_among (scope_behind declarations [])) (variables_named of.function.body))
      (subst (λ (o : Option FunctionUse). names_bound types o ≡ true) (use_at declarations signature.number of.function of.declared)
      (holds_among (λ n. names_bound types (slice_get (function_uses declarations) n) ≡ true) (numbers_reached declarations e) signature.number
      (all_pass_among (λ n. names_bound types (slice_get (function_uses declarations) n)) (numbers_reached declarations e) (all_bound (function_uses declarations) types e may)) of.among)));
}

pub calls_are_settled : {A : Type 0} → EvaluationIsSettled A
calls_are_settled declarations types e bodies calls may = record {
  known = signatures_at (functions_of declarations) (numbers_reached declarations e);
  calls = calls_at (functions_of declarations) (numbers_reached declarations e) e calls (reached_are_closed (function_uses declarations) (called_by e)).holds;
  settled = λ signature there.
      one_settled declarations types e bodies may signature (one_is_of (functions_of declarations) (numbers_reached declarations e) signature there);
}
