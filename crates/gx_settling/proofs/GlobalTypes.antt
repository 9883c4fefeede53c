-- Each global variable has one type wherever it is in scope.
use Rattle.std.proofs.Common.{◌≡◌, ℕ, zero, suc, Bool, true, false, ◌||◌, nat_eq, List, [], ◌∷◌, ◌++◌, map, Option, None, Some, refl, sym, ◌∙◌, ap, subst, append_assoc, if◌then◌else◌}
use Rattle.std.specs.Prelude.{is_some}
use Rattle.std.specs.List.{slice_get}
use Rattle.std.proofs.lemmas.Bool.{true≢false, or_left, or_right, eqb-true}
use Rattle.std.proofs.lemmas.List.Folds.{list_any-append}
use Rattle.gx_types.specs.SequenceType.{SequenceType}
use Rattle.gx_core.specs.declared.expression.Binder.{Binder}
use Rattle.gx_core.specs.declared.expression.Declaration.TheVariants.{Global, Function}
use Rattle.gx_core.specs.Expression.{annotation_of, plain}
use Rattle.gx_core.specs.Queries.{TypedFunction, TypedDeclaration}
use Rattle.gx_core.specs.Bindings.{look_up, Types}
use Rattle.gx_core.specs.Invariant.{is_among, AreDistinct, declared_numbers, numbers_bound, parameter_numbers}
use Rattle.gx_core.specs.QueryMeaning.{plain_declaration, external_types, types_declared, functions_declared}
use Rattle.gx_settling.specs.Laws.{global_numbers, AreNew, GlobalsAreNew, OthersAreNew, NewKeepTheirTypes}

-- ---- numbers that are declared once

apart : (a b : Bool) → a || b ≡ false → (a ≡ false) × (b ≡ false)
apart true b h = absurd (true≢false h)
apart false b h = (refl, h)

none_of : (a b : Bool) → (a ≡ true → b ≡ true) → b ≡ false → a ≡ false
none_of true b h k = absurd (true≢false (sym (h refl) ∙ k))
none_of false b h k = refl

distinct_behind : (xs ys : List ℕ) → AreDistinct (xs ++ ys) → AreDistinct ys
distinct_behind [] ys h = h
distinct_behind (x ∷ xs) ys h = distinct_behind xs ys h.1

among_front : (xs ys : List ℕ) (number : ℕ) → is_among xs number ≡ true → is_among (xs ++ ys) number ≡ true
among_front xs ys number h = list_any-append (λ other. nat_eq other number) xs ys ∙ or_left (is_among xs number) (is_among ys number) h

among_behind : (xs ys : List ℕ) (number : ℕ) → is_among ys number ≡ true → is_among (xs ++ ys) number ≡ true
among_behind xs ys number h = list_any-append (λ other. nat_eq other number) xs ys ∙ or_right (is_among xs number) (is_among ys number) h

one_more_among : (first : ℕ) (xs ys : List ℕ) (number : ℕ) → (is_among xs number ≡ true → is_among ys number ≡ true)
    → is_among (first ∷ xs) number ≡ true → is_among (first ∷ ys) number ≡ true
one_more_among first xs ys number h k = by (nat_eq first number) k
  where
    by : (same : Bool) → same || is_among xs number ≡ true → same || is_among ys number ≡ true
    by true k = refl
    by false k = h k

globals_are_declared : (declarations : List TypedDeclaration) (number : ℕ) → is_among (global_numbers declarations) number ≡ true
    → is_among (declared_numbers (map plain_declaration declarations)) number ≡ true
globals_are_declared [] number h = h
globals_are_declared (Global name binder None ∷ others) number h =
    one_more_among binder.variable (global_numbers others) (declared_numbers (map plain_declaration others)) number (globals_are_declared others number) h
globals_are_declared (Global name binder (Some value) ∷ others) number h =
    among_behind (numbers_bound (plain value)) (binder.variable ∷ declared_numbers (map plain_declaration others)) number
    (one_more_among binder.variable (global_numbers others) (declared_numbers (map plain_declaration others)) number (globals_are_declared others number) h)
globals_are_declared (Function f ∷ others) number h =
    among_behind (parameter_numbers f.parameters ++ numbers_bound (plain f.body)) (declared_numbers (map plain_declaration others)) number
    (globals_are_declared others number h)

one_global_once : (binder : Binder) (others : List TypedDeclaration) (more : List ℕ) → AreDistinct (binder.variable ∷ (declared_numbers (map plain_declaration others) ++ more))
    → AreDistinct (global_numbers others) → AreDistinct (binder.variable ∷ global_numbers others)
one_global_once binder others more h once = (
  none_of (is_among (global_numbers others) binder.variable) (is_among (declared_numbers (map plain_declaration others) ++ more) binder.variable)
      (λ k. among_front (declared_numbers (map plain_declaration others)) more binder.variable (globals_are_declared others binder.variable k)) h.0,
  once,
)

globals_once : (declarations : List TypedDeclaration) (more : List ℕ) → AreDistinct (declared_numbers (map plain_declaration declarations) ++ more)
    → AreDistinct (global_numbers declarations)
globals_once [] more h = tt
globals_once (Global name binder None ∷ others) more h = one_global_once binder others more h (globals_once others more h.1)
globals_once (Global name binder (Some value) ∷ others) more h =
    let numbers = declared_numbers (map plain_declaration others) in
    let behind : AreDistinct (binder.variable ∷ (numbers ++ more)) =
    distinct_behind (numbers_bound (plain value)) (binder.variable ∷ (numbers ++ more)) (subst AreDistinct (append_assoc (numbers_bound (plain value)) (binder.variable ∷ numbers) more) h) in
    one_global_once binder others more behind (globals_once others more behind.1)
globals_once (Function f ∷ others) more h =
    let numbers = declared_numbers (map plain_declaration others) in
    let bound = parameter_numbers f.parameters ++ numbers_bound (plain f.body) in
    globals_once others more (distinct_behind bound (numbers ++ more) (subst AreDistinct (append_assoc bound numbers more) h))

pub globals_are_new : GlobalsAreNew
globals_are_new declarations more h = record {
  once = globals_once declarations more h;
  fresh = λ number k. absurd (true≢false (sym k));
}

-- ---- and have types

new_behind : (variable : ℕ) (kind : SequenceType) (types : Types) (others : List ℕ) → is_among others variable ≡ false
    → ((number : ℕ) → is_some (look_up types number) ≡ true → (nat_eq variable number || is_among others number) ≡ false)
    → (number : ℕ) → is_some (look_up ((variable, kind) ∷ types) number) ≡ true → is_among others number ≡ false
new_behind variable kind types others once fresh number k = by (nat_eq variable number) refl k
  where
    by : (same : Bool) → nat_eq variable number ≡ same → is_some (if same then Some kind else look_up types number) ≡ true → is_among others number ≡ false
    by true e k = ap (is_among others) (sym (eqb-true variable number e)) ∙ once
    by false e k = (apart (nat_eq variable number) (is_among others number) (fresh number k)).1

external_behind : (binder : Binder) (kind : Option SequenceType) (types : Types) (others : List ℕ) → is_among others binder.variable ≡ false
    → ((number : ℕ) → is_some (look_up types number) ≡ true → (nat_eq binder.variable number || is_among others number) ≡ false)
    → (number : ℕ) → is_some (look_up (external_types binder kind ++ types) number) ≡ true → is_among others number ≡ false
external_behind binder None types others once fresh number k = (apart (nat_eq binder.variable number) (is_among others number) (fresh number k)).1
external_behind binder (Some kind) types others once fresh number k = new_behind binder.variable kind types others once fresh number k

pub others_are_new : OthersAreNew
others_are_new (Function f) others types new = record { once = new.once; fresh = new.fresh }
others_are_new (Global name binder (Some value)) others types new = record {
  once = new.once.1;
  fresh = new_behind binder.variable (annotation_of value) types (global_numbers others) new.once.0 new.fresh;
}
others_are_new (Global name binder None) others types new = record {
  once = new.once.1;
  fresh = external_behind binder binder.kind types (global_numbers others) new.once.0 new.fresh;
}

one_behind : (variable : ℕ) (kind : SequenceType) (types : Types) (number : ℕ) → nat_eq variable number ≡ false
    → look_up ((variable, kind) ∷ types) number ≡ look_up types number
one_behind variable kind types number h = ap (λ (same : Bool). if same then Some kind else look_up types number) h

one_external_behind : (binder : Binder) (kind : Option SequenceType) (types : Types) (number : ℕ) → nat_eq binder.variable number ≡ false
    → look_up (external_types binder kind ++ types) number ≡ look_up types number
one_external_behind binder None types number h = refl
one_external_behind binder (Some kind) types number h = one_behind binder.variable kind types number h

-- what is not declared further on has its type still
still_typed : (rest : List TypedDeclaration) (types : Types) (number : ℕ) → is_among (global_numbers rest) number ≡ false
    → look_up (types_declared rest types) number ≡ look_up types number
still_typed [] types number h = refl
still_typed (Function f ∷ others) types number h = still_typed others types number h
still_typed (Global name binder (Some value) ∷ others) types number h =
    let k = apart (nat_eq binder.variable number) (is_among (global_numbers others) number) h in
    still_typed others ((binder.variable, annotation_of value) ∷ types) number k.1 ∙ one_behind binder.variable (annotation_of value) types number k.0
still_typed (Global name binder None ∷ others) types number h =
    let k = apart (nat_eq binder.variable number) (is_among (global_numbers others) number) h in
    still_typed others (external_types binder binder.kind ++ types) number k.1 ∙ one_external_behind binder binder.kind types number k.0

still_found : (rest : List TypedDeclaration) (types : Types) → AreNew rest types → (number : ℕ) (t : SequenceType) → look_up types number ≡ Some t
    → look_up (types_declared rest types) number ≡ Some t
still_found rest types new number t e = still_typed rest types number (new.fresh number (ap is_some e)) ∙ e

abbrev types_in : Types → Option (TypedFunction × Types) → Types
types_in types None = types
types_in types (Some declared) = declared.1

-- the types where a function is declared are those in the end
pub functions_agree : (rest : List TypedDeclaration) (types : Types) → AreNew rest types → (at : ℕ) (function : TypedFunction) (before : Types)
    → slice_get (functions_declared rest types) at ≡ Some (function, before) → (number : ℕ) (t : SequenceType) → look_up before number ≡ Some t
    → look_up (types_declared rest types) number ≡ Some t
functions_agree [] types new at function before e number t found = absurd (cc)
functions_agree (Function f ∷ others) types new zero function before e number t found =
    still_found others types (others_are_new (Function f) others types new) number t (ap (λ (ts : Types). look_up ts number) (ap (types_in types) e) ∙ found)
functions_agree (Function f ∷ others) types new (suc at) function before e number t found =
    functions_agree others types (others_are_new (Function f) others types new) at function before e number t found
functions_agree (Global name binder (Some value) ∷ others) types new at function before e number t found =
    functions_agree others ((binder.variable, annotation_of value) ∷ types) (others_are_new (Global name binder (Some value)) others types new) at function before e number t found
functions_agree (Global name binder None ∷ others) types new at function before e number t found =
    functions_agree others (external_types binder binder.kind ++ types) (others_are_new (Global name binder None) others types new) at function before e number t found

pub new_keep_their_types : NewKeepTheirTypes
new_keep_their_types declarations rest types first new same at function before e number t found some = by (look_up types number) refl some
  where
    by : (o : Option SequenceType) → look_up types number ≡ o → is_some o ≡ true → o ≡ Some t
    by None k h = absurd (true≢false (sym h))
    by (Some u) k h =
        let here : look_up (types_declared rest types) number ≡ Some u = still_found rest types new number u k in
        let there : look_up (types_declared declarations []) number ≡ Some t = functions_agree declarations [] first at function before e number t found in
        sym here ∙ ap (λ (ts : Types). look_up ts number) (sym same) ∙ there
