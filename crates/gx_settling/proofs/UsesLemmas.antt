-- What an expression calls and names.
use Rattle.std.proofs.Common.{◌≡◌, ℕ, Bool, true, false, ◌&&◌, ◌||◌, ◌⊎◌, inl, inr, nat_eq, List, [], ◌∷◌, ◌++◌, refl, sym, ◌∙◌, ap}
use Rattle.std.specs.Prelude.{not}
use Rattle.std.proofs.lemmas.Bool.{true≢false, or_left, or_right}
use Rattle.std.proofs.lemmas.List.Folds.{list_any-append}
use Rattle.gx_core.specs.declared.operator.Operator.{Operator}
use Rattle.gx_core.specs.declared.operator.Operator.TheVariants as operators
use Rattle.gx_core.specs.declared.signature.FunctionSignature.{FunctionSignature}
use Rattle.gx_core.specs.Expression.{Expression, At, Parts, no_parts, a_part, plain, plain_parts}
use Rattle.gx_core.specs.Bindings.{numbers_bound_by}
use Rattle.gx_core.specs.CalledFunctions.{AllCalls, AllCallsInParts}
use Rattle.gx_core.specs.FreeVariables.{names_variable, is_free_in, is_free_in_parts}
use Rattle.gx_core.specs.Invariant.{is_among}
use Rattle.gx_settling.specs.Uses.{of_operators, of_operators_in, named_variable, variables_named}

-- ---- without annotations

mutual
  -- the operators are the same
  pub operators_without_types : {A : Type 0} (look : Operator → List ℕ) (e : Expression A) → of_operators look (plain e) ≡ of_operators look e
  operators_without_types look (At place outer annotation operator parts) = ap (λ (ns : List ℕ). look operator ++ ns) (parts_without_types look parts)

  parts_without_types : {A : Type 0} (look : Operator → List ℕ) (parts : Parts A) → of_operators_in look (plain_parts parts) ≡ of_operators_in look parts
  parts_without_types look no_parts = refl
  parts_without_types look (a_part first others) =
      ap (λ (ns : List ℕ). ns ++ of_operators_in look (plain_parts others)) (operators_without_types look first)
      ∙ ap (λ (ns : List ℕ). of_operators look first ++ ns) (parts_without_types look others)

mutual
  -- so are the variables that are named and not bound
  pub free_without_types : {A : Type 0} (e : Expression A) (number : ℕ) → is_free_in (plain e) number ≡ is_free_in e number
  free_without_types (At place outer annotation operator parts) number =
      ap (λ (b : Bool). names_variable operator number || b) (free_in_parts_without_types operator [] parts number)

  free_in_parts_without_types : {A : Type 0} (operator : Operator) (before : List (Unit {0})) (parts : Parts A) (number : ℕ)
      → is_free_in_parts operator before (plain_parts parts) number ≡ is_free_in_parts operator before parts number
  free_in_parts_without_types operator before no_parts number = refl
  free_in_parts_without_types operator before (a_part first others) number =
      ap (λ (b : Bool). (not (is_among (numbers_bound_by operator before) number) && b) || is_free_in_parts operator (before ++ tt ∷ []) (plain_parts others) number)
      (free_without_types first number)
      ∙ ap (λ (b : Bool). (not (is_among (numbers_bound_by operator before) number) && is_free_in first number) || b)
      (free_in_parts_without_types operator (before ++ tt ∷ []) others number)

mutual
  -- and the calls
  pub calls_without_types : {A : Type 0} (known : List FunctionSignature) (e : Expression A) → AllCalls known e → AllCalls known (plain e)
  calls_without_types known (At place outer annotation operator parts) h = (h.0, calls_in_parts_without_types known parts h.1)

  calls_in_parts_without_types : {A : Type 0} (known : List FunctionSignature) (parts : Parts A)
      → AllCallsInParts known parts → AllCallsInParts known (plain_parts parts)
  calls_in_parts_without_types known no_parts h = tt
  calls_in_parts_without_types known (a_part first others) h = (calls_without_types known first h.0, calls_in_parts_without_types known others h.1)

mutual
  pub calls_with_types : {A : Type 0} (known : List FunctionSignature) (e : Expression A) → AllCalls known (plain e) → AllCalls known e
  calls_with_types known (At place outer annotation operator parts) h = (h.0, calls_in_parts_with_types known parts h.1)

  calls_in_parts_with_types : {A : Type 0} (known : List FunctionSignature) (parts : Parts A)
      → AllCallsInParts known (plain_parts parts) → AllCallsInParts known parts
  calls_in_parts_with_types known no_parts h = tt
  calls_in_parts_with_types known (a_part first others) h = (calls_with_types known first h.0, calls_in_parts_with_types known others h.1)

-- ---- a variable that is named and not bound is named

either : (a b : Bool) → a || b ≡ true → (a ≡ true) ⊎ (b ≡ true)
either true b h = inl refl
either false b h = inr h

and_behind : (a b : Bool) → a && b ≡ true → b ≡ true
and_behind true b h = h
and_behind false b h = absurd (true≢false (sym h))

named_in_operator : (operator : Operator) (number : ℕ) → names_variable operator number ≡ true → is_among (named_variable operator) number ≡ true
named_in_operator (operators.Var variable) number h = or_left (nat_eq variable number) false h
named_in_operator (operators.Step axis asks variable) number h = or_left (nat_eq variable number) false h
named_in_operator _ number h = absurd (true≢false (sym h))

among_front : (xs ys : List ℕ) (number : ℕ) → is_among xs number ≡ true → is_among (xs ++ ys) number ≡ true
among_front xs ys number h = list_any-append (λ other. nat_eq other number) xs ys ∙ or_left (is_among xs number) (is_among ys number) h

among_behind : (xs ys : List ℕ) (number : ℕ) → is_among ys number ≡ true → is_among (xs ++ ys) number ≡ true
among_behind xs ys number h = list_any-append (λ other. nat_eq other number) xs ys ∙ or_right (is_among xs number) (is_among ys number) h

mutual
  pub free_are_named : {A : Type 0} (e : Expression A) (number : ℕ) → is_free_in e number ≡ true → is_among (variables_named e) number ≡ true
  free_are_named (At place outer annotation operator parts) number h =
      elim (either (names_variable operator number) (is_free_in_parts operator [] parts number) h) [
        | inl named ↦ among_front (named_variable operator) (of_operators_in named_variable parts) number (named_in_operator operator number named)
        | inr free ↦ among_behind (named_variable operator) (of_operators_in named_variable parts) number (free_in_parts_are_named operator [] parts number free)
      ]

  free_in_parts_are_named : {A : Type 0} (operator : Operator) (before : List (Unit {0})) (parts : Parts A) (number : ℕ)
      → is_free_in_parts operator before parts number ≡ true → is_among (of_operators_in named_variable parts) number ≡ true
  free_in_parts_are_named operator before no_parts number h = absurd (true≢false (sym h))
  free_in_parts_are_named operator before (a_part first others) number h =
      elim (either (not (is_among (numbers_bound_by operator before) number) && is_free_in first number) (is_free_in_parts operator (before ++ tt ∷ []) others number) h) [
        | inl here ↦ among_front (variables_named first) (of_operators_in named_variable others) number
            (free_are_named first number (and_behind (not (is_among (numbers_bound_by operator before) number)) (is_free_in first number) here))
        | inr free ↦ among_behind (variables_named first) (of_operators_in named_variable others) number (free_in_parts_are_named operator (before ++ tt ∷ []) others number free)
      ]
