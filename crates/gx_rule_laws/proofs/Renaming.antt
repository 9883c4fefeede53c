-- An expression comes to the same under bindings that agree on what it names.
use Rattle.std.proofs.Common.{◌≡◌, ◌≢◌, ℕ, zero, suc, Bool, true, false, not, ◌&&◌, ◌||◌, List, [], ◌∷◌, ◌++◌, Some, nat_eq, refl, sym, ◌∙◌, ap, if◌then◌else◌}
use Rattle.std.proofs.lemmas.Bool.{eqb-true, true≢false}
use Rattle.gx_model.specs.Forest.{Forest}
use Rattle.gx_model.specs.Item.{Items}
use Rattle.gx_model.proofs.LocationLemmas.{nat_differs}
use Rattle.gx_core.specs.declared.operator.Operator.{Operator}
use Rattle.gx_core.specs.declared.operator.Operator.TheVariants as operators
use Rattle.gx_core.specs.Bindings.{look_up, position_bound, numbers_bound_by}
use Rattle.gx_core.specs.Expression.{At, Parts, no_parts, a_part, plain, plain_parts}
use Rattle.gx_core.specs.FreeVariables.{names_variable, is_free_in, is_free_in_parts}
use Rattle.gx_core.specs.Invariant.{is_among}
use Rattle.gx_core.specs.Meaning.{Context, Bindings, meaning}
use Rattle.gx_core.specs.Soundness.{TypedExpression}
use Rattle.gx_core.proofs.FreeMeaning.{meaning_looks_at_free_variables}
use Rattle.gx_core.proofs.PlainMeaning.{meaning_looks_at_no_type}
use Rattle.gx_plan.specs.declared.plan.Carried.{Carried}
use Rattle.gx_plan.specs.Plan.{PlanExpression, typed_expression, typed_parts}
use Rattle.gx_rule_laws.specs.KeepingRules.{IsRegularOperator, IsRegular, AreRegular}

pub looks_at_free : (context : Context) (e : TypedExpression) (bindings others : Bindings) (forest : Forest)
    → ((number : ℕ) → is_free_in (plain e) number ≡ true → look_up bindings number ≡ look_up others number)
    → meaning context e bindings forest ≡ meaning context e others forest
looks_at_free context e bindings others forest h =
    sym (meaning_looks_at_no_type context e bindings forest)
    ∙ meaning_looks_at_free_variables context (plain e) bindings others forest h
    ∙ meaning_looks_at_no_type context e others forest

-- ---- two variables may be bound in either order

pub may_be_swapped : (context : Context) (e : TypedExpression) (m n : ℕ) (xs ys : Items) (bindings : Bindings) (forest : Forest) → m ≢ n
    → meaning context e ((m, xs) ∷ (n, ys) ∷ bindings) forest ≡ meaning context e ((n, ys) ∷ (m, xs) ∷ bindings) forest
may_be_swapped context e m n xs ys bindings forest differ =
    looks_at_free context e ((m, xs) ∷ (n, ys) ∷ bindings) ((n, ys) ∷ (m, xs) ∷ bindings) forest
    (λ number free. by_tests number (nat_eq m number) refl (nat_eq n number) refl)
  where
    by_tests : (number : ℕ) (b : Bool) → nat_eq m number ≡ b → (c : Bool) → nat_eq n number ≡ c
        → (if b then Some xs else (if c then Some ys else look_up bindings number))
        ≡ (if c then Some ys else (if b then Some xs else look_up bindings number))
    by_tests number true e true f = absurd (differ (eqb-true m number e ∙ sym (eqb-true n number f)))
    by_tests number true e false f = refl
    by_tests number false e true f = refl
    by_tests number false e false f = refl

-- ---- no expression names variable 0

neither : (a b : Bool) → a ≡ false → b ≡ false → (a || b) ≡ false
neither false false e f = refl
neither true b e f = absurd (cc)
neither false true e f = absurd (cc)

not_this_one : (a b : Bool) → b ≡ false → (a && b) ≡ false
not_this_one true false e = refl
not_this_one false b e = refl
not_this_one true true e = absurd (cc)

names_none : (operator : Operator) → IsRegularOperator operator → names_variable operator 0 ≡ false
names_none (operators.Var number) h = nat_differs number 0 h
names_none (operators.Step axis asks number) h = nat_differs number 0 h
names_none _ h = refl

mutual
  pub no_zero : (e : PlanExpression) → IsRegular e → is_free_in (plain (typed_expression e)) 0 ≡ false
  no_zero (At place outer carried operator parts) h =
      neither (names_variable operator 0) (is_free_in_parts operator [] (plain_parts (typed_parts parts)) 0)
      (names_none operator h.0) (no_zero_in operator [] parts h.1)

  no_zero_in : (operator : Operator) (before : List (Unit {0})) (parts : Parts Carried) → AreRegular parts
      → is_free_in_parts operator before (plain_parts (typed_parts parts)) 0 ≡ false
  no_zero_in operator before no_parts h = refl
  no_zero_in operator before (a_part first others) h =
      neither (not (is_among (numbers_bound_by operator before) 0) && is_free_in (plain (typed_expression first)) 0)
      (is_free_in_parts operator (before ++ tt ∷ []) (plain_parts (typed_parts others)) 0)
      (not_this_one (not (is_among (numbers_bound_by operator before) 0)) (is_free_in (plain (typed_expression first)) 0) (no_zero first h.0))
      (no_zero_in operator (before ++ tt ∷ []) others h.1)

-- so it may be bound, where no variable is meant
pub none_may_be_bound : (context : Context) (e : PlanExpression) (number : ℕ) (xs : Items) (bindings : Bindings) (forest : Forest) → IsRegular e
    → meaning context (typed_expression e) ((number, xs) ∷ bindings) forest
    ≡ meaning context (typed_expression e) (position_bound number xs ++ bindings) forest
none_may_be_bound context e (suc number) xs bindings forest h = refl
none_may_be_bound context e zero xs bindings forest h =
    looks_at_free context (typed_expression e) ((zero, xs) ∷ bindings) bindings forest
    (λ number free. by_test number free (nat_eq 0 number) refl)
  where
    by_test : (number : ℕ) → is_free_in (plain (typed_expression e)) number ≡ true → (b : Bool) → nat_eq 0 number ≡ b
        → (if b then Some xs else look_up bindings number) ≡ look_up bindings number
    by_test number free true f =
        absurd (true≢false (sym free ∙ ap (is_free_in (plain (typed_expression e))) (sym (eqb-true 0 number f)) ∙ no_zero e h))
    by_test number free false f = refl
