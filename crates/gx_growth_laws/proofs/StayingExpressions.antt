-- Expressions that make nothing stay where the forest grows, by their operators.
use Rattle.std.proofs.Common.{◌≡◌, true, false, List, [], ◌∷◌, ◌++◌, map, refl, ap}
use Rattle.std.proofs.lemmas.Bool.{and_parts}
use Rattle.gx_types.specs.declared.step.Axis.{Axis}
use Rattle.gx_types.specs.declared.step.Test.{Test}
use Rattle.gx_model.specs.Axes.{on_axis}
use Rattle.gx_model.specs.Forest.{Forest}
use Rattle.gx_model.specs.Growth.{Extends}
use Rattle.gx_model.specs.Item.{atom, node, Items}
use Rattle.gx_core.specs.declared.operator.Operator.{Operator}
use Rattle.gx_core.specs.declared.operator.Operator.TheVariants as operators
use Rattle.gx_core.specs.BinaryOperators.{class_of}
use Rattle.gx_core.specs.Bindings.{look_up}
use Rattle.gx_core.specs.Comparing.{condition_of}
use Rattle.gx_core.specs.Expression.{Expression, At, Parts, no_parts, a_part}
use Rattle.gx_core.specs.Meaning.{Context, Bindings, Denotation, acts, all_of, for_each, item_bound, any_decides, branch, switched, denoted, meaning, meanings}
use Rattle.gx_core.specs.Outcome.{gives, after, given}
use Rattle.gx_core.specs.Paths.{stepped}
use Rattle.gx_growth_laws.specs.Steady.{IsThere, AreThere, BindingsAreThere, operator_makes_nothing, makes_nothing, parts_make_nothing}
use Rattle.gx_growth_laws.proofs.GrownForests.{same_axis, axis_there, nodes_there}
use Rattle.gx_growth_laws.proofs.ListFacts.{every_joined}
use Rattle.gx_growth_laws.proofs.StayingArguments.{AllThere}
use Rattle.gx_growth_laws.proofs.StayingCalls.{stays_called}
use Rattle.gx_growth_laws.proofs.StayingOperators.{ItemsStay, stays_negation, stays_cast, stays_castable, stays_alone, stays_ordered, stays_binary, nth_there, final_there, stays_data, stays_treated}
use Rattle.gx_growth_laws.proofs.StayingOutcomes.{stays_after, stays_given, stays_so}
use Rattle.gx_growth_laws.proofs.StayingParts.{PartStays, PartsStay, looked_up_there, stay_all, stays_loop, stays_quantified, stays_branch, stays_switched, stays_block}

module _ (context : Context) (before now : Forest) (e : Extends before now) where
  -- ---- strict operators

  acts_stay : (operator : Operator) → operator_makes_nothing operator ≡ true → (values : List Items) → AllThere before values
      → ItemsStay before now (acts context operator values before) (acts context operator values now)
  acts_stay (operators.Lit value) m [] h = (refl, (tt, tt), refl)
  acts_stay operators.Empty m [] h = (refl, tt, refl)
  acts_stay operators.Seq m (xs ∷ ys ∷ []) h = (refl, every_joined (IsThere before) xs ys h.0 h.1.0, refl)
  acts_stay operators.Nodes m (xs ∷ []) h = stays_alone before now xs h.0
  acts_stay operators.Order m (xs ∷ []) h = stays_ordered before now e xs h.0
  acts_stay (operators.Nth number reverse) m (xs ∷ []) h = (refl, nth_there before number reverse xs h.0, refl)
  acts_stay (operators.Final reverse) m (xs ∷ []) h = (refl, final_there before reverse xs h.0, refl)
  acts_stay operators.DataOf m (xs ∷ []) h = stays_data before now e context.schemas xs h.0
  acts_stay (operators.Cast kind optional) m (xs ∷ []) h = stays_cast before now context.schemas kind optional xs
  acts_stay (operators.Castable kind optional) m (xs ∷ []) h = stays_castable before now context.schemas kind optional xs
  acts_stay (operators.Treat kind) m (xs ∷ []) h = stays_treated before now e context.schemas kind xs h.0
  acts_stay (operators.Call function) m values h = stays_called before now e context.schemas function values h
  acts_stay operators.Neg m (xs ∷ []) h = stays_negation before now xs
  acts_stay (operators.Binary operator) m (xs ∷ ys ∷ []) h = stays_binary before now e (class_of operator) xs ys h.0 h.1.0
  acts_stay (operators.Construct constructor count) m values h = absurd (cc)
  acts_stay (operators.User signature count) m values h = absurd (cc)
  acts_stay _ m _ h = tt

  strict_stays : (operator : Operator) → operator_makes_nothing operator ≡ true → (parts : List Denotation) → PartsStay before now parts
      → (bindings : Bindings) → BindingsAreThere before bindings
      → ItemsStay before now (after (all_of parts bindings before) (acts context operator)) (after (all_of parts bindings now) (acts context operator))
  strict_stays operator m parts h bindings b =
      stays_after before now (AllThere before) (AreThere before) (λ forest. all_of parts bindings forest) (acts context operator)
      (stay_all before now parts bindings b h) (acts_stay operator m)

  -- ---- steps

  step_stays : (axis : Axis) (asks : Test) (xs : Items) → AreThere before xs
      → ItemsStay before now (stepped context.schemas axis asks xs before) (stepped context.schemas axis asks xs now)
  step_stays axis asks [] h = tt
  step_stays axis asks (node place ∷ []) h =
      stays_so before now (AreThere before) (λ forest. map node (on_axis context.schemas forest place axis asks))
      (ap (map node) (same_axis context.schemas before now e place axis asks h.0))
      (nodes_there before (on_axis context.schemas before place axis asks) (axis_there context.schemas before place axis asks))
  step_stays axis asks (node place ∷ y ∷ xs) h = tt
  step_stays axis asks (atom a ∷ xs) h = tt

  -- ---- all operators, of which the strict ones stay by the last premise

  denoted_stays : (operator : Operator) (parts : List Denotation) → PartsStay before now parts → (bindings : Bindings) → BindingsAreThere before bindings
      → ItemsStay before now (after (all_of parts bindings before) (acts context operator)) (after (all_of parts bindings now) (acts context operator))
      → ItemsStay before now (denoted context operator parts bindings before) (denoted context operator parts bindings now)
  denoted_stays (operators.Var number) [] h bindings b s =
      stays_given before now (AreThere before) (λ forest. look_up bindings number) (λ value forest. gives value forest) refl
      (λ value f. (refl, looked_up_there before bindings number value b f, refl))
  denoted_stays (operators.Step axis asks number) [] h bindings b s =
      stays_given before now (AreThere before) (λ forest. look_up bindings number) (λ value forest. stepped context.schemas axis asks value forest) refl
      (λ value f. step_stays axis asks value (looked_up_there before bindings number value b f))
  denoted_stays (operators.For binder position) (source ∷ body ∷ []) h bindings b s =
      stays_after before now (AreThere before) (AreThere before) (λ forest. source bindings forest)
      (λ xs left. for_each (λ number x now. body (item_bound binder.variable position number x ++ bindings) now) 1 [] xs left) (h.0 bindings b)
      (λ xs there. stays_loop before now binder.variable position body bindings xs b h.1.0 there)
  denoted_stays (operators.SomeIn binder) (source ∷ test ∷ []) h bindings b s =
      stays_after before now (AreThere before) (AreThere before) (λ forest. source bindings forest)
      (λ xs left. any_decides true (λ x now. test ((binder.variable, x ∷ []) ∷ bindings) now) xs left) (h.0 bindings b)
      (λ xs there. stays_quantified before now true binder.variable test bindings xs b h.1.0 there)
  denoted_stays (operators.EveryIn binder) (source ∷ test ∷ []) h bindings b s =
      stays_after before now (AreThere before) (AreThere before) (λ forest. source bindings forest)
      (λ xs left. any_decides false (λ x now. test ((binder.variable, x ∷ []) ∷ bindings) now) xs left) (h.0 bindings b)
      (λ xs there. stays_quantified before now false binder.variable test bindings xs b h.1.0 there)
  denoted_stays (operators.Block clauses keys) parts h bindings b s = stays_block before now clauses keys parts bindings b h
  denoted_stays (operators.Let binder) (value ∷ body ∷ []) h bindings b s =
      stays_after before now (AreThere before) (AreThere before) (λ forest. value bindings forest)
      (λ xs left. body ((binder.variable, xs) ∷ bindings) left) (h.0 bindings b)
      (λ xs there. h.1.0 ((binder.variable, xs) ∷ bindings) (there, b))
  denoted_stays (operators.Switch cases default) (operand ∷ branches) h bindings b s =
      stays_after before now (AreThere before) (AreThere before) (λ forest. operand bindings forest)
      (λ xs left. switched context.schemas cases default branches xs bindings left) (h.0 bindings b)
      (λ xs there. stays_switched before now e context.schemas cases default branches xs bindings there b h.1)
  denoted_stays operators.If (condition ∷ chosen ∷ otherwise ∷ []) h bindings b s =
      stays_after before now (AreThere before) (AreThere before) (λ forest. condition bindings forest)
      (λ xs left. given (condition_of xs) (λ truth. branch truth chosen otherwise bindings left)) (h.0 bindings b)
      (λ xs there. stays_given before now (AreThere before) (λ forest. condition_of xs)
      (λ truth forest. branch truth chosen otherwise bindings forest) refl
      (λ truth f. stays_branch before now truth chosen otherwise bindings b h.1.0 h.1.1.0))
  denoted_stays (operators.For binder position) _ h bindings b s = tt
  denoted_stays (operators.SomeIn binder) _ h bindings b s = tt
  denoted_stays (operators.EveryIn binder) _ h bindings b s = tt
  denoted_stays (operators.Let binder) _ h bindings b s = tt
  denoted_stays (operators.Switch cases default) [] h bindings b s = tt
  denoted_stays operators.If _ h bindings b s = tt
  denoted_stays _ parts h bindings b s = s

  -- ---- expressions

  mutual
    pub expression_stays : {A : Type 0} (x : Expression A) → makes_nothing x ≡ true → PartStays before now (meaning context x)
    expression_stays (At place outer annotation operator parts) m =
        let both = and_parts (operator_makes_nothing operator) (parts_make_nothing parts) m in
        let stay : PartsStay before now (meanings context parts) = parts_stay parts both.1 in
        λ bindings b. denoted_stays operator (meanings context parts) stay bindings b
        (strict_stays operator both.0 (meanings context parts) stay bindings b)

    pub parts_stay : {A : Type 0} (parts : Parts A) → parts_make_nothing parts ≡ true → PartsStay before now (meanings context parts)
    parts_stay no_parts m = tt
    parts_stay (a_part first others) m =
        let both = and_parts (makes_nothing first) (parts_make_nothing others) m in
        (expression_stays first both.0, parts_stay others both.1)
