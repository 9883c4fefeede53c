-- Operators that choose, bind or repeat stay where the forest grows and their parts stay.
use Rattle.std.proofs.Common.{◌≡◌, ℕ, zero, suc, Bool, true, false, List, [], ◌∷◌, ◌++◌, length, drop, map, Option, Some, refl, subst, if◌then◌else◌}
use Rattle.std.specs.Prelude.{pos, nat_eq}
use Rattle.gx_facets.specs.declared.Atomic.{Atomic}
use Rattle.gx_sorting.specs.declared.keys.KeyOrder.{KeyOrder}
use Rattle.gx_sorting.specs.KeyComparison.{keys_precede}
use Rattle.gx_funcs.specs.Function.{integer_atom}
use Rattle.gx_types.specs.SchemaSet.{SchemaSet}
use Rattle.gx_model.specs.Forest.{Forest}
use Rattle.gx_model.specs.Growth.{Extends}
use Rattle.gx_model.specs.Item.{Item, atom, Items}
use Rattle.gx_model.specs.OrderLaws.{Every}
use Rattle.gx_core.specs.declared.cases.TypeCase.{TypeCase}
use Rattle.gx_core.specs.declared.operator.ClauseKind.{ClauseKind}
use Rattle.gx_core.specs.declared.operator.ClauseKind.TheVariants as kinds
use Rattle.gx_core.specs.Bindings.{look_up, position_bound}
use Rattle.gx_core.specs.Blocks.{Tuple, key_of, tuple_keys, tuples_of_each, tuples_if, tuples_of, in_key_order, returned, block_returned, block_denoted}
use Rattle.gx_core.specs.Comparing.{truth_value, condition_of}
use Rattle.gx_core.specs.Instances.{is_instance}
use Rattle.gx_core.specs.Meaning.{Bindings, Denotation, item_bound, all_of, for_each, decides, any_decides, branch, switched}
use Rattle.gx_core.specs.Outcome.{Outcome, gives, after, given}
use Rattle.gx_growth_laws.specs.Steady.{IsThere, AreThere, BindingsAreThere}
use Rattle.gx_growth_laws.proofs.ListFacts.{every_joined, every_behind, every_made, every_sorted}
use Rattle.gx_growth_laws.proofs.StayingArguments.{AllThere}
use Rattle.gx_growth_laws.proofs.StayingItems.{same_instance}
use Rattle.gx_growth_laws.proofs.StayingOperators.{ItemsStay}
use Rattle.gx_growth_laws.proofs.StayingOutcomes.{Stays, stays_after, stays_given, stays_if}

-- ---- bindings

module _ (forest : Forest) where
  abbrev IsBoundThere : ℕ × Items → Type 0
  IsBoundThere binding = AreThere forest binding.1

  found_if : (b : Bool) (xs value : Items) (rest : Option Items) → AreThere forest xs → (rest ≡ Some value → AreThere forest value)
      → (if b then Some xs else rest) ≡ Some value → AreThere forest value
  found_if true xs value rest h k e = subst (AreThere forest) (some_is xs value e) h
    where
      some_is : (ys zs : Items) → Some ys ≡ Some zs → ys ≡ zs
      some_is ys zs f = cc
  found_if false xs value rest h k e = k e

  pub looked_up_there : (bindings : Bindings) (number : ℕ) (value : Items) → BindingsAreThere forest bindings → look_up bindings number ≡ Some value
      → AreThere forest value
  looked_up_there [] number value h e = absurd (cc)
  looked_up_there (binding ∷ bindings) number value h e =
      found_if (nat_eq binding.0 number) binding.1 value (look_up bindings number) h.0 (looked_up_there bindings number value h.1) e

  bound_there : (first others : Bindings) → BindingsAreThere forest first → BindingsAreThere forest others → BindingsAreThere forest (first ++ others)
  bound_there first others h k = every_joined (λ (binding : ℕ × Items). AreThere forest binding.1) first others h k

  position_there : (position : ℕ) (xs : Items) → AreThere forest xs → BindingsAreThere forest (position_bound position xs)
  position_there zero xs h = tt
  position_there (suc position) xs h = (h, tt)

  turn_there : (variable position number : ℕ) (x : Item) → IsThere forest x → BindingsAreThere forest (item_bound variable position number x)
  turn_there variable position number x h = ((h, tt), position_there position (atom (integer_atom (pos number)) ∷ []) (tt, tt))

-- ---- operands, loops, searches and choices

-- a part that stays wherever the values of all variables are there
abbrev pub PartStays : (before now : Forest) → Denotation → Type 0
PartStays before now part = (bindings : Bindings) → BindingsAreThere before bindings → Stays (AreThere before) before now (part bindings before) (part bindings now)

abbrev pub PartsStay : (before now : Forest) → List Denotation → Type 0
PartsStay before now parts = Every (PartStays before now) parts

module _ (before now : Forest) where
  pub stay_all : (parts : List Denotation) (bindings : Bindings) → BindingsAreThere before bindings → PartsStay before now parts
      → Stays (AllThere before) before now (all_of parts bindings before) (all_of parts bindings now)
  stay_all [] bindings b h = (refl, tt, refl)
  stay_all (part ∷ parts) bindings b h =
      stays_after before now (AreThere before) (AllThere before) (λ forest. part bindings forest)
      (λ value left. after (all_of parts bindings left) (λ values last. gives (value ∷ values) last)) (h.0 bindings b)
      (λ value there. stays_after before now (AllThere before) (AllThere before) (λ forest. all_of parts bindings forest)
      (λ values last. gives (value ∷ values) last) (stay_all parts bindings b h.1) (λ values also. (refl, (there, also), refl)))

  stay_turns : (next : ℕ → Item → Forest → Outcome Items) → ((number : ℕ) (x : Item) → IsThere before x → ItemsStay before now (next number x before) (next number x now))
      → (number : ℕ) (done xs : Items) → AreThere before done → AreThere before xs
      → ItemsStay before now (for_each next number done xs before) (for_each next number done xs now)
  stay_turns next k number done [] d h = (refl, d, refl)
  stay_turns next k number done (x ∷ xs) d h =
      stays_after before now (AreThere before) (AreThere before) (λ forest. next number x forest)
      (λ more left. for_each next (suc number) (done ++ more) xs left) (k number x h.0)
      (λ more there. stay_turns next k (suc number) (done ++ more) xs (every_joined (IsThere before) done more d there) h.1)

  pub stays_loop : (variable position : ℕ) (body : Denotation) (bindings : Bindings) (xs : Items) → BindingsAreThere before bindings → PartStays before now body
      → AreThere before xs
      → ItemsStay before now
      (for_each (λ number x now. body (item_bound variable position number x ++ bindings) now) 1 [] xs before)
      (for_each (λ number x now. body (item_bound variable position number x ++ bindings) now) 1 [] xs now)
  stays_loop variable position body bindings xs b k h =
      stay_turns (λ number x forest. body (item_bound variable position number x ++ bindings) forest)
      (λ number x there. k (item_bound variable position number x ++ bindings)
      (bound_there before (item_bound variable position number x) bindings (turn_there before variable position number x there) b)) 1 [] xs tt h

  stay_search : (decisive : Bool) (test : Item → Forest → Outcome Items) → ((x : Item) → IsThere before x → ItemsStay before now (test x before) (test x now))
      → (xs : Items) → AreThere before xs → ItemsStay before now (any_decides decisive test xs before) (any_decides decisive test xs now)
  stay_search decisive test k [] h = (refl, (tt, tt), refl)
  stay_search decisive test k (x ∷ xs) h =
      stays_after before now (AreThere before) (AreThere before) (λ forest. test x forest)
      (λ ys left. given (condition_of ys)
      (λ truth. if decides decisive truth then gives (truth_value decisive) left else any_decides decisive test xs left)) (k x h.0)
      (λ ys there. stays_given before now (AreThere before) (λ forest. condition_of ys)
      (λ truth forest. if decides decisive truth then gives (truth_value decisive) forest else any_decides decisive test xs forest) refl
      (λ truth f. stays_if before now (AreThere before) (λ forest. decides decisive truth) (λ forest. gives (truth_value decisive) forest)
      (λ forest. any_decides decisive test xs forest) refl (refl, (tt, tt), refl) (stay_search decisive test k xs h.1)))

  pub stays_quantified : (decisive : Bool) (variable : ℕ) (test : Denotation) (bindings : Bindings) (xs : Items) → BindingsAreThere before bindings
      → PartStays before now test → AreThere before xs
      → ItemsStay before now (any_decides decisive (λ x now. test ((variable, x ∷ []) ∷ bindings) now) xs before)
      (any_decides decisive (λ x now. test ((variable, x ∷ []) ∷ bindings) now) xs now)
  stays_quantified decisive variable test bindings xs b k h =
      stay_search decisive (λ x forest. test ((variable, x ∷ []) ∷ bindings) forest) (λ x there. k ((variable, x ∷ []) ∷ bindings) ((there, tt), b)) xs h

  pub stays_branch : (truth : Bool) (chosen otherwise : Denotation) (bindings : Bindings) → BindingsAreThere before bindings → PartStays before now chosen
      → PartStays before now otherwise → ItemsStay before now (branch truth chosen otherwise bindings before) (branch truth chosen otherwise bindings now)
  stays_branch true chosen otherwise bindings b h k = h bindings b
  stays_branch false chosen otherwise bindings b h k = k bindings b

pub stays_switched : (before now : Forest) → Extends before now → (schemas : SchemaSet) (cases : List TypeCase) (default : ℕ) (branches : List Denotation)
    (xs : Items) (bindings : Bindings) → AreThere before xs → BindingsAreThere before bindings → PartsStay before now branches
    → ItemsStay before now (switched schemas cases default branches xs bindings before) (switched schemas cases default branches xs bindings now)
stays_switched before now e schemas [] default (otherwise ∷ []) xs bindings there b h =
    h.0 (position_bound default xs ++ bindings) (bound_there before (position_bound default xs) bindings (position_there before default xs there) b)
stays_switched before now e schemas (c ∷ cases) default (chosen ∷ branches) xs bindings there b h =
    stays_if before now (AreThere before) (λ forest. is_instance schemas forest c.kind xs)
    (λ forest. chosen (position_bound c.variable xs ++ bindings) forest) (λ forest. switched schemas cases default branches xs bindings forest)
    (same_instance before now e schemas c.kind xs there)
    (h.0 (position_bound c.variable xs ++ bindings)
    (bound_there before (position_bound c.variable xs) bindings (position_there before c.variable xs there) b))
    (stays_switched before now e schemas cases default branches xs bindings there b h.1)
stays_switched before now e schemas [] default [] xs bindings there b h = tt
stays_switched before now e schemas [] default (d ∷ f ∷ branches) xs bindings there b h = tt
stays_switched before now e schemas (c ∷ cases) default [] xs bindings there b h = tt

-- ---- blocks

-- what the clauses bind in a tuple is there
abbrev IsTupleThere : Forest → Tuple → Type 0
IsTupleThere forest tuple = BindingsAreThere forest tuple.bound

abbrev TuplesAreThere : Forest → List Tuple → Type 0
TuplesAreThere forest tuples = Every (IsTupleThere forest) tuples

abbrev AnyKeys : List (Option Atomic) → Type 0
AnyKeys keys = Unit {0}

module _ (before now : Forest) where
  stay_keys : (orders : List KeyOrder) (parts : List Denotation) (bindings : Bindings) → BindingsAreThere before bindings → PartsStay before now parts
      → Stays AnyKeys before now (tuple_keys orders parts bindings before) (tuple_keys orders parts bindings now)
  stay_keys [] parts bindings b h = (refl, tt, refl)
  stay_keys (order ∷ orders) [] bindings b h = tt
  stay_keys (order ∷ orders) (part ∷ parts) bindings b h =
      stays_after before now (AreThere before) AnyKeys (λ forest. part bindings forest)
      (λ xs left. given (key_of xs) (λ key. after (tuple_keys orders parts bindings left) (λ keys last. gives (key ∷ keys) last))) (h.0 bindings b)
      (λ xs there. stays_given before now AnyKeys (λ forest. key_of xs)
      (λ key forest. after (tuple_keys orders parts bindings forest) (λ keys last. gives (key ∷ keys) last)) refl
      (λ key f. stays_after before now AnyKeys AnyKeys (λ forest. tuple_keys orders parts bindings forest) (λ keys last. gives (key ∷ keys) last)
      (stay_keys orders parts bindings b h.1) (λ keys also. (refl, tt, refl))))

  stay_tuples_of_each : (next : ℕ → Item → Forest → Outcome (List Tuple))
      → ((number : ℕ) (x : Item) → IsThere before x → Stays (TuplesAreThere before) before now (next number x before) (next number x now))
      → (number : ℕ) (xs : Items) → AreThere before xs
      → Stays (TuplesAreThere before) before now (tuples_of_each next number xs before) (tuples_of_each next number xs now)
  stay_tuples_of_each next k number [] h = (refl, tt, refl)
  stay_tuples_of_each next k number (x ∷ xs) h =
      stays_after before now (TuplesAreThere before) (TuplesAreThere before) (λ forest. next number x forest)
      (λ found left. after (tuples_of_each next (suc number) xs left) (λ others last. gives (found ++ others) last)) (k number x h.0)
      (λ found there. stays_after before now (TuplesAreThere before) (TuplesAreThere before) (λ forest. tuples_of_each next (suc number) xs forest)
      (λ others last. gives (found ++ others) last) (stay_tuples_of_each next k (suc number) xs h.1)
      (λ others also. (refl, every_joined (IsTupleThere before) found others there also, refl)))

  stay_tuples_if : (truth : Bool) (found : Forest → Outcome (List Tuple)) → Stays (TuplesAreThere before) before now (found before) (found now)
      → Stays (TuplesAreThere before) before now (tuples_if truth found before) (tuples_if truth found now)
  stay_tuples_if true found h = h
  stay_tuples_if false found h = (refl, tt, refl)

  stay_tuples : (clauses : List ClauseKind) (orders : List KeyOrder) (parts : List Denotation) (bound outer : Bindings) → BindingsAreThere before bound
      → BindingsAreThere before outer → PartsStay before now parts
      → Stays (TuplesAreThere before) before now (tuples_of clauses orders parts bound outer before) (tuples_of clauses orders parts bound outer now)
  stay_tuples [] orders parts bound outer b o h =
      stays_after before now AnyKeys (TuplesAreThere before) (λ forest. tuple_keys orders parts (bound ++ outer) forest)
      (λ keys left. gives (record { keys = keys; bound = bound } ∷ []) left)
      (stay_keys orders parts (bound ++ outer) (bound_there before bound outer b o) h) (λ keys there. (refl, (b, tt), refl))
  stay_tuples (clause ∷ clauses) orders [] bound outer b o h = tt
  stay_tuples (kinds.For binder position ∷ clauses) orders (source ∷ parts) bound outer b o h =
      stays_after before now (AreThere before) (TuplesAreThere before) (λ forest. source (bound ++ outer) forest)
      (λ xs left. tuples_of_each (λ number x now. tuples_of clauses orders parts (item_bound binder.variable position number x ++ bound) outer now) 1 xs left)
      (h.0 (bound ++ outer) (bound_there before bound outer b o))
      (λ xs there. stay_tuples_of_each
      (λ number x forest. tuples_of clauses orders parts (item_bound binder.variable position number x ++ bound) outer forest)
      (λ number x one. stay_tuples clauses orders parts (item_bound binder.variable position number x ++ bound) outer
      (bound_there before (item_bound binder.variable position number x) bound (turn_there before binder.variable position number x one) b) o h.1) 1 xs there)
  stay_tuples (kinds.Let binder ∷ clauses) orders (value ∷ parts) bound outer b o h =
      stays_after before now (AreThere before) (TuplesAreThere before) (λ forest. value (bound ++ outer) forest)
      (λ xs left. tuples_of clauses orders parts ((binder.variable, xs) ∷ bound) outer left) (h.0 (bound ++ outer) (bound_there before bound outer b o))
      (λ xs there. stay_tuples clauses orders parts ((binder.variable, xs) ∷ bound) outer (there, b) o h.1)
  stay_tuples (kinds.Where ∷ clauses) orders (condition ∷ parts) bound outer b o h =
      stays_after before now (AreThere before) (TuplesAreThere before) (λ forest. condition (bound ++ outer) forest)
      (λ xs left. given (condition_of xs) (λ truth. tuples_if truth (λ now. tuples_of clauses orders parts bound outer now) left))
      (h.0 (bound ++ outer) (bound_there before bound outer b o))
      (λ xs there. stays_given before now (TuplesAreThere before) (λ forest. condition_of xs)
      (λ truth forest. tuples_if truth (λ now. tuples_of clauses orders parts bound outer now) forest) refl
      (λ truth f. stay_tuples_if truth (λ now. tuples_of clauses orders parts bound outer now) (stay_tuples clauses orders parts bound outer b o h.1)))

  stay_returned : (body : Denotation) (outer : Bindings) → BindingsAreThere before outer → PartStays before now body → (done : Items) (tuples : List Bindings)
      → AreThere before done → Every (BindingsAreThere before) tuples
      → ItemsStay before now (returned body outer done tuples before) (returned body outer done tuples now)
  stay_returned body outer o k done [] d h = (refl, d, refl)
  stay_returned body outer o k done (bound ∷ tuples) d h =
      stays_after before now (AreThere before) (AreThere before) (λ forest. body (bound ++ outer) forest)
      (λ more left. returned body outer (done ++ more) tuples left) (k (bound ++ outer) (bound_there before bound outer h.0 o))
      (λ more there. stay_returned body outer o k (done ++ more) tuples (every_joined (IsThere before) done more d there) h.1)

  stay_block_returned : (orders : List KeyOrder) (returns : List Denotation) (bindings : Bindings) (tuples : List Tuple) → BindingsAreThere before bindings
      → TuplesAreThere before tuples → PartsStay before now returns
      → ItemsStay before now (block_returned orders returns bindings tuples before) (block_returned orders returns bindings tuples now)
  stay_block_returned orders [] bindings tuples b t h = tt
  stay_block_returned orders (body ∷ []) bindings tuples b t h =
      stay_returned body bindings b h.0 [] (map (λ t. t.bound) (in_key_order orders tuples)) tt
      (every_made (BindingsAreThere before) (λ (t : Tuple). t.bound) (in_key_order orders tuples)
      (every_sorted (IsTupleThere before) (λ (t u : Tuple). keys_precede orders t.keys u.keys) tuples t))
  stay_block_returned orders (body ∷ other ∷ more) bindings tuples b t h = tt

  pub stays_block : (clauses : List ClauseKind) (orders : List KeyOrder) (parts : List Denotation) (bindings : Bindings) → BindingsAreThere before bindings
      → PartsStay before now parts → ItemsStay before now (block_denoted clauses orders parts bindings before) (block_denoted clauses orders parts bindings now)
  stays_block clauses orders parts bindings b h =
      stays_after before now (TuplesAreThere before) (AreThere before) (λ forest. tuples_of clauses orders parts [] bindings forest)
      (block_returned orders (drop (length orders) (drop (length clauses) parts)) bindings) (stay_tuples clauses orders parts [] bindings tt b h)
      (λ tuples there. stay_block_returned orders (drop (length orders) (drop (length clauses) parts)) bindings tuples b there
      (every_behind (PartStays before now) (length orders) (drop (length clauses) parts) (every_behind (PartStays before now) (length clauses) parts h)))
