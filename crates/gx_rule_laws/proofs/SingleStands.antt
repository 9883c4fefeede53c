-- The `let` of a loop over one item stands in the plan where the loop did.
use Rattle.std.proofs.Common.{◌≡◌, ◌≢◌, ℕ, zero, suc, pos, nat_eq, Bool, true, false, ◌&&◌, Option, None, Some, List, [], ◌∷◌, ◌++◌, refl, sym, ◌∙◌, ap, subst, if◌then◌else◌}
use Rattle.std.specs.List.{AllByRecursion}
use Rattle.std.proofs.lemmas.Bool.{eqb-true, and_parts}
use Rattle.gx_base.specs.declared.place.Place.{Place}
use Rattle.gx_base.specs.declared.type_name.Builtin.TheVariants.{Integer}
use Rattle.gx_base.specs.declared.type_name.TypeName.TheVariants as names
use Rattle.gx_types.specs.SchemaSet.{SchemaSet}
use Rattle.gx_types.specs.SequenceType.{SequenceType}
use Rattle.gx_funcs.specs.Function.{integer_atom}
use Rattle.gx_model.specs.Belongs.{Belongs}
use Rattle.gx_model.specs.Forest.{Forest}
use Rattle.gx_model.specs.Item.{Item, atom, Items}
use Rattle.gx_model.proofs.PublicLaws.{growth_is_an_order}
use Rattle.gx_core.specs.declared.operator.Operator.TheVariants as operators
use Rattle.gx_core.specs.declared.signature.FunctionSignature.{FunctionSignature}
use Rattle.gx_core.specs.Bindings.{Types, look_up, position_numbers}
use Rattle.gx_core.specs.Evaluations.{evaluations_after, turn_evaluations}
use Rattle.gx_core.specs.Expression.{At, no_parts, a_part, annotation_of}
use Rattle.gx_core.specs.Meaning.{CallOutcomes, Context, Bindings, item_bound, meaning}
use Rattle.gx_core.specs.Outcome.{Outcome}
use Rattle.gx_core.specs.Soundness.{Setting, context_of, Keeps, IsBoundTo, Fits}
use Rattle.gx_core.proofs.KeptFacts.{bindings_fit_still, binding_fits}
use Rattle.gx_core.proofs.SoundQueries.{keeps_its_type}
use Rattle.gx_static.specs.Rule.{atomic}
use Rattle.gx_static.proofs.Singles.{one_atom_belongs}
use Rattle.gx_plan.specs.Plan.{PlanExpression, kind_carried, typed_expression}
use Rattle.gx_plan.specs.Fitting.{FitsAt}
use Rattle.gx_rules.specs.Guards.{is_own_role}
use Rattle.gx_rules.specs.Rules.{occurs_once, first_position, with_position, made_let, plain_binder, Single}
use Rattle.gx_rule_laws.specs.QuietValues.{with_carried, carried_types, plan_setting}
use Rattle.gx_rule_laws.specs.KeepingSoundness.{StandsInPlan, RuleHandsOn}
use Rattle.gx_rule_laws.proofs.GuardLemmas.{met}
use Rattle.gx_rule_laws.proofs.LetsStand.{ValueFits, let_stands}
use Rattle.gx_rule_laws.proofs.Reordering.{SameTypes, sound_so, bound_so}
use Rattle.gx_rule_laws.proofs.Rewriting.{none_typed_behind}
use Rattle.gx_rule_laws.proofs.SingleItems.{one_item_where}
use Rattle.gx_rule_laws.proofs.SoundParts.{kind_of}

-- the literal 1
one_belongs : (s : SchemaSet) (forest : Forest) → Belongs s forest (atom (integer_atom (pos 1)) ∷ []) (atomic Integer)
one_belongs s forest = one_atom_belongs s forest (names.Builtin Integer) (integer_atom (pos 1)) (0, refl) (0, refl)

-- the item and its position may be bound in either order
pub swapped : (m n : ℕ) → m ≢ n → (a b : Option SequenceType) (types : Types)
    → SameTypes (with_carried m a (with_carried n b []) ++ types) (with_carried n b [] ++ (with_carried m a [] ++ types))
swapped m n differ None None types number = refl
swapped m n differ None (Some u) types number = refl
swapped m n differ (Some t) None types number = refl
swapped m n differ (Some t) (Some u) types number = by_tests (nat_eq m number) refl (nat_eq n number) refl
  where
    by_tests : (c : Bool) → nat_eq m number ≡ c → (d : Bool) → nat_eq n number ≡ d
        → (if c then Some t else (if d then Some u else look_up types number)) ≡ (if d then Some u else (if c then Some t else look_up types number))
    by_tests true e true f = absurd (differ (eqb-true m number e ∙ sym (eqb-true n number f)))
    by_tests true e false f = refl
    by_tests false e true f = refl
    by_tests false e false f = refl

-- without the position
without_position : (s : SchemaSet) (forest : Forest) (m n : ℕ) → m ≢ n → (a b : Option SequenceType) (types : Types) (bindings : Bindings) (xs ys : Items)
    → Fits s forest types bindings → Fits s forest (with_carried m a (with_carried n b []) ++ types) ((m, xs) ∷ (n, ys) ∷ bindings)
    → Fits s forest (with_carried m a [] ++ types) ((m, xs) ∷ bindings)
without_position s forest m n differ a b types bindings xs ys outer fits number t e = by_tests (nat_eq n number) refl (nat_eq m number) refl
  where
    outside : (a : Option SequenceType) → nat_eq m number ≡ false → look_up (with_carried m a [] ++ types) number ≡ Some t → look_up types number ≡ Some t
    outside None f g = g
    outside (Some u) f g = sym (ap (λ (same : Bool). if same then Some u else look_up types number) f) ∙ g

    inside : (a b : Option SequenceType) → nat_eq n number ≡ false → look_up (with_carried m a [] ++ types) number ≡ Some t
        → look_up (with_carried m a (with_carried n b []) ++ types) number ≡ Some t
    inside None None f g = g
    inside (Some u) None f g = g
    inside None (Some v) f g = ap (λ (same : Bool). if same then Some v else look_up types number) f ∙ g
    inside (Some u) (Some v) f g =
        ap (λ (found : Option SequenceType). if nat_eq m number then Some u else found) (ap (λ (same : Bool). if same then Some v else look_up types number) f) ∙ g

    by_tests : (c : Bool) → nat_eq n number ≡ c → (d : Bool) → nat_eq m number ≡ d → IsBoundTo s forest ((m, xs) ∷ bindings) number t
    by_tests true f true g = absurd (differ (eqb-true m number g ∙ sym (eqb-true n number f)))
    by_tests true f false g =
        let bound = outer number t (outside a g e) in record {
          value = bound.value;
          bound = ap (λ (same : Bool). if same then Some xs else look_up bindings number) g ∙ bound.bound;
          belongs = bound.belongs;
        }
    by_tests false f d g =
        let bound = fits number t (inside a b f e) in record {
          value = bound.value;
          bound = ap (λ (found : Option Items). if nat_eq m number then Some xs else found)
              (sym (ap (λ (same : Bool). if same then Some ys else look_up bindings number) f)) ∙ bound.bound;
          belongs = bound.belongs;
        }

carried_so : (number : ℕ) (found : Option SequenceType) (t : SequenceType) (others : Types) → found ≡ Some t → with_carried number found others ≡ (number, t) ∷ others
carried_so number None t others e = absurd (cc)
carried_so number (Some u) t others e = let same : u ≡ t = cc in ap (λ (v : SequenceType). (number, v) ∷ others) same

module _ (s : SchemaSet) (variables : Types) (known : List FunctionSignature) (calls : CallOutcomes) where
  abbrev setting : Setting
  setting = plan_setting s variables known calls

  abbrev context : Context
  context = context_of setting

  -- the value of a position has its type
  position_fits : (place : Place) (number : ℕ) (types : Types) → look_up variables number ≡ Some (atomic Integer)
      → ValueFits s variables known calls (plain_binder number place) (first_position place) types
  position_fits place number types carried situation xs left given =
      let value : atom (integer_atom (pos 1)) ∷ [] ≡ xs = cc in
      let there : situation.forest ≡ left = cc in
      subst (λ (us : Types). Fits s left (us ++ types) ((number, xs) ∷ situation.bindings))
      (sym (carried_so number (look_up variables number) (atomic Integer) [] carried))
      (subst (λ (ys : Items). Fits s left ((number, atomic Integer) ∷ types) ((number, ys) ∷ situation.bindings)) value
      (subst (λ (f : Forest). Fits s f ((number, atomic Integer) ∷ types) ((number, atom (integer_atom (pos 1)) ∷ []) ∷ situation.bindings)) there
      (binding_fits setting (plain_binder number place) (atomic Integer) (atom (integer_atom (pos 1)) ∷ []) types situation.bindings situation.forest situation.fits
      (one_belongs s situation.forest))))

  -- the body, with the position of the one item
  body_stands : (place : Place) (variable position : ℕ) (body : PlanExpression) (types : Types) → position ≢ variable
      → (position ≢ 0 → look_up variables position ≡ Some (atomic Integer)) → look_up types 0 ≡ None
      → StandsInPlan s variables known calls body (carried_types variables (variable ∷ position_numbers position) ++ types)
      → StandsInPlan s variables known calls (with_position s place position body) (carried_types variables (variable ∷ []) ++ types)
  body_stands place variable zero body types differ counts none h = h
  body_stands place variable (suc n) body types differ counts none h =
      let inner : Types = carried_types variables (variable ∷ []) ++ types in
      let inner_none : look_up inner 0 ≡ None = none_typed_behind variables (variable ∷ []) types h.none_carries none in
      let body_inside : StandsInPlan s variables known calls body (carried_types variables (suc n ∷ []) ++ inner) = record {
        stands = record {
          schemas = h.stands.schemas;
          regular = h.stands.regular;
          sound = sound_so setting (typed_expression body) (carried_types variables (variable ∷ suc n ∷ []) ++ types) (carried_types variables (suc n ∷ []) ++ inner) same h.stands.sound;
          well_bound = bound_so setting (typed_expression body) (carried_types variables (variable ∷ suc n ∷ []) ++ types) (carried_types variables (suc n ∷ []) ++ inner) same h.stands.well_bound;
        };
        positions = h.positions;
        none_carries = h.none_carries;
        none_typed = none_typed_behind variables (suc n ∷ []) inner h.none_carries inner_none;
      } in
      let here : StandsInPlan s variables known calls (first_position place) inner = record {
        stands = record {
          schemas = h.stands.schemas;
          regular = (tt, tt);
          sound = ((λ situation. record { grown = growth_is_an_order.reflexive situation.forest; honest = situation.honest; fact = one_belongs s situation.forest }), tt);
          well_bound = ((λ situation. tt), tt);
        };
        positions = (tt, tt);
        none_carries = h.none_carries;
        none_typed = inner_none;
      } in
      let_stands s variables known calls place (plain_binder (suc n) place) (first_position place) body inner here body_inside
      (position_fits place (suc n) inner (counts (λ e. no_zero e)))
    where
      no_zero : suc n ≡ 0 → ⊥
      no_zero e = cc

      same : SameTypes (carried_types variables (variable ∷ suc n ∷ []) ++ types) (carried_types variables (suc n ∷ []) ++ (carried_types variables (variable ∷ []) ++ types))
      same = swapped variable (suc n) (λ e. differ (sym e)) (look_up variables variable) (look_up variables (suc n)) types

  -- what the loop binds for its one item, without the position
  item_fits_let : (variable position number : ℕ) (x : Item) (types : Types) (bindings : Bindings) (forest : Forest) → position ≢ variable → Fits s forest types bindings
      → Fits s forest (carried_types variables (variable ∷ position_numbers position) ++ types) (item_bound variable position number x ++ bindings)
      → Fits s forest (carried_types variables (variable ∷ []) ++ types) ((variable, x ∷ []) ∷ bindings)
  item_fits_let variable zero number x types bindings forest differ outer fits = fits
  item_fits_let variable (suc n) number x types bindings forest differ outer fits =
      without_position s forest variable (suc n) (λ e. differ (sym e)) (look_up variables variable) (look_up variables (suc n)) types bindings (x ∷ [])
      (atom (integer_atom (pos number)) ∷ []) outer fits

pub single_hands_on : RuleHandsOn Single
single_hands_on s variables known calls (At place outer carried (operators.For binder position) (a_part source (a_part body no_parts))) other types stands h =
    let guard = met (is_own_role carried.role && occurs_once (kind_carried source)) (made_let s place binder source (with_position s place position body)) other h in
    let once : occurs_once (kind_carried source) ≡ true = (and_parts (is_own_role carried.role) (occurs_once (kind_carried source)) guard.0).1 in
    subst (λ (d : PlanExpression). StandsInPlan s variables known calls d types) guard.1
    (let_stands s variables known calls place binder source (with_position s place position body) types
    (record {
      stands = record { schemas = stands.stands.schemas; regular = stands.stands.regular.1.0; sound = stands.stands.sound.1.0; well_bound = stands.stands.well_bound.1.0 };
      positions = stands.positions.1.0;
      none_carries = stands.none_carries;
      none_typed = stands.none_typed;
    })
    (body_stands s variables known calls place binder.variable position body types stands.stands.regular.0 stands.positions.0 stands.none_typed (record {
      stands = record { schemas = stands.stands.schemas; regular = stands.stands.regular.1.1.0; sound = stands.stands.sound.1.1.0; well_bound = stands.stands.well_bound.1.1.0 };
      positions = stands.positions.1.1.0;
      none_carries = stands.none_carries;
      none_typed = none_typed_behind variables (binder.variable ∷ position_numbers position) types stands.none_carries stands.none_typed;
    }))
    (λ situation xs left given.
    let setting : Setting = plan_setting s variables known calls in
    let d = meaning (context_of setting) (typed_expression body) in
    let ts : List SequenceType = annotation_of (typed_expression source) ∷ annotation_of (typed_expression body) ∷ [] in
    let all = subst (λ (o : Outcome Items). AllByRecursion (FitsAt setting (operators.For binder position) ts types situation.forest)
    (evaluations_after o (λ ys now. turn_evaluations 1 (λ number x. item_bound binder.variable position number x ++ situation.bindings) d 1 ys now))) given
    (stands.stands.well_bound.0 situation).1 in
    let keeps = subst (λ (o : Outcome Items). Keeps setting situation.forest (annotation_of (typed_expression source)) o) given
    (keeps_its_type setting (typed_expression source) types stands.stands.sound.1.0 situation) in
    let one = one_item_where s left (annotation_of (typed_expression source)) xs (ap occurs_once (kind_of source) ∙ once) keeps.fact in
    let first = subst (λ (ys : Items). AllByRecursion (FitsAt setting (operators.For binder position) ts types situation.forest)
    (turn_evaluations 1 (λ number x. item_bound binder.variable position number x ++ situation.bindings) d 1 ys left)) one.is all in
    subst (λ (ys : Items). Fits s left (carried_types variables (binder.variable ∷ []) ++ types) ((binder.variable, ys) ∷ situation.bindings)) (sym one.is)
    (item_fits_let s variables known calls binder.variable position 1 one.item types situation.bindings left stands.stands.regular.0
    (bindings_fit_still setting types situation.bindings situation.forest left keeps.grown situation.fits) first.0.fits)))
single_hands_on s variables known calls _ other types stands h = absurd (cc)
