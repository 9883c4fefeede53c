-- The loops of a fair join come to what the hash join of their parts comes to.
use Rattle.std.proofs.Common.{◌≡◌, ◌≢◌, inl, inr, ℕ, Bool, true, false, Option, Some, List, [], ◌∷◌, ◌++◌, nat_eq, refl, sym, ap, subst, ◌∙◌, if◌then◌else◌}
use Rattle.std.specs.List.{All, list_all}
use Rattle.std.proofs.lemmas.Bool.{eqb-true}
use Rattle.std.proofs.lemmas.List.Elements.{All-head, All-weaker}
use Rattle.gx_facets.specs.declared.Atomic.{Atomic}
use Rattle.gx_facets.specs.declared.AtomValue.{AtomValue}
use Rattle.gx_facets.specs.Value.{same_family}
use Rattle.gx_types.specs.SchemaSet.{SchemaSet}
use Rattle.gx_types.specs.SequenceType.{SequenceType}
use Rattle.gx_atomic.specs.Comparison.{pairs_of}
use Rattle.gx_model.specs.Forest.{Forest}
use Rattle.gx_model.specs.Honest.{IsHonest}
use Rattle.gx_model.specs.Belongs.{Belongs}
use Rattle.gx_model.specs.Item.{Item, Items, atoms}
use Rattle.gx_model.proofs.PublicLaws.{growth_is_an_order}
use Rattle.gx_core.specs.declared.expression.Binder.{Binder}
use Rattle.gx_core.specs.declared.signature.FunctionSignature.{FunctionSignature}
use Rattle.gx_core.specs.Bindings.{look_up, Types}
use Rattle.gx_core.specs.Expression.{annotation_of}
use Rattle.gx_core.specs.Outcome.{Outcome, gives, raises, wrong}
use Rattle.gx_core.specs.Meaning.{CallOutcomes, Context, Bindings, Denotation, meaning}
use Rattle.gx_core.specs.Soundness.{Setting, context_of, Keeps, Fits, Situation, IsSound}
use Rattle.gx_core.proofs.KeptFacts.{bindings_fit_still, binding_fits, calls_keep_still, later}
use Rattle.gx_core.proofs.SoundQueries.{keeps_its_type}
use Rattle.gx_plan.specs.Plan.{PlanExpression, typed_expression}
use Rattle.gx_plan.specs.SameMeaning.{ComesToTheSame}
use Rattle.gx_rules.specs.Guards.{is_named_in}
use Rattle.gx_rule_laws.specs.QuietValues.{with_carried, carried_types, plan_setting, HasValueInPlace}
use Rattle.gx_rule_laws.specs.ApartJoins.{IsApart}
use Rattle.gx_rule_laws.specs.FairJoins.{is_number_value, is_text_value, is_atom_so, ValuesPass, IsKeyOf, AreFairKeys}
use Rattle.gx_joins.specs.HashJoin.{JoinParts, right_key_at, hash_join}
use Rattle.gx_joins.specs.Pairs.{HasGrown, loops_of, StaysAt, IsSteadyForItem, IsSteadyForPair, IsSteadyJoin}
use Rattle.gx_joins.specs.JoinedMeaning.{joined_meaning}
use Rattle.gx_joins.proofs.Pairs.{loops_are_hash_joins}
use Rattle.gx_join_laws.specs.LoopItems.{EachBelongs, TakesItems}
use Rattle.gx_join_laws.proofs.KeyValues.{atoms_in, atoms_given, atoms_back, are_atoms, atoms_pass, PassTogether, numbers_together, texts_together, one_family}
use Rattle.gx_join_laws.proofs.StayingValues.{HasOneValue, has_one_value}

-- ---- bindings that an expression does not look at

-- the variable that a binding binds is not named
past : (e : PlanExpression) (variable number : ℕ) (one other : Option Items) → is_named_in e variable ≡ false → is_named_in e number ≡ true
    → (if nat_eq variable number then one else other) ≡ other
past e variable number one other apart named = by_test (nat_eq variable number) refl
  where
    by_test : (same : Bool) → nat_eq variable number ≡ same → (if same then one else other) ≡ other
    by_test true f = let also : is_named_in e number ≡ false = subst (λ (n : ℕ). is_named_in e n ≡ false) (eqb-true variable number f) apart in absurd (cc)
    by_test false f = refl

first_of : (P : Item → Type 0) (ys : Items) → ys ≢ [] → All P ys → (y : Item) × P y
first_of P [] some all = absurd (some refl)
first_of P (y ∷ ys) some all = (y, All-head P y ys all)

module _ (s : SchemaSet) (variables : Types) (known : List FunctionSignature) (calls : CallOutcomes) where
  abbrev setting : Setting
  setting = plan_setting s variables known calls

  abbrev context : Context
  context = context_of setting

  -- the types of the variables inside a loop
  abbrev pub inside : Binder → Types → Types
  inside binder types = carried_types variables (binder.variable ∷ []) ++ types

  -- the situation of what stands in a loop, for an item, in a forest that has grown
  abbrev at_item : (binder : Binder) (t : SequenceType) → look_up variables binder.variable ≡ Some t → (types : Types) (situation : Situation setting types) (now : Forest)
      → HasGrown s situation.forest now → (x : Item) → Belongs s now (x ∷ []) t → Situation setting (inside binder types)
  at_item binder t carried types situation now grown x belongs = record {
    bindings = (binder.variable, x ∷ []) ∷ situation.bindings;
    forest = now;
    honest = grown.honest;
    fits = subst (λ (o : Option SequenceType). Fits s now (with_carried binder.variable o [] ++ types) ((binder.variable, x ∷ []) ∷ situation.bindings)) (sym carried)
        (binding_fits setting binder t (x ∷ []) types situation.bindings now
        (bindings_fit_still setting types situation.bindings situation.forest now grown.grown situation.fits) belongs);
    calls_keep = calls_keep_still setting situation.forest now grown.grown situation.calls_keep;
  }

  -- what is known of the parts of a join
  pub record IsFairJoin (outer inner : Binder) (source other left right result : PlanExpression) (types : Types) : Type 0 where
    pub source_sound : IsSound setting (typed_expression source) types
    pub source_same : ComesToTheSame setting (joined_meaning context source) (typed_expression source) types
    pub source_items : TakesItems setting variables outer source types
    pub other_same : ComesToTheSame setting (joined_meaning context other) (typed_expression other) (inside outer types)
    pub other_value : HasValueInPlace setting other (inside outer types)
    pub other_items : TakesItems setting variables inner other (inside outer types)
    pub left_same : ComesToTheSame setting (joined_meaning context left) (typed_expression left) (inside inner (inside outer types))
    pub right_same : ComesToTheSame setting (joined_meaning context right) (typed_expression right) (inside inner (inside outer types))
    pub keys : AreFairKeys setting left right (inside inner (inside outer types))
    pub result_same : ComesToTheSame setting (joined_meaning context result) (typed_expression result) (inside inner (inside outer types))
    pub result_sound : IsSound setting (typed_expression result) (inside inner (inside outer types))
    pub apart : IsApart outer.variable inner.variable other left right

  abbrev pub joined_parts : (outer inner : Binder) → (source other left right result : PlanExpression) → JoinParts Denotation
  joined_parts outer inner source other left right result = record {
    left = outer.variable;
    right = inner.variable;
    source = joined_meaning context source;
    other = joined_meaning context other;
    left_key = joined_meaning context left;
    right_key = joined_meaning context right;
    result = joined_meaning context result;
  }

  -- ---- keys

  -- a key has these values in all forests that have grown from this one, under all bindings that are the same for the variables that it names
  record HasKeys (e : PlanExpression) (bindings : Bindings) (now : Forest) : Type 0 where
    value : List Atomic
    same : (others : Bindings) → ((number : ℕ) → is_named_in e number ≡ true → look_up bindings number ≡ look_up others number)
        → (forest : Forest) → HasGrown s now forest → joined_meaning context e others forest ≡ gives (atoms value) forest

  record HasKeysOf (test : AtomValue → Bool) (e : PlanExpression) (bindings : Bindings) (now : Forest) : Type 0 where
    keys : HasKeys e bindings now
    pass : All (λ a. test a.value ≡ true) keys.value

  not_grown : (forest : Forest) → IsHonest s forest → HasGrown s forest forest
  not_grown forest honest = record { grown = growth_is_an_order.reflexive forest; honest = honest }

  keys_of : (test : AtomValue → Bool) (e : PlanExpression) (types : Types) → ComesToTheSame setting (joined_meaning context e) (typed_expression e) types
      → IsKeyOf test setting e types → (situation : Situation setting types) → HasOneValue s context e situation.bindings situation.forest
      → HasKeysOf test e situation.bindings situation.forest
  keys_of test e types same is_key situation one =
      let now : Forest = situation.forest in
      let is : meaning context (typed_expression e) situation.bindings now ≡ gives one.value now =
      sym (same situation) ∙ one.same situation.bindings (λ number named. refl) now (not_grown now situation.honest) in
      let passes : list_all (is_atom_so test) one.value ≡ true = subst (ValuesPass test) is (is_key situation) in
      record {
        keys = record {
          value = atoms_in one.value;
          same = λ others agree forest grown.
              one.same others agree forest grown ∙ ap (λ (xs : Items). gives xs forest) (are_atoms test one.value passes);
        };
        pass = atoms_pass test one.value passes;
      }

  -- the keys of a pair
  record HasPair (left right : PlanExpression) (bindings : Bindings) (now : Forest) : Type 0 where
    left_keys : HasKeys left bindings now
    right_keys : HasKeys right bindings now
    family : All (λ pair. same_family pair.0.value pair.1.value ≡ true) (pairs_of left_keys.value right_keys.value)

  pair_of : (test : AtomValue → Bool) → PassTogether test → (left right : PlanExpression) (bindings : Bindings) (now : Forest)
      → HasKeysOf test left bindings now → HasKeysOf test right bindings now → HasPair left right bindings now
  pair_of test together left right bindings now l r =
      record { left_keys = l.keys; right_keys = r.keys; family = one_family test together l.keys.value r.keys.value l.pass r.pass }

  -- ---- the join

  module _ (outer inner : Binder) (source other left right result : PlanExpression) (types : Types)
      (fair : IsFairJoin outer inner source other left right result types) (situation : Situation setting types) (now : Forest)
      (grown : HasGrown s situation.forest now) where
    abbrev first : Types
    first = inside outer types

    abbrev second : Types
    second = inside inner (inside outer types)

    abbrev bindings : Bindings
    bindings = situation.bindings

    abbrev join : JoinParts Denotation
    join = joined_parts outer inner source other left right result

    abbrev IsLeft : Item → Type 0
    IsLeft x = Belongs s now (x ∷ []) fair.source_items.t

    abbrev IsRight : Item → Type 0
    IsRight y = Belongs s now (y ∷ []) fair.other_items.t

    abbrev left_bound : Item → Bindings
    left_bound x = (outer.variable, x ∷ []) ∷ bindings

    abbrev both_bound : Item → Item → Bindings
    both_bound x y = (inner.variable, y ∷ []) ∷ (outer.variable, x ∷ []) ∷ bindings

    abbrev at_left : (x : Item) → IsLeft x → Situation setting first
    at_left x belongs = at_item outer fair.source_items.t fair.source_items.carried types situation now grown x belongs

    abbrev at_both : (x y : Item) → IsLeft x → IsRight y → Situation setting second
    at_both x y belongs also =
        at_item inner fair.other_items.t fair.other_items.carried first
        (at_left x belongs) now (not_grown now grown.honest) y also

    -- the right source
    other_value : (x : Item) → IsLeft x → HasOneValue s context other (left_bound x) now
    other_value x belongs =
        has_one_value setting other first fair.other_same fair.other_value fair.apart.source_makes_nothing
        (at_left x belongs)

    right_belong : (x : Item) (belongs : IsLeft x) → All IsRight (other_value x belongs).value
    right_belong x belongs =
        let here : Situation setting first = at_left x belongs in
        let one : HasOneValue s context other (left_bound x) now = other_value x belongs in
        let is : meaning context (typed_expression other) (left_bound x) now ≡ gives one.value now =
        sym (fair.other_same here) ∙ one.same (left_bound x) (λ number named. refl) now (not_grown now grown.honest) in
        subst (EachBelongs s fair.other_items.t) is (fair.other_items.items here)

    -- the keys
    pair : (x y : Item) → IsLeft x → IsRight y → HasPair left right (both_bound x y) now
    pair x y belongs also =
        let here : Situation setting second = at_both x y belongs also in
        let l : HasOneValue s context left (both_bound x y) now =
        has_one_value setting left second fair.left_same fair.keys.left_value fair.apart.left_key_makes_nothing here in
        let r : HasOneValue s context right (both_bound x y) now =
        has_one_value setting right second fair.right_same fair.keys.right_value fair.apart.right_key_makes_nothing here in
        elim fair.keys.family [
          | inl both ↦ pair_of is_number_value numbers_together left right (both_bound x y) now
              (keys_of is_number_value left second fair.left_same both.0 here l) (keys_of is_number_value right second fair.right_same both.1 here r)
          | inr both ↦ pair_of is_text_value texts_together left right (both_bound x y) now
              (keys_of is_text_value left second fair.left_same both.0 here l) (keys_of is_text_value right second fair.right_same both.1 here r)
        ]

    abbrev left_values : Item → List Atomic
    left_values x = atoms_given (joined_meaning context left (left_bound x) now)

    abbrev right_values : Item → List Atomic
    right_values y = atoms_given (joined_meaning context right ((inner.variable, y ∷ []) ∷ bindings) now)

    -- what keys do not look at
    without_inner : (x y : Item) (number : ℕ) → is_named_in left number ≡ true → look_up (both_bound x y) number ≡ look_up (left_bound x) number
    without_inner x y number named =
        past left inner.variable number (Some (y ∷ [])) (look_up (left_bound x) number) fair.apart.left_key_without_right named

    without_outer : (x y : Item) (number : ℕ) → is_named_in right number ≡ true
        → look_up (both_bound x y) number ≡ look_up ((inner.variable, y ∷ []) ∷ bindings) number
    without_outer x y number named =
        ap (λ (o : Option Items). if nat_eq inner.variable number then Some (y ∷ []) else o)
        (past right outer.variable number (Some (x ∷ [])) (look_up bindings number) fair.apart.right_key_without_left named)

    source_without : (x : Item) (number : ℕ) → is_named_in other number ≡ true → look_up (left_bound x) number ≡ look_up bindings number
    source_without x number named = past other outer.variable number (Some (x ∷ [])) (look_up bindings number) fair.apart.source_without_left named

    here_now : HasGrown s now now
    here_now = not_grown now grown.honest

    left_values_are : (x y : Item) (belongs : IsLeft x) (also : IsRight y) → left_values x ≡ (pair x y belongs also).left_keys.value
    left_values_are x y belongs also =
        ap atoms_given ((pair x y belongs also).left_keys.same (left_bound x) (without_inner x y) now here_now)
        ∙ atoms_back (pair x y belongs also).left_keys.value

    right_values_are : (x y : Item) (belongs : IsLeft x) (also : IsRight y) → right_values y ≡ (pair x y belongs also).right_keys.value
    right_values_are x y belongs also =
        ap atoms_given ((pair x y belongs also).right_keys.same ((inner.variable, y ∷ []) ∷ bindings) (without_outer x y) now here_now)
        ∙ atoms_back (pair x y belongs also).right_keys.value

    left_stays : (x y : Item) → IsLeft x → IsRight y → (others : Bindings)
        → ((number : ℕ) → is_named_in left number ≡ true → look_up (both_bound x y) number ≡ look_up others number)
        → StaysAt s join.left_key others now (atoms (left_values x))
    left_stays x y belongs also others agree forest more =
        (pair x y belongs also).left_keys.same others agree forest more
        ∙ ap (λ (values : List Atomic). gives (atoms values) forest) (sym (left_values_are x y belongs also))

    right_stays : (x y : Item) → IsLeft x → IsRight y → (others : Bindings)
        → ((number : ℕ) → is_named_in right number ≡ true → look_up (both_bound x y) number ≡ look_up others number)
        → StaysAt s join.right_key others now (atoms (right_values y))
    right_stays x y belongs also others agree forest more =
        (pair x y belongs also).right_keys.same others agree forest more
        ∙ ap (λ (values : List Atomic). gives (atoms values) forest) (sym (right_values_are x y belongs also))

    result_grows : (x y : Item) → IsLeft x → IsRight y → (before after : Forest) (value : Items) → HasGrown s now before
        → joined_meaning context result (both_bound x y) before ≡ gives value after → HasGrown s before after
    result_grows x y belongs also before after value more e =
        let there : Situation setting second = at_both x y belongs also in
        let late : Situation setting second = later setting second there before more.grown more.honest in
        let t : SequenceType = annotation_of (typed_expression result) in
        let k : Keeps setting before t (gives value after) =
        subst (λ (o : Outcome Items). Keeps setting before t o) (sym (fair.result_same late) ∙ e)
        (keeps_its_type setting (typed_expression result) second fair.result_sound late) in
        record { grown = k.grown; honest = k.honest }

    steady_pair : (x y : Item) → IsLeft x → IsRight y → IsSteadyForPair s join bindings now (left_values x) (right_values y) x y
    steady_pair x y belongs also = record {
      left_key = left_stays x y belongs also (both_bound x y) (λ number named. refl);
      right_key = right_stays x y belongs also (both_bound x y) (λ number named. refl);
      one_family = subst (λ (values : List Atomic). All (λ both. same_family both.0.value both.1.value ≡ true) (pairs_of values (right_values y)))
          (sym (left_values_are x y belongs also))
          (subst (λ (values : List Atomic). All (λ both. same_family both.0.value both.1.value ≡ true) (pairs_of (pair x y belongs also).left_keys.value values))
          (sym (right_values_are x y belongs also)) (pair x y belongs also).family);
      grows = result_grows x y belongs also;
    }

    steady_item : (z : Item) (there : IsLeft z) (x : Item) → IsLeft x → IsSteadyForItem s join bindings now (other_value z there).value (left_values x) x
    steady_item z there x belongs = record {
      other = λ forest more.
          (other_value z there).same (left_bound x) (λ number named. source_without z number named ∙ sym (source_without x number named)) forest more;
      left_key = λ some forest more.
          let y : (y : Item) × IsRight y = first_of IsRight (other_value z there).value some (right_belong z there) in
          left_stays x y.0 belongs y.1 (left_bound x) (without_inner x y.0) forest more;
    }

    steady : (xs : Items) → xs ≢ [] → All IsLeft xs → IsSteadyJoin s join bindings xs now
    steady [] some all = absurd (some refl)
    steady (x ∷ xs) some all =
        let belongs : IsLeft x = All-head IsLeft x xs all in
        let rights : All IsRight (other_value x belongs).value = right_belong x belongs in
        record {
          honest = grown.honest;
          right = (other_value x belongs).value;
          left_values = left_values;
          right_values = right_values;
          other = (other_value x belongs).same bindings (source_without x) now here_now;
          right_key = All-weaker IsRight (λ y. right_key_at join bindings y now ≡ gives (atoms (right_values y)) now)
              (λ y also. right_stays x y belongs also ((inner.variable, y ∷ []) ∷ bindings) (without_outer x y) now here_now) (other_value x belongs).value rights;
          items = All-weaker IsLeft (λ z. IsSteadyForItem s join bindings now (other_value x belongs).value (left_values z) z)
              (λ z there. steady_item x belongs z there) (x ∷ xs) all;
          pairs = All-weaker IsLeft (λ z. All (λ y. IsSteadyForPair s join bindings now (left_values z) (right_values y) z y) (other_value x belongs).value)
              (λ z there. All-weaker IsRight (λ y. IsSteadyForPair s join bindings now (left_values z) (right_values y) z y)
              (λ y also. steady_pair z y there also) (other_value x belongs).value rights) (x ∷ xs) all;
        }

  -- ---- the law

  pub join_is_its_loops : (outer inner : Binder) (source other left right result : PlanExpression) (types : Types)
      → IsFairJoin outer inner source other left right result types → (situation : Situation setting types)
      → hash_join (joined_parts outer inner source other left right result) situation.bindings situation.forest
      ≡ loops_of context (joined_parts outer inner source other left right result) outer inner situation.bindings situation.forest
  join_is_its_loops outer inner source other left right result types fair situation =
      by_source (joined_meaning context source situation.bindings situation.forest) refl
    where
      by_source : (o : Outcome Items) → joined_meaning context source situation.bindings situation.forest ≡ o
          → hash_join (joined_parts outer inner source other left right result) situation.bindings situation.forest
          ≡ loops_of context (joined_parts outer inner source other left right result) outer inner situation.bindings situation.forest
      by_source (gives xs now) e =
          let t : SequenceType = annotation_of (typed_expression source) in
          let is : meaning context (typed_expression source) situation.bindings situation.forest ≡ gives xs now = sym (fair.source_same situation) ∙ e in
          let k : Keeps setting situation.forest t (gives xs now) =
          subst (λ (o : Outcome Items). Keeps setting situation.forest t o) is (keeps_its_type setting (typed_expression source) types fair.source_sound situation) in
          let belong : EachBelongs s fair.source_items.t (gives xs now) = subst (EachBelongs s fair.source_items.t) is (fair.source_items.items situation) in
          sym (loops_are_hash_joins.steady context (joined_parts outer inner source other left right result) outer inner situation.bindings situation.forest xs now refl refl e
          (λ some. steady outer inner source other left right result types fair situation now (record { grown = k.grown; honest = k.honest }) xs some belong))
      by_source (raises code) e =
          let both = loops_are_hash_joins.raised context (joined_parts outer inner source other left right result) outer inner situation.bindings situation.forest code e in
          both.1 ∙ sym both.0
      by_source wrong e =
          let both = loops_are_hash_joins.failed context (joined_parts outer inner source other left right result) outer inner situation.bindings situation.forest e in
          both.1 ∙ sym both.0
