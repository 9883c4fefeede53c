-- Targets that are kept stay those of their keys.
use Rattle.std.proofs.Common.{◌≡◌, ℕ, zero, suc, ◌<◌, Bool, true, false, ◌&&◌, cond, List, [], ◌∷◌, ◌++◌, Option, None, Some, refl, sym, ◌∙◌, ap, subst, length, slice_get, nat_eq, if◌then◌else◌}
use Rattle.std.specs.Prelude.{IfSome}
use Rattle.std.specs.Cmp.{booleans_Decides}
use Rattle.std.specs.Cmp.Lexicographic.{pointwise}
use Rattle.std.specs.List.{list_any}
use Rattle.std.proofs.Math.Bool.{beq}
use Rattle.std.proofs.lemmas.Bool.{and_parts, eqb-true, false≢true}
use Rattle.std.proofs.lemmas.Option.{slice_get_within}
use Rattle.std.proofs.lemmas.Slice.Eq.{slice_eq-Decides}
use Rattle.indexmap.specs.IndexMap.{IndexMap, get}
use Rattle.indexmap.specs.IndexSet.{insert_key}
use Rattle.gx_base.specs.Name.{same_name}
use Rattle.gx_base.specs.declared.name.Name.{Name}
use Rattle.gx_base.specs.declared.type_name.TypeName.{TypeName}
use Rattle.gx_types.specs.declared.item_type.ItemType.{ItemType}
use Rattle.gx_types.specs.declared.item_type.ItemType.TheVariants as items
use Rattle.gx_types.specs.declared.shape.Shape.{Shape}
use Rattle.gx_types.specs.declared.shape.Shape.TheVariants as shapes
use Rattle.gx_types.specs.Derivation.{is_derived}
use Rattle.gx_types.specs.ItemTakes.{name_fits}
use Rattle.gx_types.specs.SchemaSet.{SchemaSet}
use Rattle.gx_types.specs.SequenceType.{SequenceType}
use Rattle.gx_include_takes.specs.contracts.automaton.StatePartialEq.TheImpl as state_tests
use Rattle.gx_include_takes.specs.contracts.shape_key.ShapeKeyPartialEq.TheImpl as shape_keys
use Rattle.gx_include_takes.specs.declared.automaton.State.{State}
use Rattle.gx_include_takes.specs.declared.shape_key.ShapeKey.{ShapeKey}
use Rattle.gx_include_takes.specs.declared.shape_key.ShapeKey.TheVariants as keys
use Rattle.gx_include_takes.specs.declared.shape_key.StepKey.{StepKey}
use Rattle.gx_include_takes.specs.Automaton.{shape_keyed, shape_key, same_step, state_set, set_at, AreStates, KeepTheirNumbers, IsStep, IsAutomaton}
use Rattle.gx_types.specs.TypeIndex.{equal_kinds}
use Rattle.gx_include_positions.specs.Positions.{both_set}
use Rattle.gx_include_positions.specs.Step.{all_next, step_over, is_end}
use Rattle.gx_include_positions.specs.Test.{is_taken}
use Rattle.gx_include_positions.proofs.EqualTypes.{fits_alike, fits_given, derived_equally}
use Rattle.gx_include_takes.proofs.Targets.{get_there, tests_alike}

-- what `==` says of two keys of shapes
abbrev same_shape : ShapeKey → ShapeKey → Bool
same_shape = (shape_keys.ghosts).eq

-- what `==` says of two states
abbrev same_state : State → State → Bool
same_state = (state_tests.ghosts).eq

shape_of_key : (shape : Shape) → shape_keyed (shape_key shape) ≡ shape
shape_of_key (shapes.Elem name t) = refl
shape_of_key (shapes.Attr name t) = refl
shape_of_key shapes.Text = refl
shape_of_key (shapes.Doc None) = refl
shape_of_key (shapes.Doc (Some element)) = refl
shape_of_key (shapes.Atom t) = refl

-- equal keys are taken by the same item types

module _ (s : SchemaSet) where
  named_alike : (wanted : Option Name) (n m : Name) (t u kind : TypeName) → (same_name n m && equal_kinds t u) ≡ true
      → (name_fits wanted n && is_derived s t kind) ≡ (name_fits wanted m && is_derived s u kind)
  named_alike wanted n m t u kind e =
      let p = and_parts (same_name n m) (equal_kinds t u) e in
      let fits : name_fits wanted n ≡ name_fits wanted m = fits_given wanted n ∙ fits_alike wanted n m p.0 ∙ sym (fits_given wanted m) in
      ap (λ b. b && is_derived s t kind) fits ∙ ap (λ b. name_fits wanted m && b) (derived_equally s t u kind p.1)

  shapes_alike : (a b : ShapeKey) → same_shape a b ≡ true → (kind : ItemType) → is_taken s (shape_keyed a) kind ≡ is_taken s (shape_keyed b) kind
  shapes_alike (keys.Element n t) (keys.Element m u) e (items.Element wanted kind) = named_alike wanted n m t u kind e
  shapes_alike (keys.Element n t) (keys.Element m u) e _ = refl
  shapes_alike (keys.Attribute n t) (keys.Attribute m u) e (items.Attribute wanted kind) = named_alike wanted n m t u kind e
  shapes_alike (keys.Attribute n t) (keys.Attribute m u) e _ = refl
  shapes_alike keys.Text keys.Text e kind = refl
  shapes_alike keys.Document keys.Document e kind = refl
  shapes_alike (keys.DocumentOf n t) (keys.DocumentOf m u) e (items.Document (Some element)) = named_alike element.0 n m t u element.1 e
  shapes_alike (keys.DocumentOf n t) (keys.DocumentOf m u) e (items.Document None) = refl
  shapes_alike (keys.DocumentOf n t) (keys.DocumentOf m u) e _ = refl
  shapes_alike (keys.Atom t) (keys.Atom u) e (items.Atom kind) = derived_equally s t u kind e
  shapes_alike (keys.Atom t) (keys.Atom u) e _ = refl
  shapes_alike _ _ e kind = absurd (false≢true e)

  keys_alike : (r q : StepKey) → same_step r q ≡ true → (r.state ≡ q.state) × ((kind : ItemType) → is_taken s (shape_keyed r.shape) kind ≡ is_taken s (shape_keyed q.shape) kind)
  keys_alike r q e =
      let p = and_parts (nat_eq r.state q.state) (same_shape r.shape q.shape) e in (eqb-true r.state q.state p.0, shapes_alike r.shape q.shape p.1)

over_alike : (t : SequenceType) (one other : ItemType → Bool) (set : List Bool) → ((kind : ItemType) → one kind ≡ other kind) → step_over t one set ≡ step_over t other set
over_alike t one other set f = ap (λ ts. both_set (all_next t set) ts) (tests_alike t one other f)

-- a state that keeps its number keeps its set
pub set_stays : (states more : List State) → KeepTheirNumbers states more → (number : ℕ) → number < length states → (number < length more) × (set_at more number ≡ set_at states number)
set_stays states more alike number h =
    let q = get_there states number h in
    let there = alike number q.0 q.1 in
    (slice_get_within more number q.0 there, ap state_set (there ∙ sym q.1))

-- states that are put behind the others

pub equal_sets : (r q : State) → same_state r q ≡ true → q.set.items ≡ r.set.items
equal_sets r q e =
    let p = and_parts (pointwise beq r.set.items q.set.items) (beq r.ends q.ends) e in
    sym ((slice_eq-Decides booleans_Decides r.set.items q.set.items (pointwise beq r.set.items q.set.items) refl).0 p.0)

pushed_are : (t : SequenceType) (states : List State) (more : State) → more.ends ≡ is_end t more.set.items → AreStates t states → AreStates t (states ++ more ∷ [])
pushed_are t [] more e are zero state h = let same : more ≡ state = cc in subst (λ (x : State). x.ends ≡ is_end t x.set.items) same e
pushed_are t [] more e are (suc n) state h = absurd (cc)
pushed_are t (x ∷ xs) more e are zero state h = are zero state h
pushed_are t (x ∷ xs) more e are (suc n) state h = pushed_are t xs more e (λ m y g. are (suc m) y g) n state h

pushed_alike : (states : List State) (more : State) → KeepTheirNumbers states (states ++ more ∷ [])
pushed_alike [] more n state h = absurd (cc)
pushed_alike (x ∷ xs) more zero state h = h
pushed_alike (x ∷ xs) more (suc n) state h = pushed_alike xs more n state h

one_are : (t : SequenceType) (states : List State) (more : State) (b : Bool) → more.ends ≡ is_end t more.set.items → AreStates t states
    → AreStates t (if b then states else states ++ more ∷ [])
one_are t states more true e are = are
one_are t states more false e are = pushed_are t states more e are

one_alike : (states : List State) (more : State) (b : Bool) → KeepTheirNumbers states (if b then states else states ++ more ∷ [])
one_alike states more true n state h = h
one_alike states more false n state h = pushed_alike states more n state h

pub inserted_are : (t : SequenceType) (states : List State) (more : State) → more.ends ≡ is_end t more.set.items → AreStates t states → AreStates t (insert_key same_state states more)
inserted_are t states more e are = one_are t states more (list_any (same_state more) states) e are

pub inserted_alike : (states : List State) (more : State) → KeepTheirNumbers states (insert_key same_state states more)
inserted_alike states more = one_alike states more (list_any (same_state more) states)

module _ (s : SchemaSet) (t : SequenceType) where
  step_alike : (states : List State) (r q : StepKey) (target : ℕ) → same_step r q ≡ true → IsStep s t states r target → IsStep s t states q target
  step_alike states r q target e is =
      let p = keys_alike s r q e in
      record {
        origin_within = subst (λ n. n < length states) p.0 is.origin_within;
        target_within = is.target_within;
        set_is =
            is.set_is ∙ over_alike t (is_taken s (shape_keyed r.shape)) (is_taken s (shape_keyed q.shape)) (set_at states r.state) p.1
            ∙ ap (λ n. step_over t (is_taken s (shape_keyed q.shape)) (set_at states n)) p.0;
      }

  step_stays : (states more : List State) (key : StepKey) (target : ℕ) → KeepTheirNumbers states more → IsStep s t states key target → IsStep s t more key target
  step_stays states more key target alike is =
      let p = set_stays states more alike key.state is.origin_within in
      let q = set_stays states more alike target is.target_within in
      record {
        origin_within = p.0;
        target_within = q.0;
        set_is = q.1 ∙ is.set_is ∙ ap (λ set. step_over t (is_taken s (shape_keyed key.shape)) set) (sym p.1);
      }

  -- the step from a state to the one behind it
  pub added_step : (states more : List State) (key : StepKey) (target : ℕ) (shape : Shape) (state : State) (set found : List Bool) → KeepTheirNumbers states more
      → slice_get states key.state ≡ Some state → set ≡ state.set.items → shape_keyed key.shape ≡ shape → found ≡ step_over t (is_taken s shape) set
      → target < length more → set_at more target ≡ found → IsStep s t more key target
  added_step states more key target shape state set found alike at set_is shape_is stepped within target_is =
      let there = alike key.state state at in
      record {
        origin_within = slice_get_within more key.state state there;
        target_within = within;
        set_is =
            target_is ∙ stepped ∙ ap (λ xs. step_over t (is_taken s shape) xs) (set_is ∙ sym (ap state_set there))
            ∙ ap (λ x. step_over t (is_taken s x) (set_at more key.state)) (sym shape_is);
      }

  abbrev IsKept : List State → StepKey → Option ℕ → Type 0
  IsKept states key found = IfSome found (IsStep s t states key)

  some_stays : (states more : List State) → KeepTheirNumbers states more → (key : StepKey) (found : Option ℕ) → IsKept states key found → IsKept more key found
  some_stays states more alike key None h = h
  some_stays states more alike key (Some target) h = step_stays states more key target alike h

module _ {S : Type 0} (s : SchemaSet) (t : SequenceType) where
  -- what is looked up is the step of the key
  pub step_is : (states : List State) (targets : IndexMap StepKey ℕ S) (key : StepKey) (target : ℕ) → IsAutomaton s t states targets → get same_step targets key ≡ Some target
      → IsStep s t states key target
  step_is states targets key target is found = subst (IsKept s t states key) found (is.steps key)

  -- a step that is kept for an equal key is that of a shape in a state
  pub kept_step : (states : List State) (targets : IndexMap StepKey ℕ S) (key : StepKey) (target state : ℕ) (shape : Shape) → IsAutomaton s t states targets → get same_step targets key ≡ Some target
      → same_step key (record { state = state; shape = shape_key shape }) ≡ true
      → (target < length states) × (set_at states target ≡ step_over t (is_taken s shape) (set_at states state))
  kept_step states targets key target state shape is found e =
      let step = step_alike s t states key (record { state = state; shape = shape_key shape }) target e (step_is states targets key target is found) in
      (step.target_within, step.set_is ∙ ap (λ x. step_over t (is_taken s x) (set_at states state)) (shape_of_key shape))

  -- more states
  pub more_states : (states more : List State) (targets : IndexMap StepKey ℕ S) → IsAutomaton s t states targets → AreStates t more → KeepTheirNumbers states more → IsAutomaton s t more targets
  more_states states more targets is are alike =
      let p = set_stays states more alike 0 is.some in
      record {
        some = p.0;
        start = p.1 ∙ is.start;
        ends = are;
        steps = λ key. some_stays s t states more alike key (get same_step targets key) (is.steps key);
      }

  -- the same targets
  pub same_targets : (states : List State) (old new : IndexMap StepKey ℕ S) → new.entries ≡ old.entries → IsAutomaton s t states old → IsAutomaton s t states new
  same_targets states old new e is = record {
    some = is.some;
    start = is.start;
    ends = is.ends;
    steps = λ key. let same : get same_step new key ≡ get same_step old key = cc in subst (IsKept s t states key) (sym same) (is.steps key);
  }

  -- one target more
  pub one_more : (states : List State) (old new : IndexMap StepKey ℕ S) (key : StepKey) (target : ℕ) → IsAutomaton s t states old → IsStep s t states key target
      → ((other : StepKey) → get same_step new other ≡ cond (same_step key other) (Some target) (get same_step old other)) → IsAutomaton s t states new
  one_more states old new key target is step updates = record {
    some = is.some;
    start = is.start;
    ends = is.ends;
    steps = λ other. subst (IsKept s t states other) (sym (updates other)) (by other (same_step key other) refl);
  }
    where
      by : (other : StepKey) (b : Bool) → same_step key other ≡ b → IsKept s t states other (cond b (Some target) (get same_step old other))
      by other true g = step_alike s t states key other target g step
      by other false g = is.steps other

-- a state says whether its set has an end
pub end_said : (t : SequenceType) (states : List State) (number : ℕ) (state : State) → AreStates t states → slice_get states number ≡ Some state → state.ends ≡ is_end t (set_at states number)
end_said t states number state are e = are number state e ∙ ap (is_end t) (sym (ap state_set e))
