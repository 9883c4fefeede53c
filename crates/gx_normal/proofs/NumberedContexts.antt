-- Variables have their numbers in order in clauses, paths and predicates.
use Rattle.std.proofs.Common.{◌≡◌, ℕ, zero, suc, add-one, ◌+◌, ◌≤◌, Bool, true, false, ◌||◌, List, [], ◌∷◌, ◌++◌, Option, Some, None, refl, sym, ◌∙◌, ap, subst, arith, nat_eq, if◌then◌else◌, append_assoc}
use Rattle.std.proofs.lemmas.Bool.{eq-eqb}
use Rattle.gx_base.specs.declared.place.Place.{Place}
use Rattle.gx_ast.specs.declared.expression.BinaryOperator.TheVariants as operator
use Rattle.gx_types.specs.declared.step.Axis.{Axis}
use Rattle.gx_types.specs.declared.step.Test.{Test}
use Rattle.gx_funcs.specs.declared.function.Function.TheVariants as functions
use Rattle.gx_resolved.specs.declared.tree.BoundName.{BoundName}
use Rattle.gx_sorting.specs.declared.keys.KeyOrder.{KeyOrder}
use Rattle.gx_core.specs.declared.operator.ClauseKind.{ClauseKind}
use Rattle.gx_core.specs.declared.operator.ClauseKind.TheVariants as kinds
use Rattle.gx_core.specs.Bindings.{clause_numbers_bound, block_numbers_bound, block_numbers_new}
use Rattle.gx_core.specs.declared.operator.Operator.TheVariants as operators
use Rattle.gx_core.specs.Expression.{CoreExpression, At, no_parts, one_part, three_parts, core_at, outer_of, Parts, a_part}
use Rattle.gx_core.specs.Invariant.{is_among, IsScoped, ArePartsScoped, numbers_bound, numbers_bound_in}
use Rattle.gx_normal.specs.Constructs.{call_at, for_at, let_at, quantifier_at, context_item_at, step_at, nodes_at}
use Rattle.gx_normal.specs.declared.focus.Focus.{Focus}
use Rattle.gx_normal.specs.declared.clauses.Ending.TheVariants.{Condition, Sorted}
use Rattle.gx_normal.specs.Clauses.{Numbers, numbered_binder, clause_in_front, key_in_front, ended}
use Rattle.gx_normal.specs.declared.contexts.ContextUse.{ContextUse}
use Rattle.gx_normal.specs.declared.contexts.ContextUse.TheVariants as uses
use Rattle.gx_normal.specs.declared.contexts.ContextNumbers.{ContextNumbers}
use Rattle.gx_normal.specs.declared.filters.Predicate.{Predicate}
use Rattle.gx_normal.specs.declared.filters.Predicate.TheVariants as predicates
use Rattle.gx_normal.specs.Contexts.{no_focus, focus_with, behind_context, hidden_variable, hidden_let, hidden_for, ordered_if, with_size, position_from_end, loop_at, path_with, context_numbers}
use Rattle.gx_normal.specs.Filters.{decimal_case, position_is, holds_at, kept_at, filtered_by}
use Rattle.gx_normal.specs.Normalisation.{same_place, number_at, variable_at}
use Rattle.gx_normal.proofs.NumberedConstructs.{Rise, rise_weaker, rise_joined, rise_alone, IsNumbered, numbers_of, or_true, found_among, JoinsOne, rising_order, empty_numbered, nothing_behind}

-- an operator that binds variables for its second part, to which the numbers from one on are given
pub let_numbered : (place : Place) (bound : BoundName) (scope : List ℕ) (free middle next : ℕ) (value body : CoreExpression)
    → IsNumbered scope free middle value → IsNumbered (middle ∷ scope) (middle + 1) next body → IsNumbered scope free next (let_at place (numbered_binder bound middle) value body)
let_numbered place bound scope free middle next value body h k =
    record {
      scoped = (tt, (h.scoped, (k.scoped, tt)));
      rising = rise_joined free middle next (numbers_bound value) (middle ∷ (numbers_bound body ++ [])) h.rising (omega arith, rise_alone (middle + 1) next (numbers_bound body) k.rising);
    }

pub for_numbered : (place : Place) (bound : BoundName) (scope : List ℕ) (free middle next : ℕ) (source body : CoreExpression)
    → IsNumbered scope free middle source → IsNumbered (middle ∷ scope) (middle + 1) next body → IsNumbered scope free next (for_at place (numbered_binder bound middle) 0 source body)
for_numbered place bound scope free middle next source body h k =
    record {
      scoped = (tt, (h.scoped, (k.scoped, tt)));
      rising = rise_joined free middle next (numbers_bound source) (middle ∷ (numbers_bound body ++ [])) h.rising (omega arith, rise_alone (middle + 1) next (numbers_bound body) k.rising);
    }

-- with the variable of the position
pub scope_turned : (m n : ℕ) (scope : List ℕ) (number : ℕ) → is_among (m ∷ n ∷ scope) number ≡ true → is_among (n ∷ m ∷ scope) number ≡ true
scope_turned m n scope number h = by (nat_eq m number) (nat_eq n number) (is_among scope number) h
  where
    by : (a b c : Bool) → (a || (b || c)) ≡ true → (b || (a || c)) ≡ true
    by true true c e = refl
    by true false c e = refl
    by false true c e = refl
    by false false c e = e

pub for_position_numbered : (place : Place) (bound : BoundName) (scope : List ℕ) (free middle next : ℕ) (source body : CoreExpression)
    → IsNumbered scope free middle source → IsNumbered (middle ∷ (middle + 1) ∷ scope) (middle + 2) next body
    → IsNumbered scope free next (for_at place (numbered_binder bound middle) (middle + 1) source body)
for_position_numbered place bound scope free middle next source body h k =
    subst (λ (position : ℕ). IsNumbered scope free next (for_at place (numbered_binder bound middle) position source body)) (sym (add-one middle))
    (record {
      scoped = (tt, (h.scoped, (subst (λ (position : ℕ). IsScoped (middle ∷ position ∷ scope) body) (add-one middle) k.scoped, tt)));
      rising = rise_joined free middle next (numbers_bound source) (middle ∷ suc middle ∷ (numbers_bound body ++ [])) h.rising
          (omega arith, (omega arith, rise_weaker (middle + 2) (suc middle + 1) next (numbers_bound body ++ []) (omega arith) (rise_alone (middle + 2) next (numbers_bound body) k.rising)));
    })

pub quantifier_numbered : (every : Bool) (place : Place) (bound : BoundName) (scope : List ℕ) (free middle next : ℕ) (source test : CoreExpression)
    → IsNumbered scope free middle source → IsNumbered (middle ∷ scope) (middle + 1) next test → IsNumbered scope free next (quantifier_at every place (numbered_binder bound middle) source test)
quantifier_numbered true place bound scope free middle next source test h k =
    record {
      scoped = (tt, (h.scoped, (k.scoped, tt)));
      rising = rise_joined free middle next (numbers_bound source) (middle ∷ (numbers_bound test ++ [])) h.rising (omega arith, rise_alone (middle + 1) next (numbers_bound test) k.rising);
    }
quantifier_numbered false place bound scope free middle next source test h k =
    record {
      scoped = (tt, (h.scoped, (k.scoped, tt)));
      rising = rise_joined free middle next (numbers_bound source) (middle ∷ (numbers_bound test ++ [])) h.rising (omega arith, rise_alone (middle + 1) next (numbers_bound test) k.rising);
    }

-- ---- a clause in front of a block

pub bound_behind : (kinds : List ClauseKind) (before : List (Unit {0})) (a b : List ℕ) → block_numbers_bound kinds before (a ++ b) ≡ block_numbers_bound kinds before a ++ b
bound_behind [] before a b = refl
bound_behind (kind ∷ kinds) [] a b = refl
bound_behind (kind ∷ kinds) (one ∷ before) a b =
    ap (block_numbers_bound kinds before) (sym (append_assoc (clause_numbers_bound kind) a b)) ∙ bound_behind kinds before (clause_numbers_bound kind ++ a) b

pub bound_outside : (kind : ClauseKind) (kinds : List ClauseKind) (before : List (Unit {0})) (scope : List ℕ)
    → block_numbers_bound kinds before [] ++ (clause_numbers_bound kind ++ scope) ≡ block_numbers_bound (kind ∷ kinds) (tt ∷ before) [] ++ scope
bound_outside kind kinds before scope =
    let own = clause_numbers_bound kind in
    ap (λ (l : List ℕ). block_numbers_bound kinds before [] ++ (l ++ scope)) (sym (nothing_behind own))
    ∙ sym (append_assoc (block_numbers_bound kinds before []) (own ++ []) scope)
    ∙ ap (λ (l : List ℕ). l ++ scope) (sym (bound_behind kinds before [] (own ++ [])))

pub parts_scoped_behind : (kind : ClauseKind) (kinds : List ClauseKind) (orders : List KeyOrder) (scope : List ℕ) (before : List (Unit {0})) (parts : Parts (Unit {0}))
    → ArePartsScoped (clause_numbers_bound kind ++ scope) (operators.Block kinds orders) before parts → ArePartsScoped scope (operators.Block (kind ∷ kinds) orders) (tt ∷ before) parts
parts_scoped_behind kind kinds orders scope before no_parts h = tt
parts_scoped_behind kind kinds orders scope before (a_part first others) h =
    (subst (λ (l : List ℕ). IsScoped l first) (bound_outside kind kinds before scope) h.0, parts_scoped_behind kind kinds orders scope (before ++ tt ∷ []) others h.1)

pub numbers_further : (kind : ClauseKind) (kinds : List ClauseKind) (orders : List KeyOrder) (before : List (Unit {0})) (parts : Parts (Unit {0}))
    → numbers_bound_in (operators.Block (kind ∷ kinds) orders) (tt ∷ tt ∷ before) parts ≡ numbers_bound_in (operators.Block kinds orders) (tt ∷ before) parts
numbers_further kind kinds orders before no_parts = refl
numbers_further kind kinds orders before (a_part first others) =
    ap (λ (l : List ℕ). block_numbers_new kinds (tt ∷ before) ++ numbers_bound first ++ l) (numbers_further kind kinds orders (before ++ tt ∷ []) others)

pub none_new : (kinds : List ClauseKind) → block_numbers_new kinds [] ≡ []
none_new [] = refl
none_new (kind ∷ kinds) = refl

pub rising_behind : (kind : ClauseKind) (kinds : List ClauseKind) (orders : List KeyOrder) (parts : Parts (Unit {0})) (middle behind next : ℕ) → Rise middle behind (clause_numbers_bound kind)
    → Rise behind next (numbers_bound_in (operators.Block kinds orders) [] parts) → Rise middle next (numbers_bound_in (operators.Block (kind ∷ kinds) orders) (tt ∷ []) parts)
rising_behind kind kinds orders no_parts middle behind next own h = omega (arith, rising_order middle behind (clause_numbers_bound kind) own, h)
rising_behind kind kinds orders (a_part first others) middle behind next own h =
    let more : List ℕ = numbers_bound_in (operators.Block (kind ∷ kinds) orders) (tt ∷ tt ∷ []) others in
    let rest : Rise behind next (numbers_bound first ++ more) =
    subst (Rise behind next) (ap (λ (l : List ℕ). l ++ numbers_bound first ++ numbers_bound_in (operators.Block kinds orders) (tt ∷ []) others) (none_new kinds)
    ∙ ap (λ (l : List ℕ). numbers_bound first ++ l) (sym (numbers_further kind kinds orders [] others))) h in
    subst (Rise middle next) (sym (append_assoc (clause_numbers_bound kind) (numbers_bound first) more)) (rise_joined middle behind next (clause_numbers_bound kind) (numbers_bound first ++ more) own rest)

pub clause_in_front_numbered : (place : Place) (kind : ClauseKind) (scope : List ℕ) (free middle behind next : ℕ) (part block : CoreExpression)
    → IsNumbered scope free middle part → Rise middle behind (clause_numbers_bound kind) → IsNumbered (clause_numbers_bound kind ++ scope) behind next block → IsNumbered scope free next (clause_in_front place kind part block)
clause_in_front_numbered place kind scope free middle behind next part (At there outer tt (operators.Block kinds orders) parts) h own k =
    record {
      scoped = (tt, (h.scoped, parts_scoped_behind kind kinds orders scope [] parts k.scoped.1));
      rising = rise_joined free middle next (numbers_bound part) (numbers_bound_in (operators.Block (kind ∷ kinds) orders) (tt ∷ []) parts) h.rising (rising_behind kind kinds orders parts middle behind next own k.rising);
    }
clause_in_front_numbered place kind scope free middle behind next part (At there outer tt operator parts) h own k =
    empty_numbered place scope free next (omega (
      arith,
      rising_order free middle (numbers_bound part) h.rising,
      rising_order middle behind (clause_numbers_bound kind) own,
      rising_order behind next (numbers_bound (At there outer tt operator parts)) k.rising,
    ))

pub key_parts_scoped : (order : KeyOrder) (orders : List KeyOrder) (scope : List ℕ) (before : List (Unit {0})) (parts : Parts (Unit {0}))
    → ArePartsScoped scope (operators.Block [] orders) before parts → ArePartsScoped scope (operators.Block [] (order ∷ orders)) (tt ∷ before) parts
key_parts_scoped order orders scope before no_parts h = tt
key_parts_scoped order orders scope before (a_part first others) h = (h.0, key_parts_scoped order orders scope (before ++ tt ∷ []) others h.1)

pub key_numbers : (order : KeyOrder) (orders : List KeyOrder) (before : List (Unit {0})) (parts : Parts (Unit {0}))
    → numbers_bound_in (operators.Block [] orders) before parts ≡ numbers_bound_in (operators.Block [] (order ∷ orders)) (tt ∷ before) parts
key_numbers order orders before no_parts = refl
key_numbers order orders before (a_part first others) = ap (λ (l : List ℕ). numbers_bound first ++ l) (key_numbers order orders (before ++ tt ∷ []) others)

pub key_in_front_numbered : (place : Place) (order : KeyOrder) (scope : List ℕ) (free middle next : ℕ) (part block : CoreExpression)
    → IsNumbered scope free middle part → IsNumbered scope middle next block → IsNumbered scope free next (key_in_front place order part block)
key_in_front_numbered place order scope free middle next part (At there outer tt (operators.Block [] orders) parts) h k =
    record {
      scoped = (tt, (h.scoped, key_parts_scoped order orders scope [] parts k.scoped.1));
      rising = rise_joined free middle next (numbers_bound part) (numbers_bound_in (operators.Block [] (order ∷ orders)) (tt ∷ []) parts) h.rising (subst (Rise middle next) (key_numbers order orders [] parts) k.rising);
    }
key_in_front_numbered place order scope free middle next part (At there outer tt operator parts) h k =
    empty_numbered place scope free next (omega (arith, rising_order free middle (numbers_bound part) h.rising, rising_order middle next (numbers_bound (At there outer tt operator parts)) k.rising))

-- what is returned for sorted tuples
pub sorted_numbered : (greatest : Bool) → JoinsOne (ended (Sorted greatest))
sorted_numbered greatest scope free next e h = record { scoped = (tt, (h.scoped, tt)); rising = rise_alone free next (numbers_bound e) h.rising }

-- a number is among these, where there is one
abbrev pub AreAmong : List ℕ → Option ℕ → Type 0
AreAmong scope found = (k : ℕ) → found ≡ Some k → is_among scope k ≡ true

-- the variables of a scope, and those of the context, are among these numbers
pub record IsCovered (scope : List ℕ) (numbers : Numbers) (focus : Focus) : Type 0 where
  pub bound : (binder : Place) (k : ℕ) → number_at numbers binder ≡ Some k → is_among scope k ≡ true
  pub item : AreAmong scope focus.context.item
  pub position : AreAmong scope focus.context.position
  pub size : AreAmong scope focus.context.size

pub among_itself : (k : ℕ) (ns : List ℕ) → is_among (k ∷ ns) k ≡ true
among_itself k ns = ap (λ (b : Bool). b || is_among ns k) (eq-eqb k k refl)

pub among_more : (n k : ℕ) (ns : List ℕ) → is_among ns k ≡ true → is_among (n ∷ ns) k ≡ true
among_more n k ns h = or_true (nat_eq n k) (is_among ns k) h

-- with one more variable
pub bound_more : (scope : List ℕ) (numbers : Numbers) (focus : Focus) (place : Place) (n : ℕ) → IsCovered scope numbers focus → (binder : Place) (k : ℕ) → number_at ((place, n) ∷ numbers) binder ≡ Some k → is_among (n ∷ scope) k ≡ true
bound_more scope numbers focus place n h binder k e =
    elim (same_place place binder) as (λ (same : Bool). (if same then Some n else number_at numbers binder) ≡ Some k → is_among (n ∷ scope) k ≡ true) [
      | true ↦ λ g. let same : n ≡ k = cc in ap (λ (b : Bool). b || is_among scope k) (eq-eqb n k same)
      | false ↦ λ g. among_more n k scope (h.bound binder k g)
    ] e

pub covered_more : (scope : List ℕ) (numbers : Numbers) (focus : Focus) (place : Place) (n : ℕ) → IsCovered scope numbers focus → IsCovered (n ∷ scope) ((place, n) ∷ numbers) focus
covered_more scope numbers focus place n h = record { bound = bound_more scope numbers focus place n h; item = λ k e. among_more n k scope (h.item k e); position = λ k e. among_more n k scope (h.position k e); size = λ k e. among_more n k scope (h.size k e) }

-- with two variables the other way round
pub covered_turned : (m n : ℕ) (scope : List ℕ) (numbers : Numbers) (focus : Focus) → IsCovered (n ∷ m ∷ scope) numbers focus → IsCovered (m ∷ n ∷ scope) numbers focus
covered_turned m n scope numbers focus h = record {
  bound = λ binder k e. scope_turned n m scope k (h.bound binder k e);
  item = λ k e. scope_turned n m scope k (h.item k e);
  position = λ k e. scope_turned n m scope k (h.position k e);
  size = λ k e. scope_turned n m scope k (h.size k e);
}

-- with another context
abbrev pub scope_with : ContextUse → ℕ → List ℕ → List ℕ
scope_with uses.Item n scope = n ∷ scope
scope_with uses.Position n scope = n ∷ (n + 1) ∷ scope
scope_with uses.Size n scope = (n + 2) ∷ (n + 1) ∷ n ∷ scope
scope_with uses.PositionAndSize n scope = (n + 2) ∷ (n + 3) ∷ (n + 1) ∷ n ∷ scope
scope_with uses.Backwards n scope = (n + 4) ∷ (n + 2) ∷ (n + 3) ∷ (n + 1) ∷ n ∷ scope

pub among_four : (n k : ℕ) (scope : List ℕ) → is_among scope k ≡ true → is_among ((n + 2) ∷ (n + 3) ∷ (n + 1) ∷ n ∷ scope) k ≡ true
among_four n k scope h =
    among_more (n + 2) k ((n + 3) ∷ (n + 1) ∷ n ∷ scope) (among_more (n + 3) k ((n + 1) ∷ n ∷ scope) (among_more (n + 1) k (n ∷ scope) (among_more n k scope h)))

pub among_wider : (use' : ContextUse) (n k : ℕ) (scope : List ℕ) → is_among scope k ≡ true → is_among (scope_with use' n scope) k ≡ true
among_wider uses.Item n k scope h = among_more n k scope h
among_wider uses.Position n k scope h = among_more n k ((n + 1) ∷ scope) (among_more (n + 1) k scope h)
among_wider uses.Size n k scope h = among_more (n + 2) k ((n + 1) ∷ n ∷ scope) (among_more (n + 1) k (n ∷ scope) (among_more n k scope h))
among_wider uses.PositionAndSize n k scope h = among_four n k scope h
among_wider uses.Backwards n k scope h = among_more (n + 4) k (scope_with uses.PositionAndSize n scope) (among_four n k scope h)

-- a number that is there is among those that it is among
pub there : (scope : List ℕ) (n : ℕ) → is_among scope n ≡ true → AreAmong scope (Some n)
there scope n h k e = let same : n ≡ k = cc in subst (λ (m : ℕ). is_among scope m ≡ true) same h

pub nowhere : (scope : List ℕ) → AreAmong scope None
nowhere scope k e = absurd (cc)

pub second_among : (m n : ℕ) (scope : List ℕ) → is_among (m ∷ n ∷ scope) n ≡ true
second_among m n scope = among_more m n (n ∷ scope) (among_itself n scope)

pub third_among : (l m n : ℕ) (scope : List ℕ) → is_among (l ∷ m ∷ n ∷ scope) n ≡ true
third_among l m n scope = among_more l n (m ∷ n ∷ scope) (second_among m n scope)

pub covered_with : (use' : ContextUse) (scope : List ℕ) (numbers : Numbers) (focus : Focus) (n : ℕ) → IsCovered scope numbers focus → IsCovered (scope_with use' n scope) numbers (focus_with focus use' n)
covered_with uses.Item scope numbers focus n h = record {
  bound = λ binder k e. among_wider uses.Item n k scope (h.bound binder k e);
  item = there (n ∷ scope) n (among_itself n scope);
  position = nowhere (n ∷ scope);
  size = nowhere (n ∷ scope);
}
covered_with uses.Position scope numbers focus n h = record {
  bound = λ binder k e. among_wider uses.Position n k scope (h.bound binder k e);
  item = there (n ∷ (n + 1) ∷ scope) n (among_itself n ((n + 1) ∷ scope));
  position = there (n ∷ (n + 1) ∷ scope) (n + 1) (second_among n (n + 1) scope);
  size = nowhere (n ∷ (n + 1) ∷ scope);
}
covered_with uses.Size scope numbers focus n h = record {
  bound = λ binder k e. among_wider uses.Size n k scope (h.bound binder k e);
  item = there ((n + 2) ∷ (n + 1) ∷ n ∷ scope) (n + 2) (among_itself (n + 2) ((n + 1) ∷ n ∷ scope));
  position = nowhere ((n + 2) ∷ (n + 1) ∷ n ∷ scope);
  size = there ((n + 2) ∷ (n + 1) ∷ n ∷ scope) (n + 1) (second_among (n + 2) (n + 1) (n ∷ scope));
}
covered_with uses.PositionAndSize scope numbers focus n h = record {
  bound = λ binder k e. among_wider uses.PositionAndSize n k scope (h.bound binder k e);
  item = there ((n + 2) ∷ (n + 3) ∷ (n + 1) ∷ n ∷ scope) (n + 2) (among_itself (n + 2) ((n + 3) ∷ (n + 1) ∷ n ∷ scope));
  position = there ((n + 2) ∷ (n + 3) ∷ (n + 1) ∷ n ∷ scope) (n + 3) (second_among (n + 2) (n + 3) ((n + 1) ∷ n ∷ scope));
  size = there ((n + 2) ∷ (n + 3) ∷ (n + 1) ∷ n ∷ scope) (n + 1) (third_among (n + 2) (n + 3) (n + 1) (n ∷ scope));
}
covered_with uses.Backwards scope numbers focus n h = record {
  bound = λ binder k e. among_wider uses.Backwards n k scope (h.bound binder k e);
  item = there (scope_with uses.Backwards n scope) (n + 2) (second_among (n + 4) (n + 2) ((n + 3) ∷ (n + 1) ∷ n ∷ scope));
  position = there (scope_with uses.Backwards n scope) (n + 4) (among_itself (n + 4) ((n + 2) ∷ (n + 3) ∷ (n + 1) ∷ n ∷ scope));
  size = there (scope_with uses.Backwards n scope) (n + 1) (among_more (n + 4) (n + 1) ((n + 2) ∷ (n + 3) ∷ (n + 1) ∷ n ∷ scope) (third_among (n + 2) (n + 3) (n + 1) (n ∷ scope)));
}

pub covered_without : (numbers : Numbers) (greatest blanks : Bool) → IsCovered (numbers_of numbers) numbers (no_focus greatest blanks)
covered_without numbers greatest blanks = record { bound = found_among numbers; item = nowhere (numbers_of numbers); position = nowhere (numbers_of numbers); size = nowhere (numbers_of numbers) }

pub covered_by : (scope : List ℕ) (numbers : Numbers) (greatest blanks : Bool) → ((binder : Place) (k : ℕ) → number_at numbers binder ≡ Some k → is_among scope k ≡ true) → IsCovered scope numbers (no_focus greatest blanks)
covered_by scope numbers greatest blanks h = record { bound = h; item = nowhere scope; position = nowhere scope; size = nowhere scope }

pub found_numbered : (place : Place) (scope : List ℕ) (free : ℕ) (found : Option ℕ) → ((k : ℕ) → found ≡ Some k → is_among scope k ≡ true) → IsNumbered scope free free (variable_at place found)
found_numbered place scope free None h = empty_numbered place scope free free (omega arith)
found_numbered place scope free (Some k) h = record { scoped = (h k refl, tt); rising = omega arith }

pub context_item_numbered : (place : Place) (scope : List ℕ) (free : ℕ) (found : Option ℕ) → AreAmong scope found → IsNumbered scope free free (context_item_at place found)
context_item_numbered place scope free None h = record { scoped = (tt, tt); rising = omega arith }
context_item_numbered place scope free (Some k) h = record { scoped = (h k refl, tt); rising = omega arith }

pub step_numbered : (place : Place) (scope : List ℕ) (free : ℕ) (found : Option ℕ) (axis : Axis) (of_test : Test) → AreAmong scope found → IsNumbered scope free free (step_at place found axis of_test)
step_numbered place scope free None axis of_test h = record { scoped = (tt, tt); rising = omega arith }
step_numbered place scope free (Some k) axis of_test h = record { scoped = (h k refl, tt); rising = omega arith }

-- ---- loops over the items of a context

pub variable_numbered : (place : Place) (scope : List ℕ) (free n : ℕ) → is_among scope n ≡ true → IsNumbered scope free free (hidden_variable place n)
variable_numbered place scope free n h = record { scoped = (h, tt); rising = omega arith }

-- the numbers of a variable, and of what it is bound to in a body
pub rise_behind : (free middle n low next : ℕ) (values body : List ℕ) → Rise free middle values → middle ≤ n → n + 1 ≤ low → Rise low next body → Rise free next (values ++ (n ∷ (body ++ [])))
rise_behind free middle n low next values body h a b k =
    rise_joined free middle next values (n ∷ (body ++ [])) h (a, rise_weaker low (n + 1) next (body ++ []) b (rise_alone low next body k))

pub hidden_let_numbered : (place : Place) (scope : List ℕ) (free middle n low next : ℕ) (value body : CoreExpression) → IsNumbered scope free middle value → middle ≤ n → n + 1 ≤ low
    → IsNumbered (n ∷ scope) low next body → IsNumbered scope free next (hidden_let place n value body)
hidden_let_numbered place scope free middle n low next value body h a b k =
    record { scoped = (tt, (h.scoped, (k.scoped, tt))); rising = rise_behind free middle n low next (numbers_bound value) (numbers_bound body) h.rising a b k.rising }

pub hidden_for_numbered : (place : Place) (scope : List ℕ) (free middle n low next : ℕ) (source body : CoreExpression) → IsNumbered scope free middle source → middle ≤ n → n + 1 ≤ low
    → IsNumbered (n ∷ scope) low next body → IsNumbered scope free next (hidden_for place n 0 source body)
hidden_for_numbered place scope free middle n low next source body h a b k =
    record { scoped = (tt, (h.scoped, (k.scoped, tt))); rising = rise_behind free middle n low next (numbers_bound source) (numbers_bound body) h.rising a b k.rising }

-- with the variable of the position
pub position_numbered : (place : Place) (scope : List ℕ) (free middle n p low next : ℕ) (source body : CoreExpression) → IsNumbered scope free middle source → middle ≤ n → n + 1 ≤ p → p + 1 ≤ low
    → IsNumbered (n ∷ p ∷ scope) low next body → IsNumbered scope free next (hidden_for place n p source body)
position_numbered place scope free middle n zero low next source body h a b c k = absurd (omega (arith, b))
position_numbered place scope free middle n (suc p) low next source body h a b c k =
    record {
      scoped = (tt, (h.scoped, (k.scoped, tt)));
      rising = rise_joined free middle next (numbers_bound source) (n ∷ suc p ∷ (numbers_bound body ++ [])) h.rising
          (a, (b, rise_weaker low (suc p + 1) next (numbers_bound body ++ []) c (rise_alone low next (numbers_bound body) k.rising)));
    }

pub ordered_numbered : (ordered : Bool) (place : Place) → JoinsOne (ordered_if ordered place)
ordered_numbered true place scope free next e h = record { scoped = (tt, (h.scoped, tt)); rising = rise_alone free next (numbers_bound e) h.rising }
ordered_numbered false place scope free next e h = h

pub size_numbered : (place : Place) (scope : List ℕ) (free n next : ℕ) (source body : CoreExpression) → IsNumbered scope free n source → IsNumbered ((n + 1) ∷ n ∷ scope) (n + 2) next body
    → IsNumbered scope free next (with_size place n source body)
size_numbered place scope free n next source body h k =
    let counted : IsNumbered (n ∷ scope) (n + 1) (n + 1) (call_at place functions.Count (one_part (hidden_variable place n))) =
    record { scoped = (tt, ((among_itself n scope, tt), tt)); rising = omega arith } in
    hidden_let_numbered place scope free n n (n + 1) next source (hidden_let place (n + 1) (call_at place functions.Count (one_part (hidden_variable place n))) body) h (omega arith) (omega arith)
    (hidden_let_numbered place (n ∷ scope) (n + 1) (n + 1) (n + 1) (n + 2) next (call_at place functions.Count (one_part (hidden_variable place n))) body counted (omega arith) (omega arith) k)

pub from_end_numbered : (place : Place) (scope : List ℕ) (free size position : ℕ) → is_among scope size ≡ true → is_among scope position ≡ true → IsNumbered scope free free (position_from_end place size position)
from_end_numbered place scope free size position h k = record { scoped = (tt, ((tt, ((h, tt), ((k, tt), tt))), ((tt, tt), tt))); rising = omega arith }

pub loop_numbered : (use' : ContextUse) (ordered : Bool) (place : Place) (scope : List ℕ) (free n next : ℕ) (source body : CoreExpression)
    → IsNumbered scope free n source → IsNumbered (scope_with use' n scope) (behind_context use' n) next body → IsNumbered scope free next (loop_at use' ordered place n source body)
loop_numbered uses.Item ordered place scope free n next source body h k =
    ordered_numbered ordered place scope free next (hidden_for place n 0 source body) (hidden_for_numbered place scope free n n (n + 1) next source body h (omega arith) (omega arith) k)
loop_numbered uses.Position ordered place scope free n next source body h k =
    ordered_numbered ordered place scope free next (hidden_for place n (n + 1) source body)
    (position_numbered place scope free n n (n + 1) (n + 2) next source body h (omega arith) (omega arith) (omega arith) k)
loop_numbered uses.Size ordered place scope free n next source body h k =
    let inner : List ℕ = (n + 1) ∷ n ∷ scope in
    size_numbered place scope free n next source (ordered_if ordered place (hidden_for place (n + 2) 0 (hidden_variable place n) body)) h
    (ordered_numbered ordered place inner (n + 2) next (hidden_for place (n + 2) 0 (hidden_variable place n) body)
    (hidden_for_numbered place inner (n + 2) (n + 2) (n + 2) (n + 3) next (hidden_variable place n) body (variable_numbered place inner (n + 2) n (second_among (n + 1) n scope)) (omega arith) (omega arith) k))
loop_numbered uses.PositionAndSize ordered place scope free n next source body h k =
    let inner : List ℕ = (n + 1) ∷ n ∷ scope in
    size_numbered place scope free n next source (ordered_if ordered place (hidden_for place (n + 2) (n + 3) (hidden_variable place n) body)) h
    (ordered_numbered ordered place inner (n + 2) next (hidden_for place (n + 2) (n + 3) (hidden_variable place n) body)
    (position_numbered place inner (n + 2) (n + 2) (n + 2) (n + 3) (n + 4) next (hidden_variable place n) body (variable_numbered place inner (n + 2) n (second_among (n + 1) n scope)) (omega arith) (omega arith) (omega arith) k))
loop_numbered uses.Backwards ordered place scope free n next source body h k =
    let inner : List ℕ = (n + 1) ∷ n ∷ scope in
    let turned : CoreExpression = hidden_let place (n + 4) (position_from_end place (n + 1) (n + 3)) body in
    let within_loop : List ℕ = (n + 2) ∷ (n + 3) ∷ inner in
    size_numbered place scope free n next source (ordered_if ordered place (hidden_for place (n + 2) (n + 3) (hidden_variable place n) turned)) h
    (ordered_numbered ordered place inner (n + 2) next (hidden_for place (n + 2) (n + 3) (hidden_variable place n) turned)
    (position_numbered place inner (n + 2) (n + 2) (n + 2) (n + 3) (n + 4) next (hidden_variable place n) turned (variable_numbered place inner (n + 2) n (second_among (n + 1) n scope)) (omega arith) (omega arith) (omega arith)
    (hidden_let_numbered place within_loop (n + 4) (n + 4) (n + 4) (n + 5) next (position_from_end place (n + 1) (n + 3)) body
    (from_end_numbered place within_loop (n + 4) (n + 1) (n + 3) (third_among (n + 2) (n + 3) (n + 1) (n ∷ scope)) (second_among (n + 2) (n + 3) inner)) (omega arith) (omega arith) k)))

pub path_numbered : (use' : ContextUse) (place : Place) (scope : List ℕ) (free n next : ℕ) (first second : CoreExpression)
    → IsNumbered scope free n first → IsNumbered (scope_with use' n scope) (behind_context use' n) next second → IsNumbered scope free next (path_with use' place n first second)
path_numbered use' place scope free n next first second h k =
    loop_numbered use' true place scope free n next (nodes_at place first) second (record { scoped = (tt, (h.scoped, tt)); rising = rise_alone free n (numbers_bound first) h.rising }) k

-- ---- predicates

pub position_is_numbered : (place : Place) (scope : List ℕ) (focus : ContextNumbers) (free n : ℕ) → is_among scope n ≡ true → AreAmong scope focus.position → IsNumbered scope free free (position_is place focus n)
position_is_numbered place scope focus free n h c =
    let position = context_item_numbered place scope free focus.position c in
    record { scoped = (tt, ((h, tt), (position.scoped, tt))); rising = rise_alone free free (numbers_bound (context_item_at place focus.position)) position.rising }

-- whether a condition holds, with these variables of the cases
abbrev pub holds_with : Place → ContextNumbers → (number other : ℕ) → (condition : CoreExpression) → CoreExpression
holds_with place focus number other condition =
    core_at place place (operators.Switch (decimal_case number ∷ []) other)
    (three_parts condition (position_is place focus number) (call_at place functions.Boolean (one_part (hidden_variable place other))))

pub cases_numbered : (place : Place) (scope : List ℕ) (focus : ContextNumbers) (free n : ℕ) (condition : CoreExpression) → AreAmong scope focus.position → IsNumbered scope free (suc n) condition
    → IsNumbered scope free (suc n + 2) (holds_with place focus (suc n) (suc (suc n)) condition)
cases_numbered place scope focus free n condition c h =
    let tested = position_is_numbered place (suc n ∷ scope) focus (suc n + 1) (suc n) (among_itself (suc n) scope) (λ k e. among_more (suc n) k scope (c k e)) in
    let behind_test : List ℕ = suc (suc n) ∷ [] in
    record {
      scoped = (tt, (h.scoped, (tested.scoped, ((tt, ((among_itself (suc (suc n)) scope, tt), tt)), tt))));
      rising = rise_joined free (suc n) (suc n + 2) (numbers_bound condition) (suc n ∷ (numbers_bound (position_is place focus (suc n)) ++ behind_test)) h.rising
          (omega arith, rise_joined (suc n + 1) (suc n + 1) (suc n + 2) (numbers_bound (position_is place focus (suc n))) behind_test tested.rising (omega arith, omega arith));
    }

pub holds_numbered : (place : Place) (scope : List ℕ) (focus : ContextNumbers) (free n : ℕ) (condition : CoreExpression) → 1 ≤ n → AreAmong scope focus.position → IsNumbered scope free n condition
    → IsNumbered scope free (n + 2) (holds_at place focus n condition)
holds_numbered place scope focus free zero condition p c h = absurd (omega (arith, p))
holds_numbered place scope focus free (suc n) condition p c h =
    let behind : suc (suc n) ≡ suc n + 1 = omega arith in
    subst (λ (m : ℕ). IsNumbered scope free (suc n + 2) (holds_with place focus (suc n) m condition)) behind (cases_numbered place scope focus free n condition c h)

pub kept_numbered : (place : Place) (scope : List ℕ) (focus : ContextNumbers) (free n : ℕ) (condition : CoreExpression) → 1 ≤ n → AreAmong scope focus.item → AreAmong scope focus.position → IsNumbered scope free n condition
    → IsNumbered scope free (n + 2) (kept_at place focus n condition)
kept_numbered place scope focus free n condition p i c h =
    let holds = holds_numbered place scope focus free n condition p c h in
    let item = context_item_numbered place scope (n + 2) focus.item i in
    record {
      scoped = (tt, (holds.scoped, (item.scoped, ((tt, tt), tt))));
      rising = rise_joined free (n + 2) (n + 2) (numbers_bound (holds_at place focus n condition)) (numbers_bound (context_item_at place focus.item) ++ []) holds.rising
          (rise_alone (n + 2) (n + 2) (numbers_bound (context_item_at place focus.item)) item.rising);
    }

pub behind_some : (use' : ContextUse) (n : ℕ) → 1 ≤ behind_context use' n
behind_some uses.Item n = omega arith
behind_some uses.Position n = omega arith
behind_some uses.Size n = omega arith
behind_some uses.PositionAndSize n = omega arith
behind_some uses.Backwards n = omega arith

pub filtered_by_numbered : (predicate : Predicate) (reverse : Bool) (use' : ContextUse) (place : Place) (scope : List ℕ) (numbers : Numbers) (focus : Focus) (free n : ℕ) (e : CoreExpression) (condition : CoreExpression × ℕ)
    → IsCovered scope numbers focus → IsNumbered scope free n e → IsNumbered (scope_with use' n scope) (behind_context use' n) condition.1 condition.0
    → IsNumbered scope free (filtered_by predicate reverse use' place n e condition).1 (filtered_by predicate reverse use' place n e condition).0
filtered_by_numbered (predicates.Numbered number) reverse use' place scope numbers focus free n e condition c h k = record { scoped = (tt, (h.scoped, tt)); rising = rise_alone free n (numbers_bound e) h.rising }
filtered_by_numbered predicates.Last reverse use' place scope numbers focus free n e condition c h k = record { scoped = (tt, (h.scoped, tt)); rising = rise_alone free n (numbers_bound e) h.rising }
filtered_by_numbered predicates.Condition reverse use' place scope numbers focus free n e condition c h k =
    let inner = covered_with use' scope numbers focus n c in
    let some = behind_some use' n in
    let order = rising_order (behind_context use' n) condition.1 (numbers_bound condition.0) k.rising in
    loop_numbered use' false place scope free n (condition.1 + 2) e (kept_at (outer_of condition.0) (context_numbers use' n) condition.1 condition.0) h
    (kept_numbered (outer_of condition.0) (scope_with use' n scope) (context_numbers use' n) (behind_context use' n) condition.1 condition.0 (omega (arith, some, order)) inner.item inner.position k)

-- ---- trees
