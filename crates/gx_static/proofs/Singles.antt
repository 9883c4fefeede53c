-- Operators over at most one item of each operand keep their types.
use Rattle.std.proofs.Common.{◌≡◌, ◌≤◌, min, Bool, true, false, [], ◌∷◌, length, refl, arith, if◌then◌else◌}
use Rattle.gx_base.specs.declared.type_name.TypeName.{TypeName}
use Rattle.gx_facets.specs.declared.Atomic.{Atomic}
use Rattle.gx_types.specs.declared.item_type.ItemType.TheVariants as items
use Rattle.gx_types.specs.declared.shape.Shape.TheVariants.{Atom}
use Rattle.gx_types.specs.SchemaSet.{SchemaSet}
use Rattle.gx_types.specs.Derivation.{DerivesFrom}
use Rattle.gx_types.specs.Occurs.{Occurs}
use Rattle.gx_types.specs.Occurrence.{occurrence_of}
use Rattle.gx_types.specs.SequenceType.{SequenceType, never, item}
use Rattle.gx_types.specs.SameType.{same_type}
use Rattle.gx_types.specs.TypeRules.{times_of}
use Rattle.gx_types.specs.Laws.{Allows}
use Rattle.gx_types.proofs.PublicLaws.{times_takes_joined, equal_types_take_the_same}
use Rattle.gx_model.specs.Forest.{Forest}
use Rattle.gx_model.specs.Honest.{IsHonest}
use Rattle.gx_model.specs.Item.{Item, atom, Items}
use Rattle.gx_model.specs.Belongs.{ValueFits, Belongs}
use Rattle.gx_core.specs.Outcome.{Outcome}
use Rattle.gx_core.specs.Operands.{on_one, on_two}
use Rattle.gx_core.specs.Soundness.{typed_setting, IsOfType, Keeps}
use Rattle.gx_core.proofs.KeptFacts.{fact_at_once}
use Rattle.gx_static.specs.Rule.{is_at_most_one, both_occur, compared_occur}
use Rattle.gx_static.proofs.ItemLemmas.{belongs_within, at_most_one}

-- at most one atomic value, as often as an occurrence allows
pub nothing_belongs : (s : SchemaSet) (forest : Forest) (t : SequenceType) (o : Occurs) → Allows o 0 → Belongs s forest [] (times_of t o)
nothing_belongs s forest t o w = record { seen = []; shaped = tt; taken = times_takes_joined s t o [] tt w }

pub atom_belongs : (s : SchemaSet) (forest : Forest) (kind : TypeName) (o : Occurs) (a : Atomic) → ValueFits s a.value a.kind → DerivesFrom s a.kind kind → Allows o 1 → Belongs s forest (atom a ∷ []) (times_of (item (items.Atom kind)) o)
atom_belongs s forest kind o a f d w = record {
  seen = Atom a.kind ∷ [];
  shaped = (refl, f, tt);
  taken = times_takes_joined s (item (items.Atom kind)) o ((Atom a.kind ∷ []) ∷ []) ((Atom a.kind, refl, d), tt) w;
}

pub one_atom_belongs : (s : SchemaSet) (forest : Forest) (kind : TypeName) (a : Atomic) → ValueFits s a.value a.kind → DerivesFrom s a.kind kind → Belongs s forest (atom a ∷ []) (item (items.Atom kind))
one_atom_belongs s forest kind a f d = record { seen = Atom a.kind ∷ []; shaped = (refl, f, tt); taken = (Atom a.kind, refl, d) }

-- an outcome that keeps a type, as often as an occurrence says
abbrev Kept : SchemaSet → Forest → SequenceType → Occurs → Outcome Items → Type 0
Kept s forest t o outcome = Keeps (typed_setting s) forest (times_of t o) outcome

one_kept : (s : SchemaSet) (forest : Forest) (t : SequenceType) (o : Occurs) (next : Item → Forest → Outcome Items) (xs : Items) → IsHonest s forest → length xs ≤ 1 → Allows o (length xs)
    → ((x : Item) → xs ≡ x ∷ [] → Allows o 1 → Kept s forest t o (next x forest)) → Kept s forest t o (on_one xs forest next)
one_kept s forest t o next [] honest l w h = fact_at_once (typed_setting s) forest (IsOfType s (times_of t o)) [] honest (nothing_belongs s forest t o w)
one_kept s forest t o next (x ∷ []) honest l w h = h x refl w
one_kept s forest t o next (x ∷ y ∷ xs) honest l w h = absurd (omega (arith, l))

two_kept : (s : SchemaSet) (forest : Forest) (t : SequenceType) (o : Occurs) (next : Item → Item → Forest → Outcome Items) (xs ys : Items) → IsHonest s forest → length xs ≤ 1 → length ys ≤ 1
    → Allows o (min (length xs) (length ys)) → ((x y : Item) → xs ≡ x ∷ [] → ys ≡ y ∷ [] → Allows o 1 → Kept s forest t o (next x y forest)) → Kept s forest t o (on_two xs ys forest next)
two_kept s forest t o next [] [] honest l k w h = fact_at_once (typed_setting s) forest (IsOfType s (times_of t o)) [] honest (nothing_belongs s forest t o w)
two_kept s forest t o next [] (y ∷ []) honest l k w h = fact_at_once (typed_setting s) forest (IsOfType s (times_of t o)) [] honest (nothing_belongs s forest t o w)
two_kept s forest t o next (x ∷ []) [] honest l k w h = fact_at_once (typed_setting s) forest (IsOfType s (times_of t o)) [] honest (nothing_belongs s forest t o w)
two_kept s forest t o next (x ∷ []) (y ∷ []) honest l k w h = h x y refl refl w
two_kept s forest t o next [] (y ∷ z ∷ ys) honest l k w h = absurd (omega (arith, k))
two_kept s forest t o next (x ∷ []) (y ∷ z ∷ ys) honest l k w h = absurd (omega (arith, k))
two_kept s forest t o next (x ∷ z ∷ xs) ys honest l k w h = absurd (omega (arith, l))

-- an operator of one operand
pub one_keeps : (s : SchemaSet) (forest : Forest) (t u : SequenceType) (next : Item → Forest → Outcome Items) (xs : Items) → IsHonest s forest → is_at_most_one t ≡ true → Belongs s forest xs t
    → ((x : Item) (o : Occurs) → xs ≡ x ∷ [] → Allows o 1 → Kept s forest u o (next x forest)) → Kept s forest u (occurrence_of t) (on_one xs forest next)
one_keeps s forest t u next xs honest few b h =
    let g = at_most_one (occurrence_of t).greatest few in
    let v = belongs_within s forest t xs b in
    let l = v.greatest (omega (arith, g)) in
    one_kept s forest u (occurrence_of t) next xs honest (omega (arith, l, g)) v (λ x e w. h x (occurrence_of t) e w)

-- an operator of two operands, each of at most one item
two_keep_so : (s : SchemaSet) (forest : Forest) (t v : SequenceType) (o : Occurs) (next : Item → Item → Forest → Outcome Items) (xs ys : Items) → IsHonest s forest → Belongs s forest xs t → length xs ≤ 1 → length ys ≤ 1
    → Allows o (min (length xs) (length ys)) → ((x y : Item) → xs ≡ x ∷ [] → ys ≡ y ∷ [] → Allows o 1 → Kept s forest v o (next x y forest))
    → Keeps (typed_setting s) forest (if same_type never t then never else times_of v o) (on_two xs ys forest next)
two_keep_so s forest t v o next xs ys honest b l m w h =
    elim (same_type never t) as (λ (none : Bool). same_type never t ≡ none
    → Keeps (typed_setting s) forest (if none then never else times_of v o) (on_two xs ys forest next)) [
      | true ↦ λ e. absurd (equal_types_take_the_same s never t b.seen e b.taken)
      | false ↦ λ _. two_kept s forest v o next xs ys honest l m w h
    ] refl

-- an operator of two operands, whose value is empty where an operand is
pub two_keep : (s : SchemaSet) (forest : Forest) (t u v : SequenceType) (next : Item → Item → Forest → Outcome Items) (xs ys : Items) → IsHonest s forest → is_at_most_one t ≡ true → is_at_most_one u ≡ true
    → Belongs s forest xs t → Belongs s forest ys u → ((x y : Item) (o : Occurs) → xs ≡ x ∷ [] → ys ≡ y ∷ [] → Allows o 1 → Kept s forest v o (next x y forest))
    → Keeps (typed_setting s) forest (if same_type never t then never else times_of v (both_occur t u)) (on_two xs ys forest next)
two_keep s forest t u v next xs ys honest few_t few_u b c h =
    let i = at_most_one (occurrence_of t).greatest few_t in
    let j = at_most_one (occurrence_of u).greatest few_u in
    let p = belongs_within s forest t xs b in
    let q = belongs_within s forest u ys c in
    let l = p.greatest (omega (arith, i)) in
    let m = q.greatest (omega (arith, j)) in
    two_keep_so s forest t v (both_occur t u) next xs ys honest b (omega (arith, l, i)) (omega (arith, m, j))
    (record { least = omega (arith, p.least, q.least); greatest = λ _. omega (arith, l, m) }) (λ x y d e w. h x y (both_occur t u) d e w)

-- the same with a type that is optional where an operand is
pub two_compared_so : (s : SchemaSet) (forest : Forest) (t u v : SequenceType) (next : Item → Item → Forest → Outcome Items) (xs ys : Items) → IsHonest s forest → length xs ≤ 1 → length ys ≤ 1
    → Belongs s forest xs t → Belongs s forest ys u → ((x y : Item) (o : Occurs) → xs ≡ x ∷ [] → ys ≡ y ∷ [] → Allows o 1 → Kept s forest v o (next x y forest))
    → Keeps (typed_setting s) forest (if same_type never t then never else times_of v (compared_occur t u)) (on_two xs ys forest next)
two_compared_so s forest t u v next xs ys honest l m b c h =
    let p = belongs_within s forest t xs b in
    let q = belongs_within s forest u ys c in
    two_keep_so s forest t v (compared_occur t u) next xs ys honest b l m
    (record { least = omega (arith, p.least, q.least); greatest = λ _. omega (arith, l, m) }) (λ x y d e w. h x y (compared_occur t u) d e w)

-- at most one item, by its type
pub few_items : (s : SchemaSet) (forest : Forest) (t : SequenceType) (xs : Items) → is_at_most_one t ≡ true → Belongs s forest xs t → length xs ≤ 1
few_items s forest t xs few b =
    let i = at_most_one (occurrence_of t).greatest few in
    let p = belongs_within s forest t xs b in omega (arith, p.greatest (omega (arith, i)), i)

pub two_compared : (s : SchemaSet) (forest : Forest) (t u v : SequenceType) (next : Item → Item → Forest → Outcome Items) (xs ys : Items) → IsHonest s forest → is_at_most_one t ≡ true → is_at_most_one u ≡ true
    → Belongs s forest xs t → Belongs s forest ys u → ((x y : Item) (o : Occurs) → xs ≡ x ∷ [] → ys ≡ y ∷ [] → Allows o 1 → Kept s forest v o (next x y forest))
    → Keeps (typed_setting s) forest (if same_type never t then never else times_of v (compared_occur t u)) (on_two xs ys forest next)
two_compared s forest t u v next xs ys honest few_t few_u b c h =
    two_compared_so s forest t u v next xs ys honest (few_items s forest t xs few_t b) (few_items s forest u ys few_u c) b c h

-- an operator of two operands whose type has the empty sequence
pub pairs_keep : (s : SchemaSet) (forest : Forest) (t u v : SequenceType) (next : Item → Item → Forest → Outcome Items) (xs ys : Items) → IsHonest s forest → is_at_most_one t ≡ true → is_at_most_one u ≡ true
    → Belongs s forest xs t → Belongs s forest ys u → Belongs s forest [] v → ((x y : Item) → xs ≡ x ∷ [] → ys ≡ y ∷ [] → Keeps (typed_setting s) forest v (next x y forest))
    → Keeps (typed_setting s) forest v (on_two xs ys forest next)
pairs_keep s forest t u v next xs ys honest few_t few_u b c none h =
    let i = at_most_one (occurrence_of t).greatest few_t in
    let j = at_most_one (occurrence_of u).greatest few_u in
    let l = (belongs_within s forest t xs b).greatest (omega (arith, i)) in
    let m = (belongs_within s forest u ys c).greatest (omega (arith, j)) in
    cases xs ys (omega (arith, l, i)) (omega (arith, m, j)) h
  where
    cases : (xs ys : Items) → length xs ≤ 1 → length ys ≤ 1 → ((x y : Item) → xs ≡ x ∷ [] → ys ≡ y ∷ [] → Keeps (typed_setting s) forest v (next x y forest)) → Keeps (typed_setting s) forest v (on_two xs ys forest next)
    cases [] [] l k h = fact_at_once (typed_setting s) forest (IsOfType s v) [] honest none
    cases [] (y ∷ []) l k h = fact_at_once (typed_setting s) forest (IsOfType s v) [] honest none
    cases (x ∷ []) [] l k h = fact_at_once (typed_setting s) forest (IsOfType s v) [] honest none
    cases (x ∷ []) (y ∷ []) l k h = h x y refl refl
    cases [] (y ∷ z ∷ ys) l k h = absurd (omega (arith, k))
    cases (x ∷ []) (y ∷ z ∷ ys) l k h = absurd (omega (arith, k))
    cases (x ∷ z ∷ xs) ys l k h = absurd (omega (arith, l))
