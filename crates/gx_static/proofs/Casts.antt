-- Casts keep their types.
use Rattle.std.proofs.Common.{◌≡◌, ◌≤◌, Bool, true, false, ◌&&◌, ◌||◌, [], ◌∷◌, length, Option, Result, Ok, Err, refl, sym, subst, arith}
use Rattle.std.specs.Prelude.{is_ok}
use Rattle.std.proofs.lemmas.Bool.{and_parts}
use Rattle.gx_base.specs.declared.code.Code.{Code}
use Rattle.gx_base.specs.declared.type_name.Builtin.TheVariants.{Boolean}
use Rattle.gx_base.specs.declared.type_name.TypeName.{TypeName}
use Rattle.gx_num.specs.declared.Number.TheVariants.{Int, Dec}
use Rattle.gx_facets.specs.declared.Atomic.{Atomic}
use Rattle.gx_facets.specs.declared.AtomValue.{AtomValue}
use Rattle.gx_facets.specs.declared.AtomValue.TheVariants.{Untyped, Str, Truth, Num}
use Rattle.gx_types.specs.declared.item_type.ItemType.TheVariants as items
use Rattle.gx_types.specs.SchemaSet.{SchemaSet}
use Rattle.gx_types.specs.Derivation.{DerivesFrom}
use Rattle.gx_types.specs.Occurs.{Occurs}
use Rattle.gx_types.specs.Occurrence.{occurrence_of}
use Rattle.gx_types.specs.SequenceType.{SequenceType, item}
use Rattle.gx_types.specs.TypeRules.{times_of}
use Rattle.gx_types.specs.Laws.{Allows}
use Rattle.gx_types.proofs.EqualNames.{type_name_itself}
use Rattle.gx_atomic.specs.declared.casting.CastError.{CastError}
use Rattle.gx_atomic.specs.Cast.{cast_of}
use Rattle.gx_atomic.specs.Fit.{FitsKind}
use Rattle.gx_atomic.proofs.PublicLaws.{casts_fit_their_target, casts_fail_with_codes}
use Rattle.gx_model.specs.Forest.{Forest}
use Rattle.gx_model.specs.Honest.{IsHonest}
use Rattle.gx_model.specs.Item.{Item, atom, Items}
use Rattle.gx_model.specs.Belongs.{ValueFits}
use Rattle.gx_core.specs.declared.operator.Operator.TheVariants as operators
use Rattle.gx_core.specs.Outcome.{raises, given}
use Rattle.gx_core.specs.Casting.{cast_outcome, cast_items, castable_items}
use Rattle.gx_core.specs.Soundness.{typed_setting, IsOfType, Keeps}
use Rattle.gx_core.proofs.KeptFacts.{fact_at_once}
use Rattle.gx_static.specs.Rule.{atomic, all_items, is_atomic, is_at_most_one, is_at_least_one}
use Rattle.gx_static.specs.Laws.{CastKeepsType, CastableKeepsType}
use Rattle.gx_static.proofs.ItemLemmas.{EachItem, IsAtom, items_are_atoms, belongs_within, at_most_one, at_least_one}
use Rattle.gx_static.proofs.Comparisons.{truth_keeps}
use Rattle.gx_static.proofs.Keeping.{type_so, single_keeps}
use Rattle.gx_static.proofs.Singles.{nothing_belongs, atom_belongs}

pub fits_so : (s : SchemaSet) (v : AtomValue) (kind : TypeName) → FitsKind s v kind → ValueFits s v kind
fits_so s (Untyped t) kind h = h
fits_so s (Str t) kind h = h
fits_so s (Truth b) kind h = h
fits_so s (Num (Int i)) kind h = h
fits_so s (Num (Dec u)) kind h = h

outcome_keeps : (s : SchemaSet) (forest : Forest) (kind : TypeName) (a : Atomic) (o : Occurs) (cast : Result Atomic CastError) → IsHonest s forest → Allows o 1 → cast_of s a kind ≡ cast
    → Keeps (typed_setting s) forest (times_of (item (items.Atom kind)) o) (cast_outcome cast forest)
outcome_keeps s forest kind a o (Ok b) honest w e =
    let f = casts_fit_their_target s a b kind e in
    fact_at_once (typed_setting s) forest (IsOfType s (times_of (item (items.Atom kind)) o)) (atom b ∷ []) honest
    (atom_belongs s forest kind o b (fits_so s b.value b.kind f.1) (subst (λ (k : TypeName). DerivesFrom s k kind) (sym f.0) (0, type_name_itself kind)) w)
outcome_keeps s forest kind a o (Err error) honest w e =
    let c = casts_fail_with_codes s a kind error e in
    subst (λ (found : Option Code). Keeps (typed_setting s) forest (times_of (item (items.Atom kind)) o) (given found (λ code. raises code))) (sym c.1) tt

items_keep : (s : SchemaSet) (forest : Forest) (kind : TypeName) (allows_empty : Bool) (o : Occurs) (xs : Items) → IsHonest s forest → Allows o (length xs) → length xs ≤ 1 → EachItem IsAtom xs → (allows_empty ≡ false → 1 ≤ length xs)
    → Keeps (typed_setting s) forest (times_of (item (items.Atom kind)) o) (cast_items s kind allows_empty xs forest)
items_keep s forest kind true o [] honest w l h k = fact_at_once (typed_setting s) forest (IsOfType s (times_of (item (items.Atom kind)) o)) [] honest (nothing_belongs s forest (item (items.Atom kind)) o w)
items_keep s forest kind false o [] honest w l h k = absurd (omega (arith, k refl))
items_keep s forest kind allows_empty o (x ∷ []) honest w l h k =
    subst (λ (y : Item). Keeps (typed_setting s) forest (times_of (item (items.Atom kind)) o) (cast_items s kind allows_empty (y ∷ []) forest)) (sym h.0.1)
    (outcome_keeps s forest kind h.0.0 o (cast_of s h.0.0 kind) honest w refl)
items_keep s forest kind allows_empty o (x ∷ y ∷ xs) honest w l h k = absurd (omega (arith, l))

pub cast_keeps : CastKeepsType
cast_keeps s kind allows_empty = single_keeps s (operators.Cast kind allows_empty) (λ a t forest xs e honest h.
    let r = type_so ((allows_empty || is_at_least_one a) && is_at_most_one a && all_items is_atomic a) (times_of (item (items.Atom kind)) (occurrence_of a)) t e in
    let p = and_parts ((allows_empty || is_at_least_one a) && is_at_most_one a) (all_items is_atomic a) r.0 in
    let q = and_parts (allows_empty || is_at_least_one a) (is_at_most_one a) p.0 in
    let v = belongs_within s forest a xs h in
    let g = at_most_one (occurrence_of a).greatest q.1 in
    let l = v.greatest (omega (arith, g)) in
    subst (λ (u : SequenceType). Keeps (typed_setting s) forest u (cast_items s kind allows_empty xs forest)) r.1
    (items_keep s forest kind allows_empty (occurrence_of a) xs honest v (omega (arith, l, g)) (items_are_atoms s forest xs a p.1 h) (not_empty allows_empty a xs q.0 v)))
    (λ t e. cc) (λ a b t ps e. cc)
  where
    not_empty : (allowed : Bool) (a : SequenceType) (xs : Items) → (allowed || is_at_least_one a) ≡ true → Allows (occurrence_of a) (length xs) → allowed ≡ false → 1 ≤ length xs
    not_empty true a xs e w f = absurd (cc)
    not_empty false a xs e w f = let low = at_least_one (occurrence_of a).least e in omega (arith, low, w.least)

castable_keep : (s : SchemaSet) (forest : Forest) (kind : TypeName) (allows_empty : Bool) (xs : Items) → IsHonest s forest → length xs ≤ 1 → EachItem IsAtom xs
    → Keeps (typed_setting s) forest (atomic Boolean) (castable_items s kind allows_empty xs forest)
castable_keep s forest kind allows_empty [] honest l h = truth_keeps s forest allows_empty honest
castable_keep s forest kind allows_empty (x ∷ []) honest l h =
    subst (λ (y : Item). Keeps (typed_setting s) forest (atomic Boolean) (castable_items s kind allows_empty (y ∷ []) forest)) (sym h.0.1)
    (truth_keeps s forest (is_ok (cast_of s h.0.0 kind)) honest)
castable_keep s forest kind allows_empty (x ∷ y ∷ xs) honest l h = absurd (omega (arith, l))

pub castable_keeps : CastableKeepsType
castable_keeps s kind allows_empty = single_keeps s (operators.Castable kind allows_empty) (λ a t forest xs e honest h.
    let r = type_so (is_at_most_one a && all_items is_atomic a) (atomic Boolean) t e in
    let q = and_parts (is_at_most_one a) (all_items is_atomic a) r.0 in
    let g = at_most_one (occurrence_of a).greatest q.0 in
    let l = (belongs_within s forest a xs h).greatest (omega (arith, g)) in
    subst (λ (u : SequenceType). Keeps (typed_setting s) forest u (castable_items s kind allows_empty xs forest)) r.1
    (castable_keep s forest kind allows_empty xs honest (omega (arith, l, g)) (items_are_atoms s forest xs a q.1 h)))
    (λ t e. cc) (λ a b t ps e. cc)
