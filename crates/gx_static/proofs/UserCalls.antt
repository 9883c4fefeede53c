-- Calls of declared functions keep their types.
use Rattle.std.proofs.Common.{◌≡◌, ℕ, ◌+◌, Bool, true, false, List, [], ◌∷◌, ◌++◌, Option, None, Some, inl, inr, ◌⊎◌, refl, sym, ◌∙◌, ap, subst, if◌then◌else◌, Result, Ok, Err}
use Rattle.std.specs.Prelude.{not, ◌&&◌}
use Rattle.gx_base.specs.declared.code.Code.{Code}
use Rattle.gx_base.specs.declared.code.Code.TheVariants.{XPTY0004}
use Rattle.gx_base.specs.declared.type_name.Builtin.TheVariants.{AnyAtomic, UntypedAtomic, Str, Boolean, Decimal, Integer}
use Rattle.gx_base.specs.declared.type_name.TypeName.{TypeName}
use Rattle.gx_base.specs.declared.type_name.TypeName.TheVariants as names
use Rattle.gx_num.specs.declared.Number.TheVariants.{Int, Dec}
use Rattle.gx_facets.specs.declared.Atomic.{Atomic}
use Rattle.gx_facets.specs.declared.AtomValue.{AtomValue}
use Rattle.gx_facets.specs.declared.AtomValue.TheVariants as values
use Rattle.gx_types.specs.declared.item_type.ItemType.{ItemType}
use Rattle.gx_types.specs.declared.item_type.ItemType.TheVariants as items
use Rattle.gx_types.specs.declared.shape.Shape.{Shape}
use Rattle.gx_types.specs.declared.shape.Shape.TheVariants as shapes
use Rattle.gx_types.specs.SameItemType.{same_type_name}
use Rattle.gx_types.specs.SchemaSet.{SchemaSet}
use Rattle.gx_types.specs.SchemaInvariant.{IsSchemaSet}
use Rattle.gx_types.specs.Derivation.{bases_of, DerivesFrom}
use Rattle.gx_types.specs.Grounded.{Grounded}
use Rattle.gx_types.specs.SequenceType.{SequenceType, never, nothing, item, both, either, optional, star, plus}
use Rattle.gx_types.proofs.EqualNames.{type_name_itself, builtins_are_one}
use Rattle.gx_types.proofs.PublicLaws.{equality_is_an_equivalence}
use Rattle.gx_types.proofs.DerivationLemmas.{from_base}
use Rattle.gx_types.proofs.DerivationOrder.{derivation_is_a_preorder}
use Rattle.gx_type_laws.specs.Kept.{HoldsOfItems}
use Rattle.gx_include.specs.Decision.{is_included}
use Rattle.gx_atomic.specs.declared.casting.CastError.{CastError}
use Rattle.gx_atomic.specs.Cast.{cast_of}
use Rattle.gx_atomic.proofs.PublicLaws.{casts_fit_their_target, casts_fail_with_codes}
use Rattle.gx_steptype.specs.Replaced.{replaced_items}
use Rattle.gx_steptype.proofs.DataTypes.{data_keeps_its_type}
use Rattle.gx_steptype.proofs.GivenLists.{Given, ServesGiven, given_takes}
use Rattle.gx_model.specs.Forest.{Forest}
use Rattle.gx_model.specs.Growth.{Extends}
use Rattle.gx_model.specs.Honest.{IsHonest}
use Rattle.gx_model.specs.Item.{Item, atom, Items, atoms}
use Rattle.gx_model.specs.Belongs.{item_shape, ValueFits, ItemFits, HaveShapes, Belongs}
use Rattle.gx_model.proofs.PublicLaws.{growth_is_an_order, values_stay}
use Rattle.gx_core.specs.declared.operator.Operator.TheVariants as operators
use Rattle.gx_core.specs.Expression.{each_of, annotation_of}
use Rattle.gx_core.specs.Casting.{cast_outcome}
use Rattle.gx_core.specs.Converting.{expected_atomic, is_untyped, is_any_atomic_type, item_converted, items_converted, converted_to, converted, arguments_converted}
use Rattle.gx_core.specs.Outcome.{Outcome, gives, raises, wrong, after, given}
use Rattle.gx_core.specs.Meaning.{acts, all_of, meanings}
use Rattle.gx_core.specs.Soundness.{Setting, typed_setting, calling_setting, context_of, IsOfType, AreOfTypes, KeepsFact, Keeps}
use Rattle.gx_core.proofs.KeptFacts.{fact_after, fact_at_once, operands_keep}
use Rattle.gx_static.specs.Rule.{Ruling, has_type, has_none, if_taken, cast_item, untyped_cast, cast_ruling, converted_ruling, converted_type, converted_arguments_rule, data_rule}
use Rattle.gx_static.specs.Laws.{UserCallKeepsType, ConvertedValuesBelong}
use Rattle.gx_static.proofs.AtomicTypes.{IsAtomic, untyped_is_atomic, nameable_is_atomic}
use Rattle.gx_static.proofs.Casts.{fits_so}
use Rattle.gx_static.proofs.ConstructorTypes.{atomized_are_atoms}
use Rattle.gx_static.proofs.HonestValues.{included_belongs}
use Rattle.gx_static.proofs.Keeping.{ruled, value_keeps, keeps_with_calls, parts_all_keep}
use Rattle.gx_static.proofs.LiteralLemmas.{from_untyped_is_no_boolean, from_untyped_is_no_number, from_untyped_is_no_string, integer_is_a_number}
use Rattle.gx_static.proofs.Loops.{fact_so}
use Rattle.gx_static.proofs.TextCalls.{atomized_type}

-- ---- the type of a value that was cast

-- the type of a value is atomic
value_is_atomic : (s : SchemaSet) (v : AtomValue) (kind : TypeName) → ValueFits s v kind → IsAtomic s kind
value_is_atomic s (values.Untyped t) kind f = subst (λ (k : TypeName). IsAtomic s k) (sym f) (untyped_is_atomic s)
value_is_atomic s (values.Str t) kind f = derivation_is_a_preorder.transitive s kind (names.Builtin Str) (names.Builtin AnyAtomic) f (nameable_is_atomic s Str refl)
value_is_atomic s (values.Truth b) kind f = derivation_is_a_preorder.transitive s kind (names.Builtin Boolean) (names.Builtin AnyAtomic) f (nameable_is_atomic s Boolean refl)
value_is_atomic s (values.Num (Int i)) kind f = derivation_is_a_preorder.transitive s kind (names.Builtin Integer) (names.Builtin AnyAtomic) f (nameable_is_atomic s Integer refl)
value_is_atomic s (values.Num (Dec d)) kind f = derivation_is_a_preorder.transitive s kind (names.Builtin Decimal) (names.Builtin AnyAtomic) f.0 (nameable_is_atomic s Decimal refl)

-- a type that equals xs:untypedAtomic
untyped_name : (t : TypeName) → same_type_name t (names.Builtin UntypedAtomic) ≡ true → t ≡ names.Builtin UntypedAtomic
untyped_name (names.Builtin b) e = ap names.Builtin (builtins_are_one b UntypedAtomic e)
untyped_name (names.Named n) e = absurd (cc)
untyped_name (names.Anonymous n) e = absurd (cc)

untyped_kind : (s : SchemaSet) (v : AtomValue) (kind : TypeName) → is_untyped v ≡ true → ValueFits s v kind → kind ≡ names.Builtin UntypedAtomic
untyped_kind s (values.Untyped t) kind e f = f
untyped_kind s (values.Str t) kind e f = absurd (cc)
untyped_kind s (values.Truth b) kind e f = absurd (cc)
untyped_kind s (values.Num n) kind e f = absurd (cc)

typed_kind : (s : SchemaSet) (v : AtomValue) (kind : TypeName) → is_untyped v ≡ false → ValueFits s v kind → DerivesFrom s kind (names.Builtin UntypedAtomic) → ⊥
typed_kind s (values.Untyped t) kind e f d = absurd (cc)
typed_kind s (values.Str t) kind e f d = from_untyped_is_no_string s kind d f
typed_kind s (values.Truth b) kind e f d = from_untyped_is_no_boolean s kind d f
typed_kind s (values.Num n) kind e f d = from_untyped_is_no_number s kind d (integer_is_a_number s n kind f)

-- the type of a value behind a cast: the target where it was untyped, and else as it was
abbrev BecomesType : SchemaSet → (target own now : TypeName) → Type 0
BecomesType s target own now =
    ((own ≡ names.Builtin UntypedAtomic) × (now ≡ target) × IsAtomic s target)
    ⊎ ((DerivesFrom s own (names.Builtin UntypedAtomic) → ⊥) × (now ≡ own))

abbrev Becomes : SchemaSet → TypeName → Shape → List Shape → Type 0
Becomes s target (shapes.Atom own) out = (now : TypeName) × (out ≡ shapes.Atom now ∷ []) × BecomesType s target own now
Becomes s target _ out = ⊥

-- what is derived from xs:untypedAtomic and another type, which all atomic values are of
above_untyped : (s : SchemaSet) (target t : TypeName) → same_type_name t (names.Builtin UntypedAtomic) ≡ false → DerivesFrom s (names.Builtin UntypedAtomic) t → IsAtomic s target → DerivesFrom s target t
above_untyped s target t e d atomic =
    derivation_is_a_preorder.transitive s target (names.Builtin AnyAtomic) t atomic
    (from_base (bases_of s) (names.Builtin UntypedAtomic) t (names.Builtin AnyAtomic) (equality_is_an_equivalence.type_names.symm (names.Builtin UntypedAtomic) t ∙ e) refl d)

atom_serves : (s : SchemaSet) (target t own now : TypeName) (test : Bool) → same_type_name t (names.Builtin UntypedAtomic) ≡ test → DerivesFrom s own t → BecomesType s target own now
    → DerivesFrom s now (if test then target else t)
atom_serves s target t own now true e d (inl b) = subst (λ (k : TypeName). DerivesFrom s k target) (sym b.1) (0, type_name_itself target)
atom_serves s target t own now false e d (inl b) =
    subst (λ (k : TypeName). DerivesFrom s k t) (sym b.1) (above_untyped s target t e (subst (λ (k : TypeName). DerivesFrom s k t) b.0 d) b.2)
atom_serves s target t own now true e d (inr b) = absurd (b.0 (subst (λ (k : TypeName). DerivesFrom s own k) (untyped_name t e) d))
atom_serves s target t own now false e d (inr b) = subst (λ (k : TypeName). DerivesFrom s k t) (sym b.1) d

cast_serves : (s : SchemaSet) (target : TypeName) (kind : ItemType) → ServesGiven s (Becomes s target) (cast_item target) kind
cast_serves s target (items.Atom t) (shapes.Atom own) out took g =
    (shapes.Atom g.0, g.1, atom_serves s target t own g.0 (same_type_name t (names.Builtin UntypedAtomic)) refl took g.2)
cast_serves s target kind (shapes.Elem n t) out took g = absurd g
cast_serves s target kind (shapes.Attr n t) out took g = absurd g
cast_serves s target kind shapes.Text out took g = absurd g
cast_serves s target kind (shapes.Doc c) out took g = absurd g
cast_serves s target (items.Element n t) (shapes.Atom own) out took g = absurd took
cast_serves s target (items.Attribute n t) (shapes.Atom own) out took g = absurd took
cast_serves s target items.Text (shapes.Atom own) out took g = absurd took
cast_serves s target (items.Document None) (shapes.Atom own) out took g = absurd took
cast_serves s target (items.Document (Some e)) (shapes.Atom own) out took g = absurd took

all_serve : (s : SchemaSet) (target : TypeName) (t : SequenceType) → HoldsOfItems (ServesGiven s (Becomes s target) (cast_item target)) t
all_serve s target never = tt
all_serve s target nothing = tt
all_serve s target (item kind) = cast_serves s target kind
all_serve s target (both a b) = (all_serve s target a, all_serve s target b)
all_serve s target (either a b) = (all_serve s target a, all_serve s target b)
all_serve s target (optional a) = all_serve s target a
all_serve s target (star a) = all_serve s target a
all_serve s target (plus a) = all_serve s target a

-- ---- the values

record IsCast (s : SchemaSet) (target : TypeName) (own : Atomic) (y : Item) : Type 0 where
  now : Atomic
  is : y ≡ atom now
  fits : ValueFits s now.value now.kind
  becomes : BecomesType s target own.kind now.kind

-- one item, and all items
abbrev OneCast : SchemaSet → TypeName → Atomic → Forest → Items → Type 0
OneCast s target own forest ys = (y : Item) × (ys ≡ y ∷ []) × IsCast s target own y

abbrev AreCast : SchemaSet → TypeName → List Atomic → Items → Type 0
AreCast s target [] [] = Unit {0}
AreCast s target (own ∷ others) (y ∷ ys) = IsCast s target own y × AreCast s target others ys
AreCast s target [] (y ∷ ys) = ⊥
AreCast s target (own ∷ others) [] = ⊥

abbrev AllCast : SchemaSet → TypeName → List Atomic → Forest → Items → Type 0
AllCast s target own forest ys = AreCast s target own ys

cast_result_keeps : (s : SchemaSet) (target : TypeName) (a : Atomic) (forest : Forest) (cast : Result Atomic CastError) → IsHonest s forest → ValueFits s a.value a.kind → is_untyped a.value ≡ true
    → cast_of s a target ≡ cast → KeepsFact (typed_setting s) forest (OneCast s target a) (cast_outcome cast forest)
cast_result_keeps s target a forest (Ok b) honest fits untyped e =
    let f = casts_fit_their_target s a b target e in
    let now_fits = fits_so s b.value b.kind f.1 in
    fact_at_once (typed_setting s) forest (OneCast s target a) (atom b ∷ []) honest (
      atom b,
      refl,
      record {
        now = b;
        is = refl;
        fits = now_fits;
        becomes = inl (untyped_kind s a.value a.kind untyped fits, f.0, subst (λ (k : TypeName). IsAtomic s k) f.0 (value_is_atomic s b.value b.kind now_fits));
      },
    )
cast_result_keeps s target a forest (Err error) honest fits untyped e =
    let c = casts_fail_with_codes s a target error e in
    subst (λ (found : Option Code). KeepsFact (typed_setting s) forest (OneCast s target a) (given found (λ code. raises code))) (sym c.1) tt

one_keeps : (s : SchemaSet) (target : TypeName) (a : Atomic) (forest : Forest) → IsHonest s forest → ValueFits s a.value a.kind → is_any_atomic_type target ≡ false
    → KeepsFact (typed_setting s) forest (OneCast s target a) (item_converted s target (atom a) forest)
one_keeps s target a forest honest fits e =
    elim (is_untyped a.value) as (λ (untyped : Bool). is_untyped a.value ≡ untyped
    → KeepsFact (typed_setting s) forest (OneCast s target a) (if untyped && not (is_any_atomic_type target) then cast_outcome (cast_of s a target) forest else gives (atom a ∷ []) forest)) [
      | true ↦ λ untyped. subst (λ (any : Bool). KeepsFact (typed_setting s) forest (OneCast s target a) (if not any then cast_outcome (cast_of s a target) forest else gives (atom a ∷ []) forest)) (sym e)
          (cast_result_keeps s target a forest (cast_of s a target) honest fits untyped refl)
      | false ↦ λ typed. fact_at_once (typed_setting s) forest (OneCast s target a) (atom a ∷ []) honest
          (atom a, refl, record { now = a; is = refl; fits = fits; becomes = inr (typed_kind s a.value a.kind typed fits, refl) })
    ] refl

all_keep : (s : SchemaSet) (target : TypeName) → is_any_atomic_type target ≡ false → (own : List Atomic) (forest now : Forest) (ss : List Shape) → HaveShapes s forest (atoms own) ss → IsHonest s now
    → KeepsFact (typed_setting s) now (AllCast s target own) (items_converted s target (atoms own) now)
all_keep s target e [] forest now ss h honest = fact_at_once (typed_setting s) now (AllCast s target []) [] honest tt
all_keep s target e (a ∷ own) forest now [] h honest = absurd h
all_keep s target e (a ∷ own) forest now (shape ∷ ss) h honest =
    fact_after (typed_setting s) now (OneCast s target a) (AllCast s target (a ∷ own)) (item_converted s target (atom a) now)
    (λ ys left. after (items_converted s target (atoms own) left) (λ zs last. gives (ys ++ zs) last)) (one_keeps s target a now honest h.1 e)
    (λ ys left grown still one. fact_after (typed_setting s) left (AllCast s target own) (AllCast s target (a ∷ own)) (items_converted s target (atoms own) left) (λ zs last. gives (ys ++ zs) last)
    (all_keep s target e own forest left ss h.2 still)
    (λ zs last more again rest. fact_at_once (typed_setting s) last (AllCast s target (a ∷ own)) (ys ++ zs) again
    (subst (λ (front : Items). AreCast s target (a ∷ own) (front ++ zs)) (sym one.1) (one.2, rest))))

-- what was cast has shapes that the type of what is cast takes
record HaveBecome (s : SchemaSet) (target : TypeName) (now : Forest) (ss : List Shape) (ys : Items) : Type 0 where
  seen : List Shape
  shaped : HaveShapes s now ys seen
  given : Given (Becomes s target) ss seen

have_become : (s : SchemaSet) (target : TypeName) (own : List Atomic) (ys : Items) (forest now : Forest) (ss : List Shape) → HaveShapes s forest (atoms own) ss → AreCast s target own ys
    → HaveBecome s target now ss ys
have_become s target [] [] forest now [] h c = record { seen = []; shaped = tt; given = refl }
have_become s target [] [] forest now (shape ∷ ss) h c = absurd h
have_become s target [] (y ∷ ys) forest now ss h c = absurd c
have_become s target (a ∷ own) [] forest now ss h c = absurd c
have_become s target (a ∷ own) (y ∷ ys) forest now [] h c = absurd h
have_become s target (a ∷ own) (y ∷ ys) forest now (shape ∷ ss) h c =
    let rest = have_become s target own ys forest now ss h.2 c.1 in
    let same : shapes.Atom a.kind ≡ shape = cc in
    let one : Becomes s target (shapes.Atom a.kind) (shapes.Atom c.0.now.kind ∷ []) = (c.0.now.kind, refl, c.0.becomes) in
    record {
      seen = shapes.Atom c.0.now.kind ∷ rest.seen;
      shaped = (ap (λ (x : Item). item_shape now x) c.0.is, subst (ItemFits s) (sym c.0.is) c.0.fits, rest.shaped);
      given = (shapes.Atom c.0.now.kind ∷ [], rest.seen, refl, subst (λ (x : Shape). Becomes s target x (shapes.Atom c.0.now.kind ∷ [])) same one, rest.given);
    }

-- ---- a value, converted

-- where all atomic values are expected, none is cast
untouched : (s : SchemaSet) (target : TypeName) (own : List Atomic) (forest : Forest) → is_any_atomic_type target ≡ true → items_converted s target (atoms own) forest ≡ gives (atoms own) forest
untouched s target [] forest e = refl
untouched s target (a ∷ own) forest e =
    let one : item_converted s target (atom a) forest ≡ gives (atom a ∷ []) forest =
    elim (is_untyped a.value) as (λ (untyped : Bool). (if untyped && not (is_any_atomic_type target) then cast_outcome (cast_of s a target) forest else gives (atom a ∷ []) forest) ≡ gives (atom a ∷ []) forest) [
      | true ↦ ap (λ (any : Bool). if not any then cast_outcome (cast_of s a target) forest else gives (atom a ∷ []) forest) e
      | false ↦ refl
    ] in
    ap (λ (o : Outcome Items). after o (λ ys left. after (items_converted s target (atoms own) left) (λ zs last. gives (ys ++ zs) last))) one
    ∙ ap (λ (o : Outcome Items). after o (λ zs last. gives (atom a ∷ zs) last)) (untouched s target own forest e)

atoms_keep : (s : SchemaSet) (target : TypeName) (t : SequenceType) (own : List Atomic) (forest : Forest) (any : Bool) → is_any_atomic_type target ≡ any → IsHonest s forest → Belongs s forest (atoms own) t
    → Keeps (typed_setting s) forest (if any then t else replaced_items (cast_item target) t) (items_converted s target (atoms own) forest)
atoms_keep s target t own forest true e honest b =
    subst (λ (o : Outcome Items). Keeps (typed_setting s) forest t o) (sym (untouched s target own forest e)) (fact_at_once (typed_setting s) forest (IsOfType s t) (atoms own) honest b)
atoms_keep s target t own forest false e honest b =
    fact_so (typed_setting s) forest (AllCast s target own) (IsOfType s (replaced_items (cast_item target) t)) (items_converted s target (atoms own) forest)
    (λ now ys c. let h = have_become s target own ys forest now b.seen b.shaped c in record {
      seen = h.seen;
      shaped = h.shaped;
      taken = given_takes s (Becomes s target) (cast_item target) t (all_serve s target t) b.seen h.seen h.given b.taken;
    })
    (all_keep s target e own forest forest b.seen b.shaped honest)

cast_ruled : (target : TypeName) (r : Ruling) (u : SequenceType) → cast_ruling target r ≡ has_type u → (t : SequenceType) × (r ≡ has_type t) × (untyped_cast target t ≡ u)
cast_ruled target (has_type t) u e = (t, refl, ruled (untyped_cast target t) u e)
cast_ruled target (has_none code part) u e = absurd (cc)

pub converted_keeps : (s : SchemaSet) → IsSchemaSet s → (o : Option TypeName) (given seen : SequenceType) (forest : Forest) (xs : Items) → IsHonest s forest → converted_ruling s o given ≡ has_type seen
    → Belongs s forest xs given → Keeps (typed_setting s) forest seen (converted_to o s xs forest)
converted_keeps s is None a u forest xs honest e b = value_keeps s a u forest xs (ruled a u e) honest b
converted_keeps s is (Some target) a u forest xs honest e b =
    let r = cast_ruled target (data_rule s a) u e in
    let d = atomized_type s a r.0 r.1 in
    let v = data_keeps_its_type s forest xs a is honest d.0 b in
    let all = atomized_are_atoms s forest xs v.values v.are in
    let of_type : Belongs s forest (atoms all.values) r.0 =
    subst (λ (ys : Items). Belongs s forest ys r.0) all.are (subst (λ (t : SequenceType). Belongs s forest v.values t) d.1 v.belong) in
    subst (λ (found : Option Items). Keeps (typed_setting s) forest u (given found (λ ys. items_converted s target ys forest))) (sym (v.are ∙ ap (λ (ys : Items). Some ys) all.are))
    (subst (λ (t : SequenceType). Keeps (typed_setting s) forest t (items_converted s target (atoms all.values) forest)) r.2
    (atoms_keep s target r.0 all.values forest (is_any_atomic_type target) refl honest of_type))

included_keeps : (s : SchemaSet) (forest : Forest) (t u : SequenceType) (o : Outcome Items) → Grounded (bases_of s) → is_included s t u ≡ true → Keeps (typed_setting s) forest t o → Keeps (typed_setting s) forest u o
included_keeps s forest t u (gives xs now) g e k = record { grown = k.grown; honest = k.honest; fact = included_belongs s now xs t u g k.honest e k.fact }
included_keeps s forest t u (raises code) g e k = tt
included_keeps s forest t u wrong g e k = absurd k

pub converted_values_belong : ConvertedValuesBelong
unfolding converted_type
converted_values_belong s expected a u forest xs is honest e i b =
    included_keeps s forest u expected (converted s expected xs forest) is.grounded i (converted_keeps s is (expected_atomic expected) a u forest xs honest e b)

-- ---- arguments

-- an argument that is seen as of a type which is included in that of its parameter
record IsConverted (s : SchemaSet) (expected argument : SequenceType) : Type 0 where
  seen : SequenceType
  as_seen : converted_type s expected argument ≡ has_type seen
  included : is_included s seen expected ≡ true

abbrev AreConverted : SchemaSet → List SequenceType → List SequenceType → Type 0
AreConverted s [] [] = Unit {0}
AreConverted s (expected ∷ others) (argument ∷ arguments) = IsConverted s expected argument × AreConverted s others arguments
AreConverted s [] (argument ∷ arguments) = ⊥
AreConverted s (expected ∷ others) [] = ⊥

passed : (test : Bool) (next refused : Ruling) (code : Code) (part : Option ℕ) (t : SequenceType) → refused ≡ has_none code part → (if test then next else refused) ≡ has_type t → (test ≡ true) × (next ≡ has_type t)
passed true next refused code part t r e = (refl, e)
passed false next refused code part t r e = absurd (cc)

one_converted : (s : SchemaSet) (expected argument : SequenceType) (number : ℕ) (next r : Ruling) (t : SequenceType) → converted_type s expected argument ≡ r
    → if_taken (λ u. is_included s u expected) XPTY0004 number next r ≡ has_type t → IsConverted s expected argument × (next ≡ has_type t)
one_converted s expected argument number next (has_type u) t c e =
    let p = passed (is_included s u expected) next (has_none XPTY0004 (Some number)) XPTY0004 (Some number) t refl e in
    (record { seen = u; as_seen = c; included = p.0 }, p.1)
one_converted s expected argument number next (has_none code part) t c e = absurd (cc)

all_converted : (s : SchemaSet) (parameters arguments : List SequenceType) (number : ℕ) (result t : SequenceType) → converted_arguments_rule s parameters arguments number (has_type result) ≡ has_type t
    → AreConverted s parameters arguments × (result ≡ t)
all_converted s [] [] number result t e = (tt, ruled result t e)
all_converted s [] (a ∷ arguments) number result t e = absurd (cc)
all_converted s (p ∷ parameters) [] number result t e = absurd (cc)
all_converted s (p ∷ parameters) (a ∷ arguments) number result t e =
    let one = one_converted s p a number (converted_arguments_rule s parameters arguments (number + 1) (has_type result)) (converted_type s p a) t refl e in
    let rest = all_converted s parameters arguments (number + 1) result t one.1 in
    ((one.0, rest.0), rest.1)

-- a parameter without an argument
pub too_few_arguments : (s : SchemaSet) (parameters : List SequenceType) (number : ℕ) (ruling : Ruling) → (parameters ≡ [] → ⊥) → converted_arguments_rule s parameters [] number ruling ≡ has_none XPTY0004 None
too_few_arguments s [] number ruling some = absurd (some refl)
too_few_arguments s (p ∷ parameters) number ruling some = refl

arguments_keep : (s : SchemaSet) → IsSchemaSet s → (parameters arguments : List SequenceType) (values : List Items) (before forest : Forest) → AreConverted s parameters arguments → Extends before forest
    → IsHonest s forest → AreOfTypes s arguments before values → KeepsFact (typed_setting s) forest (AreOfTypes s parameters) (arguments_converted s parameters values forest)
arguments_keep s is [] [] [] before forest c grown honest b = fact_at_once (typed_setting s) forest (AreOfTypes s []) [] honest tt
arguments_keep s is [] [] (xs ∷ values) before forest c grown honest b = absurd b
arguments_keep s is [] (a ∷ arguments) values before forest c grown honest b = absurd c
arguments_keep s is (p ∷ parameters) [] values before forest c grown honest b = absurd c
arguments_keep s is (p ∷ parameters) (a ∷ arguments) [] before forest c grown honest b = absurd b
arguments_keep s is (p ∷ parameters) (a ∷ arguments) (xs ∷ values) before forest c grown honest b =
    fact_after (typed_setting s) forest (IsOfType s p) (AreOfTypes s (p ∷ parameters)) (converted s p xs forest)
    (λ ys left. after (arguments_converted s parameters values left) (λ zs last. gives (ys ∷ zs) last))
    (converted_values_belong s p a c.0.seen forest xs is honest c.0.as_seen c.0.included (values_stay s before forest xs a grown b.0))
    (λ ys left more still one. fact_after (typed_setting s) left (AreOfTypes s parameters) (AreOfTypes s (p ∷ parameters)) (arguments_converted s parameters values left) (λ zs last. gives (ys ∷ zs) last)
    (arguments_keep s is parameters arguments values before left c.1 (growth_is_an_order.transitive before forest left grown more) still b.1)
    (λ zs last further again rest. fact_at_once (typed_setting s) last (AreOfTypes s (p ∷ parameters)) (ys ∷ zs) again (values_stay s left last ys p further one, rest)))

-- ---- the law

pub user_keeps : UserCallKeepsType
user_keeps s signature count is known calls parts types place outer t e known_call h situation =
    let setting : Setting = calling_setting s known calls in
    let k = context_of setting in
    let ts : List SequenceType = each_of annotation_of parts in
    let r = all_converted s signature.parameters ts 0 signature.result t e in
    fact_after setting situation.forest (AreOfTypes s ts) (IsOfType s t) (all_of (meanings k parts) situation.bindings situation.forest) (acts k (operators.User signature count))
    (operands_keep setting types (meanings k parts) ts situation (parts_all_keep s known calls (operators.User signature count) (λ before. refl) [] parts types h))
    (λ values now grown honest belong.
    fact_after setting now (AreOfTypes s signature.parameters) (IsOfType s t) (arguments_converted s signature.parameters values now) (λ arguments left. calls signature arguments left)
    (keeps_with_calls s known calls now (AreOfTypes s signature.parameters) (arguments_converted s signature.parameters values now)
    (arguments_keep s is signature.parameters ts values now now r.0 (growth_is_an_order.reflexive now) honest belong))
    (λ arguments last more still are. subst (λ (u : SequenceType). Keeps setting last u (calls signature arguments last)) r.1
    (situation.calls_keep last signature arguments known_call.0 (growth_is_an_order.transitive situation.forest now last grown more) still are)))
