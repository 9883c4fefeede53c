-- What a type takes where each item type is replaced, and each shape gives some list.
use Rattle.std.proofs.Common.{◌≡◌, List, [], ◌∷◌, ◌++◌, append_assoc, inl, inr, refl, sym, ◌∙◌, ap, subst}
use Rattle.gx_types.specs.declared.item_type.ItemType.{ItemType}
use Rattle.gx_types.specs.declared.shape.Shape.{Shape}
use Rattle.gx_types.specs.SchemaSet.{SchemaSet}
use Rattle.gx_types.specs.SequenceType.{SequenceType, never, nothing, item, both, either, optional, star, plus}
use Rattle.gx_types.specs.ItemTakes.{ItemTakes}
use Rattle.gx_types.specs.Takes.{Takes, Each, SomeTakes, all_joined}
use Rattle.gx_types.proofs.PublicLaws.{joined_types_are_a_sequence, choice_takes_some, indicators_are_exact}
use Rattle.gx_type_laws.specs.Kept.{HoldsOfItems}
use Rattle.gx_steptype.specs.Replaced.{replaced_items, alternatives}
use Rattle.gx_steptype.proofs.Replacing.{append_nil, some_first, some_second}

-- the lists that the shapes of a list give, one behind another
abbrev pub Given : (Shape → List Shape → Type 0) → List Shape → List Shape → Type 0
Given G [] out = out ≡ []
Given G (x ∷ xs) out = (front rest : List Shape) × (out ≡ front ++ rest) × G x front × Given G xs rest

-- what stands for an item type takes what each shape gives that the item type takes
abbrev pub ServesGiven : SchemaSet → (Shape → List Shape → Type 0) → (ItemType → SequenceType) → ItemType → Type 0
ServesGiven s G f kind = (x : Shape) (out : List Shape) → ItemTakes s kind x → G x out → Takes s (f kind) out

-- what two lists give
record GivenTwo (G : Shape → List Shape → Type 0) (xs ys out : List Shape) : Type 0 where
  first : List Shape
  second : List Shape
  is : out ≡ first ++ second
  by_first : Given G xs first
  by_second : Given G ys second

given_splits : (G : Shape → List Shape → Type 0) (xs ys out : List Shape) → Given G (xs ++ ys) out → GivenTwo G xs ys out
given_splits G [] ys out h = record { first = []; second = out; is = refl; by_first = refl; by_second = h }
given_splits G (x ∷ xs) ys out (front, rest, e, g, h) =
    let r = given_splits G xs ys rest h in record {
      first = front ++ r.first;
      second = r.second;
      is = e ∙ ap (λ l. front ++ l) r.is ∙ sym (append_assoc front r.first r.second);
      by_first = (front, r.first, refl, g, r.by_first);
      by_second = r.by_second;
    }

-- what the lists of a list give
record GivenParts (B : List Shape → Type 0) (out : List Shape) : Type 0 where
  parts : List (List Shape)
  is : out ≡ all_joined parts
  each : Each B parts

parts_given : (G : Shape → List Shape → Type 0) (A B : List Shape → Type 0) → ((xs out : List Shape) → Given G xs out → A xs → B out)
    → (parts : List (List Shape)) (out : List Shape) → Given G (all_joined parts) out → Each A parts → GivenParts B out
parts_given G A B h [] out g e = record { parts = []; is = g; each = tt }
parts_given G A B h (part ∷ parts) out g e =
    let r = given_splits G part (all_joined parts) out g in
    let q = parts_given G A B h parts r.second r.by_second e.1 in record {
      parts = r.first ∷ q.parts;
      is = r.is ∙ ap (λ l. r.first ++ l) q.is;
      each = (h part r.first r.by_first e.0, q.each);
    }

abbrev BothTake : SchemaSet → (ItemType → SequenceType) → SequenceType → List Shape → Type 0
BothTake s f t out = Takes s (replaced_items f t) out × SomeTakes s (alternatives f t) out

both_take : (s : SchemaSet) (G : Shape → List Shape → Type 0) (f : ItemType → SequenceType) (t : SequenceType) → HoldsOfItems (ServesGiven s G f) t
    → (ss out : List Shape) → Given G ss out → Takes s t ss → BothTake s f t out
both_take s G f never e ss out g h = absurd h
both_take s G f nothing e ss out g h = let none : out ≡ [] = subst (λ l. Given G l out) h g in (none, inl none)
both_take s G f (item kind) e ss out g (x, is, took) =
    let one : Given G (x ∷ []) out = subst (λ l. Given G l out) is g in
    let same : one.0 ≡ out = sym (append_nil one.0) ∙ ap (λ l. one.0 ++ l) (sym one.4) ∙ sym one.2 in
    let taken : Takes s (f kind) out = subst (Takes s (f kind)) same (e x one.0 took one.3) in
    (taken, inl taken)
both_take s G f (both a b) e ss out g (front, rest, is, k, l) =
    let r = given_splits G front rest out (subst (λ l. Given G l out) is g) in
    let taken : Takes s (replaced_items f (both a b)) out =
    (joined_types_are_a_sequence s (replaced_items f a) (replaced_items f b) out).0
    (r.first, r.second, r.is, (both_take s G f a e.0 front r.first r.by_first k).0, (both_take s G f b e.1 rest r.second r.by_second l).0)
    in (taken, inl taken)
both_take s G f (either a b) e ss out g (inl h) =
    let some = some_first s (alternatives f a) (alternatives f b) out (both_take s G f a e.0 ss out g h).1 in
    ((choice_takes_some s (alternatives f a ++ alternatives f b) out).0 some, some)
both_take s G f (either a b) e ss out g (inr h) =
    let some = some_second s (alternatives f a) (alternatives f b) out (both_take s G f b e.1 ss out g h).1 in
    ((choice_takes_some s (alternatives f a ++ alternatives f b) out).0 some, some)
both_take s G f (optional a) e ss out g (inl h) =
    let taken : Takes s (replaced_items f (optional a)) out = (indicators_are_exact.optional s (replaced_items f a) out).0 (inl (subst (λ l. Given G l out) h g)) in
    (taken, inl taken)
both_take s G f (optional a) e ss out g (inr h) =
    let taken : Takes s (replaced_items f (optional a)) out = (indicators_are_exact.optional s (replaced_items f a) out).0 (inr (both_take s G f a e ss out g h).0) in
    (taken, inl taken)
both_take s G f (star a) e ss out g (parts, is, k) =
    let q = parts_given G (Takes s a) (Takes s (replaced_items f a)) (λ xs o m h. (both_take s G f a e xs o m h).0) parts out (subst (λ l. Given G l out) is g) k in
    let taken : Takes s (replaced_items f (star a)) out = (indicators_are_exact.star s (replaced_items f a) out).0 (q.parts, q.is, q.each) in
    (taken, inl taken)
both_take s G f (plus a) e ss out g (front, parts, is, l, k) =
    let r = given_splits G front (all_joined parts) out (subst (λ l. Given G l out) is g) in
    let q = parts_given G (Takes s a) (Takes s (replaced_items f a)) (λ xs o m h. (both_take s G f a e xs o m h).0) parts r.second r.by_second k in
    let taken : Takes s (replaced_items f (plus a)) out =
    (indicators_are_exact.plus s (replaced_items f a) out).0 (r.first, q.parts, r.is ∙ ap (λ l. r.first ++ l) q.is, (both_take s G f a e front r.first r.by_first l).0, q.each) in
    (taken, inl taken)

pub given_takes : (s : SchemaSet) (G : Shape → List Shape → Type 0) (f : ItemType → SequenceType) (t : SequenceType) → HoldsOfItems (ServesGiven s G f) t
    → (ss out : List Shape) → Given G ss out → Takes s t ss → Takes s (replaced_items f t) out
given_takes s G f t e ss out g h = (both_take s G f t e ss out g h).0
