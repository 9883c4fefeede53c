-- Instances of a type belong to it.
use Rattle.std.proofs.Common.{◌≡◌, ℕ, suc, Bool, true, false, ◌&&◌, ◌||◌, nat_eq, nat_le, List, [], ◌∷◌, ◌++◌, length, map, Option, None, Some, ◌⊎◌, inl, inr, refl, sym, ap, subst, arith}
use Rattle.std.proofs.lemmas.Bool.{eqb-true, leb-true, le-leb}
use Rattle.std.specs.List.{list_all}
use Rattle.gx_types.specs.declared.item_type.ItemType.{ItemType}
use Rattle.gx_types.specs.declared.item_type.ItemType.TheVariants as items
use Rattle.gx_types.specs.declared.shape.Shape.{Shape}
use Rattle.gx_types.specs.declared.shape.Shape.TheVariants as shapes
use Rattle.gx_types.specs.SchemaSet.{SchemaSet}
use Rattle.gx_types.specs.Derivation.{bases_of, is_derived}
use Rattle.gx_types.specs.Grounded.{Grounded}
use Rattle.gx_types.specs.ItemTakes.{ItemTakes, name_fits}
use Rattle.gx_types.specs.SequenceType.{SequenceType, never, nothing, item, both, either, optional, star, plus}
use Rattle.gx_types.specs.Takes.{Takes, Each, all_joined}
use Rattle.gx_types.proofs.DerivationTest.{derives_when_tested, tested_when_derives}
use Rattle.gx_model.specs.Forest.{Forest}
use Rattle.gx_model.specs.Item.{Item, Items}
use Rattle.gx_model.specs.Belongs.{HaveShapes, item_shape}
use Rattle.gx_core.specs.Instances.{shape_matches, found_matches, item_matches, is_instance, IsItemType, IsWrittenType}
use Rattle.gx_core.specs.Laws.{InstancesBelong, InstancesAreExact}

both_true : (a b : Bool) → (a && b) ≡ true → (a ≡ true) × (b ≡ true)
both_true true b e = (refl, e)
both_true false b e = absurd (cc)

and_true : (a b : Bool) → a ≡ true → b ≡ true → (a && b) ≡ true
and_true true b e f = f
and_true false b e f = absurd (cc)

one_true : (a b : Bool) → (a || b) ≡ true → (a ≡ true) ⊎ (b ≡ true)
one_true true b e = inl refl
one_true false b e = inr e

or_first : (a b : Bool) → a ≡ true → (a || b) ≡ true
or_first true b e = refl
or_first false b e = absurd (cc)

or_second : (a b : Bool) → b ≡ true → (a || b) ≡ true
or_second true b e = refl
or_second false b e = e

many_true : (n : ℕ) (b : Bool) → (nat_eq (suc (suc n)) 1 && b) ≡ true → ⊥
many_true n b e = omega (arith, eqb-true (suc (suc n)) 1 (both_true (nat_eq (suc (suc n)) 1) b e).0)

few_true : (n : ℕ) (b : Bool) → (nat_le (suc (suc n)) 1 && b) ≡ true → ⊥
few_true n b e = omega (arith, leb-true (suc (suc n)) 1 (both_true (nat_le (suc (suc n)) 1) b e).0)

some_items : (n : ℕ) → nat_le 1 (suc n) ≡ true
some_items n = le-leb 1 (suc n) (omega arith)

some_true : (n : ℕ) → nat_eq (suc n) 0 ≡ true → ⊥
some_true n e = omega (arith, eqb-true (suc n) 0 e)

-- ---- shapes

pub derived_so : (s : SchemaSet) (kind : ItemType) (shape : Shape) → shape_matches s kind shape ≡ true → ItemTakes s kind shape
derived_so s (items.Element wanted kind) (shapes.Elem name t) e = let h = both_true (name_fits wanted name) (is_derived s t kind) e in (h.0, derives_when_tested s t kind h.1)
derived_so s (items.Attribute wanted kind) (shapes.Attr name t) e = let h = both_true (name_fits wanted name) (is_derived s t kind) e in (h.0, derives_when_tested s t kind h.1)
derived_so s items.Text shapes.Text e = tt
derived_so s (items.Document None) (shapes.Doc child) e = tt
derived_so s (items.Document (Some element)) (shapes.Doc (Some child)) e =
    let h = both_true (name_fits element.0 child.0) (is_derived s child.1 element.1) e in (h.0, derives_when_tested s child.1 element.1 h.1)
derived_so s (items.Atom kind) (shapes.Atom t) e = derives_when_tested s t kind e
derived_so s _ _ e = absurd (cc)

pub taken_so : (s : SchemaSet) → Grounded (bases_of s) → (kind : ItemType) (shape : Shape) → ItemTakes s kind shape → shape_matches s kind shape ≡ true
taken_so s g (items.Element wanted kind) (shapes.Elem name t) h = and_true (name_fits wanted name) (is_derived s t kind) h.0 (tested_when_derives s t kind g h.1)
taken_so s g (items.Attribute wanted kind) (shapes.Attr name t) h = and_true (name_fits wanted name) (is_derived s t kind) h.0 (tested_when_derives s t kind g h.1)
taken_so s g items.Text shapes.Text h = refl
taken_so s g (items.Document None) (shapes.Doc child) h = refl
taken_so s g (items.Document (Some element)) (shapes.Doc (Some child)) h =
    and_true (name_fits element.0 child.0) (is_derived s child.1 element.1) h.0 (tested_when_derives s child.1 element.1 g h.1)
taken_so s g (items.Atom kind) (shapes.Atom t) h = tested_when_derives s t kind g h
taken_so s g _ _ h = absurd h

-- ---- items

module _ (s : SchemaSet) (forest : Forest) where
  matching_taken : (t : SequenceType) (x : Item) (shape : Shape) → item_shape forest x ≡ Some shape → item_matches s forest t x ≡ true → Takes s t (shape ∷ [])
  matching_taken (item kind) x shape e h = (shape, refl, derived_so s kind shape (subst (λ (o : Option Shape). found_matches s kind o ≡ true) e h))
  matching_taken (either first second) x shape e h =
      elim (one_true (item_matches s forest first x) (item_matches s forest second x) h) [
        | inl k ↦ inl (matching_taken first x shape e k)
        | inr k ↦ inr (matching_taken second x shape e k)
      ]
  matching_taken _ x shape e h = absurd (cc)

  taken_matching : Grounded (bases_of s) → (t : SequenceType) (x : Item) (shape : Shape) → IsItemType t → item_shape forest x ≡ Some shape → Takes s t (shape ∷ []) → item_matches s forest t x ≡ true
  taken_matching g (item kind) x shape i e (other, same, h) =
      let k : shape ≡ other = cc in
      subst (λ (o : Option Shape). found_matches s kind o ≡ true) (sym e) (taken_so s g kind shape (subst (ItemTakes s kind) (sym k) h))
  taken_matching g (either first second) x shape i e (inl h) = or_first (item_matches s forest first x) (item_matches s forest second x) (taken_matching g first x shape i.0 e h)
  taken_matching g (either first second) x shape i e (inr h) = or_second (item_matches s forest first x) (item_matches s forest second x) (taken_matching g second x shape i.1 e h)
  taken_matching g _ x shape i e h = absurd i

  one_shape : (t : SequenceType) (seen : List Shape) → IsItemType t → Takes s t seen → (shape : Shape) × (seen ≡ shape ∷ [])
  one_shape (item kind) seen i (shape, same, h) = (shape, same)
  one_shape (either first second) seen i (inl h) = one_shape first seen i.0 h
  one_shape (either first second) seen i (inr h) = one_shape second seen i.1 h
  one_shape _ seen i h = absurd i

  -- ---- values

  alone_joined : (seen : List Shape) → seen ≡ all_joined (map (λ shape. shape ∷ []) seen)
  alone_joined [] = refl
  alone_joined (shape ∷ seen) = ap (λ (l : List Shape). shape ∷ l) (alone_joined seen)

  all_taken : (t : SequenceType) (xs : Items) (seen : List Shape) → HaveShapes s forest xs seen → list_all (item_matches s forest t) xs ≡ true → Each (Takes s t) (map (λ shape. shape ∷ []) seen)
  all_taken t [] [] h e = tt
  all_taken t (x ∷ xs) (shape ∷ seen) h e =
      let k = both_true (item_matches s forest t x) (list_all (item_matches s forest t) xs) e in
      (matching_taken t x shape h.0 k.0, all_taken t xs seen h.2 k.1)
  all_taken t [] (shape ∷ seen) h e = absurd h
  all_taken t (x ∷ xs) [] h e = absurd h

  one_taken : (t : SequenceType) (xs : Items) (seen : List Shape) → HaveShapes s forest xs seen → (nat_eq (length xs) 1 && list_all (item_matches s forest t) xs) ≡ true → Takes s t seen
  one_taken t [] seen h e = absurd (cc)
  one_taken t (x ∷ []) (shape ∷ []) h e = matching_taken t x shape h.0 (both_true (item_matches s forest t x) true (both_true true (item_matches s forest t x && true) e).1).0
  one_taken t (x ∷ []) [] h e = absurd h
  one_taken t (x ∷ []) (shape ∷ other ∷ seen) h e = absurd h.2
  one_taken t (x ∷ y ∷ xs) seen h e = absurd (many_true (length xs) (list_all (item_matches s forest t) (x ∷ y ∷ xs)) e)

  instance_taken : (t : SequenceType) (xs : Items) (seen : List Shape) → HaveShapes s forest xs seen → is_instance s forest t xs ≡ true → Takes s t seen
  instance_taken nothing [] [] h e = refl
  instance_taken nothing [] (shape ∷ seen) h e = absurd h
  instance_taken nothing (x ∷ xs) seen h e = absurd (some_true (length xs) e)
  instance_taken (optional part) [] [] h e = inl refl
  instance_taken (optional part) [] (shape ∷ seen) h e = absurd h
  instance_taken (optional part) (x ∷ []) seen h e = inr (one_taken part (x ∷ []) seen h e)
  instance_taken (optional part) (x ∷ y ∷ xs) seen h e = absurd (few_true (length xs) (list_all (item_matches s forest part) (x ∷ y ∷ xs)) e)
  instance_taken (star part) xs seen h e = (map (λ shape. shape ∷ []) seen, alone_joined seen, all_taken part xs seen h e)
  instance_taken (plus part) [] seen h e = absurd (cc)
  instance_taken (plus part) (x ∷ xs) [] h e = absurd h
  instance_taken (plus part) (x ∷ xs) (shape ∷ seen) h e =
      let k = all_taken part (x ∷ xs) (shape ∷ seen) h (both_true (nat_le 1 (suc (length xs))) (list_all (item_matches s forest part) (x ∷ xs)) e).1 in (shape ∷ [], map (λ shape. shape ∷ []) seen, ap (λ (l : List Shape). shape ∷ l) (alone_joined seen), k.0, k.1)
  instance_taken never xs seen h e = one_taken never xs seen h e
  instance_taken (item kind) xs seen h e = one_taken (item kind) xs seen h e
  instance_taken (both first second) xs seen h e = one_taken (both first second) xs seen h e
  instance_taken (either first second) xs seen h e = one_taken (either first second) xs seen h e

  -- ---- the other way round

  module _ (g : Grounded (bases_of s)) where
    front_matches : (t : SequenceType) (shape : Shape) (xs : Items) (seen : List Shape) → IsItemType t → Takes s t (shape ∷ [])
        → ((ys : Items) → HaveShapes s forest ys seen → list_all (item_matches s forest t) ys ≡ true) → HaveShapes s forest xs (shape ∷ seen) → list_all (item_matches s forest t) xs ≡ true
    front_matches t shape [] seen i k next h = absurd h
    front_matches t shape (x ∷ xs) seen i k next h = and_true (item_matches s forest t x) (list_all (item_matches s forest t) xs) (taken_matching g t x shape i h.0 k) (next xs h.2)

    each_matches : (t : SequenceType) (parts : List (List Shape)) (xs : Items) → IsItemType t → Each (Takes s t) parts → HaveShapes s forest xs (all_joined parts) → list_all (item_matches s forest t) xs ≡ true
    each_matches t [] [] i k h = refl
    each_matches t [] (x ∷ xs) i k h = absurd h
    each_matches t (part ∷ parts) xs i k h =
        let o = one_shape t part i k.0 in
        front_matches t o.0 xs (all_joined parts) i (subst (Takes s t) o.1 k.0) (λ ys. each_matches t parts ys i k.1) (subst (λ (p : List Shape). HaveShapes s forest xs (p ++ all_joined parts)) o.1 h)

    one_matches : (t : SequenceType) (xs : Items) (seen : List Shape) → IsItemType t → HaveShapes s forest xs seen → Takes s t seen → (nat_eq (length xs) 1 && list_all (item_matches s forest t) xs) ≡ true
    one_matches t xs seen i h k =
        let o = one_shape t seen i k in
        by xs o.0 (subst (HaveShapes s forest xs) o.1 h) (subst (Takes s t) o.1 k)
      where
        by : (ys : Items) (shape : Shape) → HaveShapes s forest ys (shape ∷ []) → Takes s t (shape ∷ []) → (nat_eq (length ys) 1 && list_all (item_matches s forest t) ys) ≡ true
        by [] shape m n = absurd m
        by (y ∷ []) shape m n = and_true (item_matches s forest t y) true (taken_matching g t y shape i m.0 n) refl
        by (y ∷ z ∷ ys) shape m n = absurd m.2

    taken_instance : (t : SequenceType) (xs : Items) (seen : List Shape) → IsWrittenType t → HaveShapes s forest xs seen → Takes s t seen → is_instance s forest t xs ≡ true
    taken_instance nothing [] seen w h k = refl
    taken_instance nothing (x ∷ xs) [] w h k = absurd h
    taken_instance nothing (x ∷ xs) (shape ∷ seen) w h k = absurd (cc)
    taken_instance (item kind) xs seen w h k = one_matches (item kind) xs seen tt h k
    taken_instance (either first second) xs seen w h k = one_matches (either first second) xs seen w h k
    taken_instance (optional part) [] seen w h k = refl
    taken_instance (optional part) (x ∷ xs) [] w h (inl k) = absurd h
    taken_instance (optional part) (x ∷ xs) (shape ∷ seen) w h (inl k) = absurd (cc)
    taken_instance (optional part) (x ∷ []) seen w h (inr k) = one_matches part (x ∷ []) seen w h k
    taken_instance (optional part) (x ∷ y ∷ xs) seen w h (inr k) = absurd (many_true (length xs) (list_all (item_matches s forest part) (x ∷ y ∷ xs)) (one_matches part (x ∷ y ∷ xs) seen w h k))
    taken_instance (star part) xs seen w h (parts, same, k) = each_matches part parts xs w k (subst (HaveShapes s forest xs) same h)
    taken_instance (plus part) [] seen w h (front, parts, same, k, m) =
        let o = one_shape part front w k in
        absurd (subst (λ (p : List Shape). HaveShapes s forest [] (p ++ all_joined parts)) o.1 (subst (HaveShapes s forest []) same h))
    taken_instance (plus part) (x ∷ xs) seen w h (front, parts, same, k, m) =
        and_true (nat_le 1 (suc (length xs))) (list_all (item_matches s forest part) (x ∷ xs)) (some_items (length xs)) (each_matches part (front ∷ parts) (x ∷ xs) w (k, m) (subst (HaveShapes s forest (x ∷ xs)) same h))
    taken_instance never xs seen w h k = absurd w
    taken_instance (both first second) xs seen w h k = absurd w

pub instances_belong : InstancesBelong
instances_belong s forest t xs seen h e = record { seen = seen; shaped = h; taken = instance_taken s forest t xs seen h e }

pub instances_are_exact : InstancesAreExact
instances_are_exact s forest t xs seen g w h =
    (instances_belong s forest t xs seen h, λ b. taken_instance s forest g t xs b.seen w b.shaped b.taken)
