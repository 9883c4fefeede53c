-- What a type takes where each item type is replaced_items.
use Rattle.std.proofs.Common.{◌≡◌, List, [], ◌∷◌, ◌++◌, map, inl, inr, refl, sym, ◌∙◌, ap, subst}
use Rattle.std.specs.List.{flat_map}
use Rattle.std.proofs.lemmas.Grind.{flat_map-append}
use Rattle.gx_types.specs.declared.item_type.ItemType.{ItemType}
use Rattle.gx_types.specs.declared.shape.Shape.{Shape}
use Rattle.gx_types.specs.SchemaSet.{SchemaSet}
use Rattle.gx_types.specs.SequenceType.{SequenceType, never, nothing, item, both, either, optional, star, plus}
use Rattle.gx_types.specs.ItemTakes.{ItemTakes}
use Rattle.gx_types.specs.Takes.{Takes, Each, EachShape, SomeTakes, all_joined}
use Rattle.gx_types.proofs.PublicLaws.{joined_types_are_a_sequence, choice_takes_some, indicators_are_exact}
use Rattle.gx_type_laws.specs.Kept.{HoldsOfItems}
use Rattle.gx_steptype.specs.Replaced.{replaced_items, alternatives}

-- what stands for an item type takes what is made of each shape that the item type takes
abbrev pub Serves : SchemaSet → (Shape → Type 0) → (Shape → List Shape) → (ItemType → SequenceType) → ItemType → Type 0
Serves s P g f kind = (x : Shape) → P x → ItemTakes s kind x → Takes s (f kind) (g x)

each_first : (P : Shape → Type 0) (xs ys : List Shape) → EachShape P (xs ++ ys) → EachShape P xs
each_first P [] ys e = tt
each_first P (x ∷ xs) ys e = (e.0, each_first P xs ys e.1)

each_second : (P : Shape → Type 0) (xs ys : List Shape) → EachShape P (xs ++ ys) → EachShape P ys
each_second P [] ys e = e
each_second P (x ∷ xs) ys e = each_second P xs ys e.1

pub some_first : (s : SchemaSet) (ts us : List SequenceType) (ss : List Shape) → SomeTakes s ts ss → SomeTakes s (ts ++ us) ss
some_first s [] us ss h = absurd h
some_first s (t ∷ ts) us ss (inl h) = inl h
some_first s (t ∷ ts) us ss (inr h) = inr (some_first s ts us ss h)

pub some_second : (s : SchemaSet) (ts us : List SequenceType) (ss : List Shape) → SomeTakes s us ss → SomeTakes s (ts ++ us) ss
some_second s [] us ss h = h
some_second s (t ∷ ts) us ss h = inr (some_second s ts us ss h)

pub append_nil : (xs : List Shape) → xs ++ [] ≡ xs
append_nil [] = refl
append_nil (x ∷ xs) = ap (λ ys. x ∷ ys) (append_nil xs)

-- one member more
pub star_next : (s : SchemaSet) (t : SequenceType) (x : Shape) (xs : List Shape) → Takes s t (x ∷ []) → Takes s (star t) xs → Takes s (star t) (x ∷ xs)
star_next s t x xs h (parts, is, each) = ((x ∷ []) ∷ parts, ap (λ ys. x ∷ ys) is, (h, each))

made_of_joined : (g : Shape → List Shape) (parts : List (List Shape)) → flat_map g (all_joined parts) ≡ all_joined (map (flat_map g) parts)
made_of_joined g [] = refl
made_of_joined g (part ∷ parts) = flat_map-append g part (all_joined parts) ∙ ap (λ xs. flat_map g part ++ xs) (made_of_joined g parts)

each_made : (P : Shape → Type 0) (g : Shape → List Shape) (A B : List Shape → Type 0) → ((xs : List Shape) → EachShape P xs → A xs → B (flat_map g xs))
    → (parts : List (List Shape)) → EachShape P (all_joined parts) → Each A parts → Each B (map (flat_map g) parts)
each_made P g A B h [] p e = tt
each_made P g A B h (part ∷ parts) p e =
    (h part (each_first P part (all_joined parts) p) e.0, each_made P g A B h parts (each_second P part (all_joined parts) p) e.1)

-- such a type takes what is made of a list, and so does one of its alternatives
abbrev BothTake : SchemaSet → (ItemType → SequenceType) → SequenceType → List Shape → Type 0
BothTake s f t out = Takes s (replaced_items f t) out × SomeTakes s (alternatives f t) out

both_take : (s : SchemaSet) (P : Shape → Type 0) (g : Shape → List Shape) (f : ItemType → SequenceType) (t : SequenceType) → HoldsOfItems (Serves s P g f) t
    → (ss : List Shape) → EachShape P ss → Takes s t ss → BothTake s f t (flat_map g ss)
both_take s P g f never e ss p h = absurd h
both_take s P g f nothing e ss p h = (ap (flat_map g) h, inl (ap (flat_map g) h))
both_take s P g f (item kind) e ss p (x, is, took) =
    let taken : Takes s (f kind) (flat_map g ss) =
    subst (λ (xs : List Shape). Takes s (f kind) (flat_map g xs)) (sym is)
    (subst (Takes s (f kind)) (sym (append_nil (g x))) (e x (subst (EachShape P) is p).0 took))
    in (taken, inl taken)
both_take s P g f (both a b) e ss p (front, rest, is, k, l) =
    let q : EachShape P (front ++ rest) = subst (EachShape P) is p in
    let taken : Takes s (replaced_items f (both a b)) (flat_map g ss) =
    (joined_types_are_a_sequence s (replaced_items f a) (replaced_items f b) (flat_map g ss)).0 (
      flat_map g front,
      flat_map g rest,
      ap (flat_map g) is ∙ flat_map-append g front rest,
      (both_take s P g f a e.0 front (each_first P front rest q) k).0,
      (both_take s P g f b e.1 rest (each_second P front rest q) l).0,
    )
    in (taken, inl taken)
both_take s P g f (either a b) e ss p (inl h) =
    let some = some_first s (alternatives f a) (alternatives f b) (flat_map g ss) (both_take s P g f a e.0 ss p h).1 in
    ((choice_takes_some s (alternatives f a ++ alternatives f b) (flat_map g ss)).0 some, some)
both_take s P g f (either a b) e ss p (inr h) =
    let some = some_second s (alternatives f a) (alternatives f b) (flat_map g ss) (both_take s P g f b e.1 ss p h).1 in
    ((choice_takes_some s (alternatives f a ++ alternatives f b) (flat_map g ss)).0 some, some)
both_take s P g f (optional a) e ss p (inl h) =
    let taken : Takes s (replaced_items f (optional a)) (flat_map g ss) = (indicators_are_exact.optional s (replaced_items f a) (flat_map g ss)).0 (inl (ap (flat_map g) h)) in
    (taken, inl taken)
both_take s P g f (optional a) e ss p (inr h) =
    let taken : Takes s (replaced_items f (optional a)) (flat_map g ss) = (indicators_are_exact.optional s (replaced_items f a) (flat_map g ss)).0 (inr (both_take s P g f a e ss p h).0) in
    (taken, inl taken)
both_take s P g f (star a) e ss p (parts, is, k) =
    let taken : Takes s (replaced_items f (star a)) (flat_map g ss) =
    (indicators_are_exact.star s (replaced_items f a) (flat_map g ss)).0 (
      map (flat_map g) parts,
      ap (flat_map g) is ∙ made_of_joined g parts,
      each_made P g (Takes s a) (Takes s (replaced_items f a)) (λ xs q h. (both_take s P g f a e xs q h).0) parts (subst (EachShape P) is p) k,
    )
    in (taken, inl taken)
both_take s P g f (plus a) e ss p (front, parts, is, l, k) =
    let q : EachShape P (front ++ all_joined parts) = subst (EachShape P) is p in
    let taken : Takes s (replaced_items f (plus a)) (flat_map g ss) =
    (indicators_are_exact.plus s (replaced_items f a) (flat_map g ss)).0 (
      flat_map g front,
      map (flat_map g) parts,
      ap (flat_map g) is ∙ flat_map-append g front (all_joined parts) ∙ ap (λ xs. flat_map g front ++ xs) (made_of_joined g parts),
      (both_take s P g f a e front (each_first P front (all_joined parts) q) l).0,
      each_made P g (Takes s a) (Takes s (replaced_items f a)) (λ xs r h. (both_take s P g f a e xs r h).0) parts (each_second P front (all_joined parts) q) k,
    )
    in (taken, inl taken)

pub replaced_takes : (s : SchemaSet) (P : Shape → Type 0) (g : Shape → List Shape) (f : ItemType → SequenceType) (t : SequenceType) → HoldsOfItems (Serves s P g f) t
    → (ss : List Shape) → EachShape P ss → Takes s t ss → Takes s (replaced_items f t) (flat_map g ss)
replaced_takes s P g f t e ss p h = (both_take s P g f t e ss p h).0
