-- Lists that a type made of item types takes.
use Rattle.std.proofs.Common.{◌≡◌, ℕ, ◌+◌, ◌<◌, ◌≤◌, Bool, true, List, [], ◌∷◌, ◌++◌, inl, inr, length, refl, arith, length-append}
use Rattle.std.proofs.lemmas.Bool.{and_from, cases_lt}
use Rattle.gx_types.specs.declared.item_type.ItemType.{ItemType}
use Rattle.gx_types.specs.declared.shape.Shape.{Shape}
use Rattle.gx_types.specs.SchemaSet.{SchemaSet}
use Rattle.gx_types.specs.Occurrence.{occurrence_of}
use Rattle.gx_types.specs.SequenceType.{SequenceType, never, nothing, item, both, either, optional, star, plus}
use Rattle.gx_types.specs.ItemTakes.{ItemTakes}
use Rattle.gx_types.specs.Takes.{Takes, EachShape}
use Rattle.gx_include_letters.specs.WellFormed.{IsWellFormedShape}
use Rattle.gx_static.specs.NormalTypes.{IsOfKnownType, IsMadeOfItems}
use Rattle.gx_static.specs.Rule.{all_items}
use Rattle.gx_static.proofs.SomeItems.{some_shape}

each_joined : (P : Shape → Type 0) (xs ys : List Shape) → EachShape P xs → EachShape P ys → EachShape P (xs ++ ys)
each_joined P [] ys h k = k
each_joined P (x ∷ xs) ys h k = (h.0, each_joined P xs ys h.1 k)

each_front : (P : Shape → Type 0) (xs ys : List Shape) → EachShape P (xs ++ ys) → EachShape P xs
each_front P [] ys h = tt
each_front P (x ∷ xs) ys h = (h.0, each_front P xs ys h.1)

each_rest : (P : Shape → Type 0) (xs ys : List Shape) → EachShape P (xs ++ ys) → EachShape P ys
each_rest P [] ys h = h
each_rest P (x ∷ xs) ys h = each_rest P xs ys h.1

-- a list of at least so many shapes, which a type takes
pub record SomeList (s : SchemaSet) (t : SequenceType) (count : ℕ) : Type 0 where
  pub list : List Shape
  pub well_formed : EachShape (IsWellFormedShape s) list
  pub taken : Takes s t list
  pub long : count ≤ length list

joined : (s : SchemaSet) (a b : SequenceType) (m n : ℕ) → SomeList s a m → SomeList s b n → SomeList s (both a b) (m + n)
joined s a b m n x y = record {
  list = x.list ++ y.list;
  well_formed = each_joined (IsWellFormedShape s) x.list y.list x.well_formed y.well_formed;
  taken = (x.list, y.list, refl, x.taken, y.taken);
  long = omega (arith, length-append x.list y.list, x.long, y.long);
}

abbrev twice_starred : (s : SchemaSet) (a : SequenceType) (m n : ℕ) → SomeList s a m → SomeList s a n → SomeList s (star a) (m + n)
twice_starred s a m n x y = record {
  list = x.list ++ (y.list ++ []);
  well_formed = each_joined (IsWellFormedShape s) x.list (y.list ++ []) x.well_formed (each_joined (IsWellFormedShape s) y.list [] y.well_formed tt);
  taken = (x.list ∷ y.list ∷ [], refl, (x.taken, (y.taken, tt)));
  long = omega (arith, length-append x.list (y.list ++ []), length-append y.list [], x.long, y.long);
}

abbrev starred : (s : SchemaSet) (a : SequenceType) (m : ℕ) → SomeList s a m → SomeList s (star a) m
starred s a m x = record {
  list = x.list ++ [];
  well_formed = each_joined (IsWellFormedShape s) x.list [] x.well_formed tt;
  taken = (x.list ∷ [], refl, (x.taken, tt));
  long = omega (arith, length-append x.list [], x.long);
}

-- a list that a star takes, where it is not empty, is one that a plus takes
twice_plus : (s : SchemaSet) (a : SequenceType) (m n : ℕ) → SomeList s a m → SomeList s a n → SomeList s (plus a) (m + n)
twice_plus s a m n x y = let l = twice_starred s a m n x y in record {
  list = l.list;
  well_formed = l.well_formed;
  taken = (x.list, y.list ∷ [], refl, x.taken, (y.taken, tt));
  long = l.long;
}

once_plus : (s : SchemaSet) (a : SequenceType) (m : ℕ) → SomeList s a m → SomeList s (plus a) m
once_plus s a m x = let l = starred s a m x in record { list = l.list; well_formed = l.well_formed; taken = (x.list, [], refl, x.taken, tt); long = l.long }

first_of_two : (s : SchemaSet) (a b : SequenceType) (m : ℕ) → SomeList s a m → SomeList s (either a b) m
first_of_two s a b m x = record { list = x.list; well_formed = x.well_formed; taken = inl x.taken; long = x.long }

second_of_two : (s : SchemaSet) (a b : SequenceType) (m : ℕ) → SomeList s b m → SomeList s (either a b) m
second_of_two s a b m x = record { list = x.list; well_formed = x.well_formed; taken = inr x.taken; long = x.long }

option_taken : (s : SchemaSet) (a : SequenceType) (m : ℕ) → SomeList s a m → SomeList s (optional a) m
option_taken s a m x = record { list = x.list; well_formed = x.well_formed; taken = inr x.taken; long = x.long }

shorter : (s : SchemaSet) (t : SequenceType) (m n : ℕ) → n ≤ m → SomeList s t m → SomeList s t n
shorter s t m n h x = record { list = x.list; well_formed = x.well_formed; taken = x.taken; long = omega (arith, h, x.long) }

-- a type made of item types takes a list of some shape
pub some_list : (s : SchemaSet) (t : SequenceType) → IsMadeOfItems s t → SomeList s t 1
some_list s never m = absurd m
some_list s nothing m = absurd m
some_list s (item kind) m =
    let x = some_shape s kind m in record { list = x.shape ∷ []; well_formed = (x.well_formed, tt); taken = (x.shape, refl, x.taken); long = omega arith }
some_list s (both a b) m = shorter s (both a b) (1 + 1) 1 (omega arith) (joined s a b 1 1 (some_list s a m.0) (some_list s b m.1))
some_list s (either a b) m = first_of_two s a b 1 (some_list s a m.0)
some_list s (optional a) m = option_taken s a 1 (some_list s a m)
some_list s (star a) m = starred s a 1 (some_list s a m)
some_list s (plus a) m = once_plus s a 1 (some_list s a m)

-- and one of two shapes where it may have that many
pub two_shapes : (s : SchemaSet) (t : SequenceType) → IsMadeOfItems s t → 1 < (occurrence_of t).greatest → SomeList s t 2
two_shapes s never m h = absurd m
two_shapes s nothing m h = absurd m
two_shapes s (item kind) m h = absurd (omega (arith, h))
two_shapes s (both a b) m h = shorter s (both a b) (1 + 1) 2 (omega arith) (joined s a b 1 1 (some_list s a m.0) (some_list s b m.1))
two_shapes s (either a b) m h =
    elim (cases_lt 1 (occurrence_of a).greatest) as (λ _. SomeList s (either a b) 2) [
      | inl g ↦ first_of_two s a b 2 (two_shapes s a m.0 g)
      | inr g ↦ second_of_two s a b 2 (two_shapes s b m.1 (omega (arith, g, h)))
    ]
two_shapes s (optional a) m h = option_taken s a 2 (two_shapes s a m h)
two_shapes s (star a) m h = shorter s (star a) (1 + 1) 2 (omega arith) (twice_starred s a 1 1 (some_list s a m) (some_list s a m))
two_shapes s (plus a) m h = shorter s (plus a) (1 + 1) 2 (omega arith) (twice_plus s a 1 1 (some_list s a m) (some_list s a m))

-- a type that may have no item takes the empty list
pub empty_taken : (s : SchemaSet) (t : SequenceType) → (occurrence_of t).least < 1 → Takes s t []
empty_taken s never h = absurd (omega (arith, h))
empty_taken s nothing h = refl
empty_taken s (item kind) h = absurd (omega (arith, h))
empty_taken s (both a b) h = ([], [], refl, empty_taken s a (omega (arith, h)), empty_taken s b (omega (arith, h)))
empty_taken s (either a b) h =
    elim (cases_lt (occurrence_of a).least 1) as (λ _. Takes s (either a b) []) [ inl g ↦ inl (empty_taken s a g) | inr g ↦ inr (empty_taken s b (omega (arith, g, h))) ]
empty_taken s (optional a) h = inl refl
empty_taken s (star a) h = ([], refl, tt)
empty_taken s (plus a) h = ([], [], refl, empty_taken s a h, tt)

-- each item type passes a test, where it does so if a fact holds of the shapes that it takes, and the fact holds of the shapes of the
-- lists that the type takes
pub each_passes : (s : SchemaSet) (test : ItemType → Bool) (Fact : Shape → Type 0) (t : SequenceType)
    → ((kind : ItemType) → IsOfKnownType s kind → ((shape : Shape) → IsWellFormedShape s shape → ItemTakes s kind shape → Fact shape) → test kind ≡ true)
    → IsMadeOfItems s t → ((list : List Shape) → EachShape (IsWellFormedShape s) list → Takes s t list → EachShape Fact list) → all_items test t ≡ true
each_passes s test Fact never f m g = absurd m
each_passes s test Fact nothing f m g = absurd m
each_passes s test Fact (item kind) f m g = f kind m (λ shape w h. (g (shape ∷ []) (w, tt) (shape, refl, h)).0)
each_passes s test Fact (both a b) f m g =
    let x = some_list s a m.0 in
    let y = some_list s b m.1 in
    and_from (all_items test a) (all_items test b)
    (each_passes s test Fact a f m.0 (λ list w h. each_front Fact list y.list (g (list ++ y.list) (each_joined (IsWellFormedShape s) list y.list w y.well_formed) (list, y.list, refl, h, y.taken))))
    (each_passes s test Fact b f m.1 (λ list w h. each_rest Fact x.list list (g (x.list ++ list) (each_joined (IsWellFormedShape s) x.list list x.well_formed w) (x.list, list, refl, x.taken, h))))
each_passes s test Fact (either a b) f m g =
    and_from (all_items test a) (all_items test b) (each_passes s test Fact a f m.0 (λ list w h. g list w (inl h))) (each_passes s test Fact b f m.1 (λ list w h. g list w (inr h)))
each_passes s test Fact (optional a) f m g = each_passes s test Fact a f m (λ list w h. g list w (inr h))
each_passes s test Fact (star a) f m g =
    each_passes s test Fact a f m (λ list w h. each_front Fact list [] (g (list ++ []) (each_joined (IsWellFormedShape s) list [] w tt) (list ∷ [], refl, (h, tt))))
each_passes s test Fact (plus a) f m g =
    each_passes s test Fact a f m (λ list w h. each_front Fact list [] (g (list ++ []) (each_joined (IsWellFormedShape s) list [] w tt) (list, [], refl, h, tt)))
