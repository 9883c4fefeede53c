-- Facts of item types are kept.
use Rattle.std.proofs.Common.{List, [], ◌∷◌, ◌++◌}
use Rattle.gx_types.specs.declared.item_type.ItemType.{ItemType}
use Rattle.gx_types.specs.SchemaInvariant.{HoldsOfEach}
use Rattle.gx_types.specs.SequenceType.{SequenceType, never, nothing, item, both, either, optional, star, plus}
use Rattle.gx_types.specs.Prime.{items_of}
use Rattle.gx_type_laws.specs.Kept.{HoldsOfItems, RulesKeep, HoldsOfParts}

-- ---- lists

pub both_hold : {A : Type 0} (Fact : A → Type 0) (xs ys : List A) → HoldsOfEach Fact xs → HoldsOfEach Fact ys → HoldsOfEach Fact (xs ++ ys)
both_hold Fact [] ys h k = k
both_hold Fact (x ∷ xs) ys h k = (h.0, both_hold Fact xs ys h.1 k)

pub first_hold : {A : Type 0} (Fact : A → Type 0) (xs ys : List A) → HoldsOfEach Fact (xs ++ ys) → HoldsOfEach Fact xs
first_hold Fact [] ys h = tt
first_hold Fact (x ∷ xs) ys h = (h.0, first_hold Fact xs ys h.1)

pub rest_hold : {A : Type 0} (Fact : A → Type 0) (xs ys : List A) → HoldsOfEach Fact (xs ++ ys) → HoldsOfEach Fact ys
rest_hold Fact [] ys h = h
rest_hold Fact (x ∷ xs) ys h = rest_hold Fact xs ys h.1

-- ---- item types

pub items_weaker : (P Q : ItemType → Type 0) → ((kind : ItemType) → P kind → Q kind) → (t : SequenceType) → HoldsOfItems P t → HoldsOfItems Q t
items_weaker P Q w never h = tt
items_weaker P Q w nothing h = tt
items_weaker P Q w (item kind) h = w kind h
items_weaker P Q w (both a b) h = (items_weaker P Q w a h.0, items_weaker P Q w b h.1)
items_weaker P Q w (either a b) h = (items_weaker P Q w a h.0, items_weaker P Q w b h.1)
items_weaker P Q w (optional a) h = items_weaker P Q w a h
items_weaker P Q w (star a) h = items_weaker P Q w a h
items_weaker P Q w (plus a) h = items_weaker P Q w a h

-- what holds of all item types
pub all_items_hold : (P : ItemType → Type 0) → ((kind : ItemType) → P kind) → (t : SequenceType) → HoldsOfItems P t
all_items_hold P h never = tt
all_items_hold P h nothing = tt
all_items_hold P h (item kind) = h kind
all_items_hold P h (both a b) = (all_items_hold P h a, all_items_hold P h b)
all_items_hold P h (either a b) = (all_items_hold P h a, all_items_hold P h b)
all_items_hold P h (optional a) = all_items_hold P h a
all_items_hold P h (star a) = all_items_hold P h a
all_items_hold P h (plus a) = all_items_hold P h a

pub each_item : (P : ItemType → Type 0) (t : SequenceType) → HoldsOfItems P t → HoldsOfEach P (items_of t)
each_item P never h = tt
each_item P nothing h = tt
each_item P (item kind) h = (h, tt)
each_item P (both a b) h = both_hold P (items_of a) (items_of b) (each_item P a h.0) (each_item P b h.1)
each_item P (either a b) h = both_hold P (items_of a) (items_of b) (each_item P a h.0) (each_item P b h.1)
each_item P (optional a) h = each_item P a h
each_item P (star a) h = each_item P a h
each_item P (plus a) h = each_item P a h

pub items_are_kept : (P : ItemType → Type 0) → RulesKeep (HoldsOfItems P) (HoldsOfItems P)
items_are_kept P =
    record {
      of_none = tt;
      of_empty = tt;
      of_whole = λ t h. h;
      of_part = λ t is h. h;
      in_both = λ a b h k. (h, k);
      in_either = λ a b h k. (h, k);
      in_optional = λ a h. h;
      in_star = λ a h. h;
      in_plus = λ a h. h;
      optional_as_star = λ a h. h;
      plus_as_star = λ a h. h;
      of_alternatives = λ a b h. h;
    }

pub items_of_parts : (P : ItemType → Type 0) → HoldsOfParts (HoldsOfItems P)
items_of_parts P = record { of_both = λ a b h. h; of_either = λ a b h. h; of_optional = λ a h. h; of_star = λ a h. h; of_plus = λ a h. h }

-- the same for the list of the item types

pub listed_items_are_kept : (P : ItemType → Type 0) → RulesKeep (λ (t : SequenceType). HoldsOfEach P (items_of t)) (λ (t : SequenceType). HoldsOfEach P (items_of t))
listed_items_are_kept P =
    record {
      of_none = tt;
      of_empty = tt;
      of_whole = λ t h. h;
      of_part = λ t is h. h;
      in_both = λ a b h k. both_hold P (items_of a) (items_of b) h k;
      in_either = λ a b h k. both_hold P (items_of a) (items_of b) h k;
      in_optional = λ a h. h;
      in_star = λ a h. h;
      in_plus = λ a h. h;
      optional_as_star = λ a h. h;
      plus_as_star = λ a h. h;
      of_alternatives = λ a b h. (first_hold P (items_of a) (items_of b) h, rest_hold P (items_of a) (items_of b) h);
    }
