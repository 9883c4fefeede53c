-- Types that are made by putting types in the place of item types.
use Rattle.std.proofs.Common.{List, [], ◌∷◌, ◌++◌, map}
use Rattle.gx_types.specs.declared.item_type.ItemType.{ItemType}
use Rattle.gx_types.specs.SchemaSet.{SchemaSet}
use Rattle.gx_types.specs.SchemaInvariant.{HoldsOfEach}
use Rattle.gx_types.specs.SequenceType.{SequenceType, never, nothing, item, both, either, optional, star, plus}
use Rattle.gx_types.specs.Choice.{choice_among}
use Rattle.gx_types.specs.Prime.{items_of}
use Rattle.gx_types.specs.TypeRules.{joined_types}
use Rattle.gx_type_laws.proofs.Kept.{joined_keeps, choice_keeps}
use Rattle.gx_type_laws.proofs.Items.{both_hold, first_hold, rest_hold, listed_items_are_kept}
use Rattle.gx_steptype.specs.Replaced.{replaced_items, alternatives}
use Rattle.gx_static.specs.NormalTypes.{IsOfKnownType, IsNormalType}
use Rattle.gx_static.proofs.NormalTypes.{choice_of_normal, optional_is_normal, star_is_normal, plus_is_normal, joined_is_normal}

-- ---- types in the place of item types

-- what is put there, and each alternative of a choice
abbrev AreNormal : SchemaSet → (ItemType → SequenceType) → SequenceType → Type 0
AreNormal s f t = IsNormalType s (replaced_items f t) × HoldsOfEach (IsNormalType s) (alternatives f t)

are_normal : (s : SchemaSet) (f : ItemType → SequenceType) (t : SequenceType) → HoldsOfEach (λ kind. IsNormalType s (f kind)) (items_of t) → AreNormal s f t
are_normal s f never e = (tt, (tt, tt))
are_normal s f nothing e = (tt, (tt, tt))
are_normal s f (item kind) e = (e.0, (e.0, tt))
are_normal s f (both a b) e =
    let n = joined_is_normal s (replaced_items f a) (replaced_items f b)
    (are_normal s f a (first_hold (λ kind. IsNormalType s (f kind)) (items_of a) (items_of b) e)).0
    (are_normal s f b (rest_hold (λ kind. IsNormalType s (f kind)) (items_of a) (items_of b) e)).0 in
    (n, (n, tt))
are_normal s f (either a b) e =
    let n = both_hold (IsNormalType s) (alternatives f a) (alternatives f b)
    (are_normal s f a (first_hold (λ kind. IsNormalType s (f kind)) (items_of a) (items_of b) e)).1
    (are_normal s f b (rest_hold (λ kind. IsNormalType s (f kind)) (items_of a) (items_of b) e)).1 in
    (choice_of_normal s (alternatives f a ++ alternatives f b) n, n)
are_normal s f (optional a) e = let n = optional_is_normal s (replaced_items f a) (are_normal s f a e).0 in (n, (n, tt))
are_normal s f (star a) e = let n = star_is_normal s (replaced_items f a) (are_normal s f a e).0 in (n, (n, tt))
are_normal s f (plus a) e = let n = plus_is_normal s (replaced_items f a) (are_normal s f a e).0 in (n, (n, tt))

pub replaced_is_normal : (s : SchemaSet) (f : ItemType → SequenceType) (t : SequenceType) → HoldsOfEach (λ kind. IsNormalType s (f kind)) (items_of t) → IsNormalType s (replaced_items f t)
replaced_is_normal s f t e = (are_normal s f t e).0

-- ---- item types of made types

pub each_so : {A : Type 0} (P Q : A → Type 0) (xs : List A) → ((x : A) → P x → Q x) → HoldsOfEach P xs → HoldsOfEach Q xs
each_so P Q [] f h = tt
each_so P Q (x ∷ xs) f h = (f x h.0, each_so P Q xs f h.1)

pub each_made : {A B : Type 0} (f : A → B) (P : B → Type 0) (xs : List A) → ((x : A) → P (f x)) → HoldsOfEach P (map f xs)
each_made f P [] h = tt
each_made f P (x ∷ xs) h = (h x, each_made f P xs h)

-- the item types of a type are of known types
abbrev pub AreKnown : SchemaSet → SequenceType → Type 0
AreKnown s t = HoldsOfEach (IsOfKnownType s) (items_of t)

pub joined_is_known : (s : SchemaSet) (t u : SequenceType) → AreKnown s t → AreKnown s u → AreKnown s (joined_types t u)
joined_is_known s = joined_keeps (listed_items_are_kept (IsOfKnownType s))

pub choice_is_known : (s : SchemaSet) (ts : List SequenceType) → HoldsOfEach (AreKnown s) ts → AreKnown s (choice_among ts)
choice_is_known s = choice_keeps (listed_items_are_kept (IsOfKnownType s))
