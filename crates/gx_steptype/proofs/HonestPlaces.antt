-- What stands at places of honest forests.
use Rattle.std.proofs.Common.{◌≡◌, ℕ, zero, suc, List, [], ◌∷◌, ◌⊎◌, inl, inr, refl, subst, Option, Some, None}
use Rattle.std.specs.List.{slice_get}
use Rattle.std.specs.Option.{option_map}
use Rattle.gx_base.specs.declared.type_name.Builtin.TheVariants.{UntypedAtomic}
use Rattle.gx_base.specs.declared.type_name.TypeName.TheVariants.{Builtin}
use Rattle.gx_types.specs.SchemaSet.{SchemaSet, declaration_of}
use Rattle.gx_types.specs.SchemaInvariant.{HoldsOfEach}
use Rattle.gx_tree.specs.declared.attribute.Attribute.{Attribute}
use Rattle.gx_tree.specs.PlainTree.{PlainTree, document, element, attribute, text}
use Rattle.gx_tree.specs.Erasure.{AreUntypedAtomic}
use Rattle.gx_model.specs.Forest.{Forest, PlainNode, then_found, own_attributes, tree_at, attribute_at, node_in}
use Rattle.gx_model.specs.DeclaredContent.{uses_allowed}
use Rattle.gx_model.specs.TypedTree.{IsAllowedAttribute, IsTypedAttribute, IsTyped}
use Rattle.gx_model.specs.Honest.{IsHonestTree, IsHonest}
use Rattle.gx_steptype.proofs.HonestNodes.{tree_is_honest, honest_at}

-- what is known of what stands there
abbrev pub PlaceFact : SchemaSet → PlainTree → Type 0
PlaceFact s (document ts) = IsTyped s (document ts)
PlaceFact s (element n k l ts) = IsTyped s (element n k l ts)
PlaceFact s (attribute a) = (a.kind ≡ Builtin UntypedAtomic) ⊎ IsTypedAttribute s a
PlaceFact s (text x) = Unit {0}

tree_fact : (s : SchemaSet) (t : PlainTree) → IsTyped s t → PlaceFact s t
tree_fact s (document ts) h = h
tree_fact s (element n k l ts) h = h
tree_fact s (attribute a) h = h
tree_fact s (text x) h = tt

-- attributes

untyped_among : (l : List Attribute) (n : ℕ) (a : Attribute) → AreUntypedAtomic l → slice_get l n ≡ Some a → a.kind ≡ Builtin UntypedAtomic
untyped_among [] n a h e = absurd (cc)
untyped_among (b ∷ l) zero a h e = let same : b ≡ a = cc in subst (λ (c : Attribute). c.kind ≡ Builtin UntypedAtomic) same h.0
untyped_among (b ∷ l) (suc n) a h e = untyped_among l n a h.1 e

one_holds : (Fact : Attribute → Type 0) (l : List Attribute) (n : ℕ) (a : Attribute) → HoldsOfEach Fact l → slice_get l n ≡ Some a → Fact a
one_holds Fact [] n a h e = absurd (cc)
one_holds Fact (b ∷ l) zero a h e = let same : b ≡ a = cc in subst Fact same h.0
one_holds Fact (b ∷ l) (suc n) a h e = one_holds Fact l n a h.1 e

attribute_fact : (s : SchemaSet) (t : PlainTree) (n : ℕ) (a : Attribute) → IsTyped s t → slice_get (own_attributes t) n ≡ Some a → PlaceFact s (attribute a)
attribute_fact s (document ts) n a h e = absurd (cc)
attribute_fact s (element m k l ts) n a (inl u) e = inl (untyped_among l n a u.1 e)
attribute_fact s (element m k l ts) n a (inr h) e =
    let keeps = h.0 in
    let allowed = one_holds (IsAllowedAttribute s (uses_allowed (declaration_of s k))) l n a keeps.allowed e in inr allowed.typed
attribute_fact s (attribute b) n a h e = absurd (cc)
attribute_fact s (text x) n a h e = absurd (cc)

attribute_found : (s : SchemaSet) (u t : PlainTree) (n : ℕ) (o : Option Attribute) → IsTyped s u → slice_get (own_attributes u) n ≡ o → option_map attribute o ≡ Some t → PlaceFact s t
attribute_found s u t n None h e f = absurd (cc)
attribute_found s u t n (Some a) h e f = let same : attribute a ≡ t = cc in subst (PlaceFact s) same (attribute_fact s u n a h e)

-- places

place_found : (s : SchemaSet) (own : Option ℕ) (u t : PlainTree) → IsTyped s u → attribute_at own u ≡ Some t → PlaceFact s t
place_found s None u t h e = let same : u ≡ t = cc in subst (PlaceFact s) same (tree_fact s u h)
place_found s (Some n) u t h e = attribute_found s u t n (slice_get (own_attributes u) n) h refl e

path_found : (s : SchemaSet) (path : List ℕ) (own : Option ℕ) (root : PlainTree) (o : Option PlainTree) (t : PlainTree) → IsHonestTree s root → tree_at root path ≡ o
    → then_found o (attribute_at own) ≡ Some t → PlaceFact s t
path_found s path own root None t h e f = absurd (cc)
path_found s path own root (Some u) t h e f = let honest = honest_at s path root u h e in place_found s own u t honest.typed f

tree_found : (s : SchemaSet) (forest : Forest) (n : ℕ) (path : List ℕ) (own : Option ℕ) (o : Option PlainTree) (t : PlainTree) → IsHonest s forest → slice_get forest n ≡ o
    → then_found o (λ root. then_found (tree_at root path) (attribute_at own)) ≡ Some t → PlaceFact s t
tree_found s forest n path own None t h e f = absurd (cc)
tree_found s forest n path own (Some root) t h e f = path_found s path own root (tree_at root path) t (tree_is_honest s forest n root h e) refl f

pub place_fact : (s : SchemaSet) (forest : Forest) (place : PlainNode) (t : PlainTree) → IsHonest s forest → node_in forest place ≡ Some t → PlaceFact s t
place_fact s forest place t h e = tree_found s forest place.tree place.path place.attribute (slice_get forest place.tree) t h refl e
