-- Steps to descendants and ancestors keep their types.
use Rattle.std.proofs.Common.{◌≡◌, ℕ, ◌+◌, Bool, true, false, ◌||◌, ◌&&◌, List, [], ◌∷◌, ◌++◌, map, length, length-append, Option, None, Some, is_some, ◌⊎◌, zero, suc, inl, inr, refl, sym, ◌∙◌, ap, subst}
use Rattle.std.specs.List.{slice_get, list_any, AllByRecursion}
use Rattle.std.specs.Option.{option_map}
use Rattle.std.specs.Set.{is_member}
use Rattle.std.proofs.lemmas.Bool.{true≢false}
use Rattle.gx_closure.specs.Closure.{AreAmong}
use Rattle.gx_types.specs.declared.item_type.ItemType.{ItemType}
use Rattle.gx_types.specs.declared.item_type.ItemType.TheVariants as items
use Rattle.gx_types.specs.declared.shape.Shape.{Shape}
use Rattle.gx_types.specs.declared.shape.Shape.TheVariants as shapes
use Rattle.gx_types.specs.declared.step.Axis.TheVariants as axes
use Rattle.gx_types.specs.SameItemType.{same_item_type}
use Rattle.gx_types.specs.SchemaSet.{SchemaSet}
use Rattle.gx_types.specs.SchemaInvariant.{IsSchemaSet}
use Rattle.gx_types.specs.Derivation.{bases_of}
use Rattle.gx_types.specs.Grounded.{Grounded}
use Rattle.gx_types.specs.Choice.{choice_among}
use Rattle.gx_types.specs.Indicator.{star_of}
use Rattle.gx_types.specs.Prime.{items_of}
use Rattle.gx_types.specs.SequenceType.{SequenceType}
use Rattle.gx_types.specs.TypeRules.{joined_types}
use Rattle.gx_types.specs.ItemTakes.{ItemTakes}
use Rattle.gx_types.specs.Takes.{Takes, Each, EachShape, SomeTakes, SomeItemTakes}
use Rattle.gx_types.proofs.EqualTypes.{item_takes_equal}
use Rattle.gx_types.proofs.Joined.{singles, singles_joined}
use Rattle.gx_types.proofs.PublicLaws.{equality_is_an_equivalence, choice_takes_some, indicators_are_exact, items_take_each_shape, joined_types_are_a_sequence}
use Rattle.gx_tree.specs.declared.attribute.Attribute.{Attribute}
use Rattle.gx_tree.specs.PlainTree.{PlainTree, document, element, attribute, text, IsContent}
use Rattle.gx_model.specs.Forest.{then_found, children_of, own_attributes, tree_at, attribute_at}
use Rattle.gx_model.specs.Honest.{IsHonestTree}
use Rattle.gx_model.specs.Belongs.{shape_of}
use Rattle.gx_model.specs.Location.{Location, all_locations, located}
use Rattle.gx_model.specs.NodeTest.{KindTest, meets}
use Rattle.gx_model.specs.Axes.{some_steps, is_itself, leads_to, locations_on}
use Rattle.gx_model.proofs.ListLemmas.{nothing_passes}
use Rattle.gx_model.specs.Axes.{passes_there}
use Rattle.gx_steptype.specs.StepType.{child_type, child_kinds, grandchild_kinds, descendant_kinds, ancestor_kinds, all_parent_kinds, descendant_type, ancestor_type}
use Rattle.gx_steptype.specs.TestedType.{tested_item}
use Rattle.gx_steptype.proofs.Arrangements.{factored_takes_members}
use Rattle.gx_steptype.proofs.ChildTypes.{child_takes}
use Rattle.gx_steptype.proofs.DescendantKinds.{descendants_are_least}
use Rattle.gx_steptype.proofs.FarWays.{at, itself_is_there, FoundEach, each_found, as_many_found, descendant_is_below, ancestor_is_above, seen_below, seen_above, self_comes_first, attribute_alone, as_many_with_itself}
use Rattle.gx_steptype.proofs.FormedShapes.{IsFormed}
use Rattle.gx_steptype.proofs.FoundNodes.{Found, found_kept, node_passes}
use Rattle.gx_steptype.proofs.HonestNodes.{child_is_honest, shape_is_formed, honest_at, element_is_any, element_is_honest}
use Rattle.gx_steptype.proofs.NearSteps.{StepTakes, self_stands, self_step}
use Rattle.gx_steptype.proofs.OwnAttributes.{attribute_shape}
use Rattle.gx_steptype.proofs.PassingShapes.{passing}
use Rattle.gx_steptype.proofs.Replacing.{append_nil}
use Rattle.gx_steptype.proofs.Testing.{kept, tested_takes}

-- item types that take a shape

member_takes : (s : SchemaSet) (found : List ItemType) (kind : ItemType) (x : Shape) → is_member same_item_type found kind ≡ true → ItemTakes s kind x → SomeItemTakes s found x
member_takes s [] kind x e i = absurd (true≢false (sym e))
member_takes s (k ∷ found) kind x e i = by (λ f. member_takes s found kind x f i) (same_item_type kind k) refl e
  where
    by : (list_any (same_item_type kind) found ≡ true → SomeItemTakes s found x) → (b : Bool) → same_item_type kind k ≡ b → b || list_any (same_item_type kind) found ≡ true
        → ItemTakes s k x ⊎ SomeItemTakes s found x
    by rest true f g = inl (item_takes_equal s k kind x (equality_is_an_equivalence.item_types.symm k kind ∙ f) i)
    by rest false f g = inr (rest g)

among_takes : (s : SchemaSet) (found kinds : List ItemType) (x : Shape) → AreAmong same_item_type found kinds → SomeItemTakes s kinds x → SomeItemTakes s found x
among_takes s found [] x a h = absurd h
among_takes s found (k ∷ kinds) x a (inl h) = member_takes s found k x a.0 h
among_takes s found (k ∷ kinds) x a (inr h) = among_takes s found kinds x a.1 h

record Taker (s : SchemaSet) (Fact : ItemType → Type 0) (x : Shape) : Type 0 where
  kind : ItemType
  takes : ItemTakes s kind x
  fact : Fact kind

taker_among : (s : SchemaSet) (Fact : ItemType → Type 0) (kinds : List ItemType) (x : Shape) → AllByRecursion Fact kinds → SomeItemTakes s kinds x → Taker s Fact x
taker_among s Fact [] x a h = absurd h
taker_among s Fact (k ∷ kinds) x a (inl h) = record { kind = k; takes = h; fact = a.0 }
taker_among s Fact (k ∷ kinds) x a (inr h) = taker_among s Fact kinds x a.1 h

each_weaker : (P Q : Shape → Type 0) → ((x : Shape) → P x → Q x) → (xs : List Shape) → EachShape P xs → EachShape Q xs
each_weaker P Q f [] h = tt
each_weaker P Q f (x ∷ xs) h = (f x h.0, each_weaker P Q f xs h.1)

-- what a test leaves of any number of nodes

passing_taken : (s : SchemaSet) → Grounded (bases_of s) → (test : KindTest) (kinds : List ItemType) (x : Shape) → IsFormed s x → meets s test x ≡ true → SomeItemTakes s kinds x
    → SomeTakes s (map (tested_item s test) kinds) (x ∷ [])
passing_taken s g test [] x p e h = absurd h
passing_taken s g test (k ∷ kinds) x p e (inl h) = inl (subst (λ (b : Bool). Takes s (tested_item s test k) (kept b x)) e (tested_takes s g test k x p h))
passing_taken s g test (k ∷ kinds) x p e (inr h) = inr (passing_taken s g test kinds x p e h)

each_chosen : (s : SchemaSet) (ts : List SequenceType) (out : List Shape) → EachShape (λ x. SomeTakes s ts (x ∷ [])) out → Each (Takes s (choice_among ts)) (singles out)
each_chosen s ts [] h = tt
each_chosen s ts (x ∷ out) h = ((choice_takes_some s ts (x ∷ [])).0 h.0, each_chosen s ts out h.1)

any_takes : (s : SchemaSet) (ts : List SequenceType) (out : List Shape) → EachShape (λ x. SomeTakes s ts (x ∷ [])) out → Takes s (star_of (choice_among ts)) out
any_takes s ts out h = (indicators_are_exact.star s (choice_among ts) out).0 (singles out, singles_joined out, each_chosen s ts out h)

-- descendants

-- item types of a list take the children of a node
abbrev ChildrenTaken : SchemaSet → List ItemType → PlainTree → Type 0
ChildrenTaken s found u = (n : ℕ) (c : PlainTree) → slice_get (children_of u) n ≡ Some c → SomeItemTakes s found (shape_of c)

each_child : (P : Shape → Type 0) (us : List PlainTree) → EachShape P (map shape_of us) → (n : ℕ) (c : PlainTree) → slice_get us n ≡ Some c → P (shape_of c)
each_child P [] h n c e = absurd (cc)
each_child P (u ∷ us) h zero c e = let same : u ≡ c = cc in subst (λ (v : PlainTree). P (shape_of v)) same h.0
each_child P (u ∷ us) h (suc n) c e = each_child P us h.1 n c e

children_taken : (s : SchemaSet) → IsSchemaSet s → (found : List ItemType) (u : PlainTree) → IsHonestTree s u → (kind : ItemType) → ItemTakes s kind (shape_of u)
    → AreAmong same_item_type found (child_kinds s kind) → ChildrenTaken s found u
children_taken s is found u h kind i a n c e =
    among_takes s found (child_kinds s kind) (shape_of c) a
    (each_child (SomeItemTakes s (child_kinds s kind)) (children_of u) (items_take_each_shape s (child_type s kind) (map shape_of (children_of u)) (child_takes s is u h kind i)) n c e)

-- a child is no document
as_grandchild : (s : SchemaSet) (kind : ItemType) (c : PlainTree) → IsContent c → ItemTakes s kind (shape_of c) → grandchild_kinds s kind ≡ child_kinds s kind
as_grandchild s (items.Element w t) c p i = refl
as_grandchild s (items.Attribute w t) c p i = refl
as_grandchild s items.Text c p i = refl
as_grandchild s (items.Atom t) c p i = refl
as_grandchild s (items.Document None) (element n k l ts) p i = absurd i
as_grandchild s (items.Document (Some e)) (element n k l ts) p i = absurd i
as_grandchild s (items.Document None) (text x) p i = absurd i
as_grandchild s (items.Document (Some e)) (text x) p i = absurd i
as_grandchild s (items.Document None) (document ts) p i = absurd p
as_grandchild s (items.Document (Some e)) (document ts) p i = absurd p
as_grandchild s (items.Document None) (attribute a) p i = absurd p
as_grandchild s (items.Document (Some e)) (attribute a) p i = absurd p

abbrev IsClosed : SchemaSet → List ItemType → Type 0
IsClosed s found = AllByRecursion (λ kind. AreAmong same_item_type found (grandchild_kinds s kind)) found

-- a child is taken, and its children are
record ChildTaken (s : SchemaSet) (found : List ItemType) (c : PlainTree) : Type 0 where
  honest : IsHonestTree s c
  formed : IsFormed s (shape_of c)
  taken : SomeItemTakes s found (shape_of c)
  below : ChildrenTaken s found c

child_is_taken : (s : SchemaSet) → IsSchemaSet s → (found : List ItemType) → IsClosed s found → (u c : PlainTree) (n : ℕ) → IsHonestTree s u → ChildrenTaken s found u
    → slice_get (children_of u) n ≡ Some c → ChildTaken s found c
child_is_taken s is found closed u c n h k e =
    let i = child_is_honest s u n c h e in
    let t = taker_among s (λ kind. AreAmong same_item_type found (grandchild_kinds s kind)) found (shape_of c) closed (k n c e) in
    record {
      honest = i.honest;
      formed = shape_is_formed s is c i.honest.typed;
      taken = k n c e;
      below = children_taken s is found c i.honest t.kind t.takes (subst (AreAmong same_item_type found) (as_grandchild s t.kind c i.content t.takes) t.fact);
    }

through_child : (s : SchemaSet) → IsSchemaSet s → (found : List ItemType) → IsClosed s found → (way : List ℕ) (n : ℕ) (u v : PlainTree) → IsHonestTree s u → ChildrenTaken s found u
    → ((c : PlainTree) → ChildTaken s found c → tree_at c way ≡ Some v → ChildTaken s found v)
    → (o : Option PlainTree) → slice_get (children_of u) n ≡ o → then_found o (λ c. tree_at c way) ≡ Some v → ChildTaken s found v
through_child s is found closed way n u v h k next None f e = absurd (cc)
through_child s is found closed way n u v h k next (Some c) f e = next c (child_is_taken s is found closed u c n h k f) e

below_taken : (s : SchemaSet) → IsSchemaSet s → (found : List ItemType) → IsClosed s found → (way : List ℕ) (n : ℕ) (u v : PlainTree) → IsHonestTree s u → ChildrenTaken s found u
    → tree_at u (n ∷ way) ≡ Some v → ChildTaken s found v
below_taken s is found closed [] n u v h k e =
    through_child s is found closed [] n u v h k (λ c t f. let same : c ≡ v = cc in subst (ChildTaken s found) same t) (slice_get (children_of u) n) refl e
below_taken s is found closed (m ∷ way) n u v h k e =
    through_child s is found closed (m ∷ way) n u v h k (λ c t f. below_taken s is found closed way m c v t.honest t.below f) (slice_get (children_of u) n) refl e

-- what a step to descendants finds is taken, whatever item type takes the node
abbrev DescendantTaken : SchemaSet → KindTest → Shape → Shape → Type 0
DescendantTaken s test x y = (kind : ItemType) → ItemTakes s kind x → SomeTakes s (map (tested_item s test) (descendant_kinds s kind)) (y ∷ [])

descendant_taken : (s : SchemaSet) → IsSchemaSet s → (test : KindTest) (t u : PlainTree) (path : List ℕ) → IsHonestTree s u → tree_at t path ≡ Some u
    → (to : Location) (v : PlainTree) → leads_to axes.Descendant (at path None) to ≡ true → located t to ≡ Some v → node_passes s test v ≡ true → DescendantTaken s test (shape_of u) (shape_of v)
descendant_taken s is test t u path h e to v l f p kind i =
    let b = descendant_is_below path to l in
    let least = descendants_are_least s kind in
    let taken =
    below_taken s is (descendant_kinds s kind) least.closed b.way b.first u v h (children_taken s is (descendant_kinds s kind) u h kind i least.holds) (seen_below t u v path to e b f) in
    passing_taken s is.grounded test (descendant_kinds s kind) (shape_of v) taken.formed p taken.taken

descendants_found : (s : SchemaSet) → IsSchemaSet s → (test : KindTest) (t u : PlainTree) (path : List ℕ) → IsHonestTree s u → tree_at t path ≡ Some u
    → FoundEach (DescendantTaken s test (shape_of u)) t (locations_on (leads_to axes.Descendant (at path None)) (node_passes s test) t)
descendants_found s is test t u path h e =
    each_found (DescendantTaken s test (shape_of u)) (leads_to axes.Descendant (at path None)) (node_passes s test) t (descendant_taken s is test t u path h e) (all_locations t)

descendants_take : (s : SchemaSet) (test : KindTest) (x : Shape) (out : List Shape) → EachShape (DescendantTaken s test x) out → (kind : ItemType) → ItemTakes s kind x → Takes s (descendant_type s test kind) out
descendants_take s test x out h kind i =
    any_takes s (map (tested_item s test) (descendant_kinds s kind)) out (each_weaker (DescendantTaken s test x) (λ y. SomeTakes s (map (tested_item s test) (descendant_kinds s kind)) (y ∷ [])) (λ y k. k kind i) out h)

pub descendant_step : (s : SchemaSet) → IsSchemaSet s → (test : KindTest) (t u : PlainTree) (path : List ℕ) → IsHonestTree s u → tree_at t path ≡ Some u → StepTakes s test axes.Descendant t (at path None) (shape_of u)
descendant_step s is test t u path h e =
    let found = descendants_found s is test t u path h e in
    record { out = found.out; found = found.found; takes = λ kind i. descendants_take s test (shape_of u) found.out found.each kind i }

pub descendant_or_self_step : (s : SchemaSet) → IsSchemaSet s → (test : KindTest) (t u : PlainTree) (path : List ℕ) → IsHonestTree s u → tree_at t path ≡ Some u
    → StepTakes s test axes.DescendantOrSelf t (at path None) (shape_of u)
descendant_or_self_step s is test t u path h e =
    let found = descendants_found s is test t u path h e in
    record {
      out = passing s test (shape_of u) ++ found.out;
      found =
          subst (λ (ls : List Location). Found t ls (passing s test (shape_of u) ++ found.out)) (sym (self_comes_first (node_passes s test) path t u e))
          (found_kept t (node_passes s test u) (at path None) (shape_of u) (locations_on (leads_to axes.Descendant (at path None)) (node_passes s test) t) found.out
          (ap (λ (o : Option PlainTree). option_map shape_of (then_found o (attribute_at None))) e) found.found);
      takes =
          λ kind i.
          (joined_types_are_a_sequence s (tested_item s test kind) (descendant_type s test kind) (passing s test (shape_of u) ++ found.out)).0 (
            passing s test (shape_of u),
            found.out,
            refl,
            tested_takes s is.grounded test kind (shape_of u) (shape_is_formed s is u h.typed) i,
            descendants_take s test (shape_of u) found.out found.each kind i,
          );
    }

-- an attribute has no descendants

pub descendant_step_from_attribute : (s : SchemaSet) (test : KindTest) (t : PlainTree) (path : List ℕ) (n : ℕ) (x : Shape) → StepTakes s test axes.Descendant t (at path (Some n)) x
descendant_step_from_attribute s test t path n x = record {
  out = [];
  found =
      subst (λ (ls : List Location). Found t ls [])
      (sym (nothing_passes (λ to. leads_to axes.Descendant (at path (Some n)) to && passes_there (node_passes s test) (located t to)) (λ to. refl) (all_locations t))) tt;
  takes = λ kind i. any_takes s (map (tested_item s test) (descendant_kinds s kind)) [] tt;
}

pub descendant_or_self_step_from_attribute : (s : SchemaSet) → Grounded (bases_of s) → (test : KindTest) (t v : PlainTree) (path : List ℕ) (n : ℕ) → located t (at path (Some n)) ≡ Some v → IsFormed s (shape_of v)
    → StepTakes s test axes.DescendantOrSelf t (at path (Some n)) (shape_of v)
descendant_or_self_step_from_attribute s g test t v path n e p =
    let itself = self_step s g test t v path (Some n) e p in
    record {
      out = itself.out;
      found = subst (λ (ls : List Location). Found t ls itself.out) (sym (attribute_alone (node_passes s test) path n t)) itself.found;
      takes =
          λ kind i.
          (joined_types_are_a_sequence s (tested_item s test kind) (descendant_type s test kind) itself.out).0 (
            itself.out,
            [],
            sym (append_nil itself.out),
            itself.takes kind i,
            any_takes s (map (tested_item s test) (descendant_kinds s kind)) [] tt,
          );
    }

-- ancestors

-- a shape of what may stand in an element
abbrev pub IsInside : Shape → Type 0
IsInside (shapes.Elem n t) = Unit {0}
IsInside (shapes.Attr n t) = Unit {0}
IsInside shapes.Text = Unit {0}
IsInside (shapes.Doc child) = ⊥
IsInside (shapes.Atom t) = ⊥

ancestors_of : (s : SchemaSet) (kind : ItemType) (x : Shape) → IsInside x → ItemTakes s kind x → ancestor_kinds kind ≡ all_parent_kinds
ancestors_of s (items.Element w t) x p i = refl
ancestors_of s (items.Attribute w t) x p i = refl
ancestors_of s items.Text x p i = refl
ancestors_of s (items.Document None) (shapes.Doc child) p i = absurd p
ancestors_of s (items.Document (Some e)) (shapes.Doc child) p i = absurd p
ancestors_of s (items.Document None) (shapes.Elem n t) p i = absurd i
ancestors_of s (items.Document None) (shapes.Attr n t) p i = absurd i
ancestors_of s (items.Document None) shapes.Text p i = absurd i
ancestors_of s (items.Document None) (shapes.Atom t) p i = absurd p
ancestors_of s (items.Document (Some e)) (shapes.Elem n t) p i = absurd i
ancestors_of s (items.Document (Some e)) (shapes.Attr n t) p i = absurd i
ancestors_of s (items.Document (Some e)) shapes.Text p i = absurd i
ancestors_of s (items.Document (Some e)) (shapes.Atom t) p i = absurd p
ancestors_of s (items.Atom t) (shapes.Atom u) p i = absurd p
ancestors_of s (items.Atom t) (shapes.Elem n u) p i = absurd i
ancestors_of s (items.Atom t) (shapes.Attr n u) p i = absurd i
ancestors_of s (items.Atom t) shapes.Text p i = absurd i
ancestors_of s (items.Atom t) (shapes.Doc child) p i = absurd p

content_is_inside : (u : PlainTree) → IsContent u → IsInside (shape_of u)
content_is_inside (document ts) p = absurd p
content_is_inside (element n k l ts) p = tt
content_is_inside (attribute a) p = absurd p
content_is_inside (text x) p = tt

-- what has a child is an element or a document
with_child : (s : SchemaSet) → Grounded (bases_of s) → (v : PlainTree) (n : ℕ) (c : PlainTree) → IsHonestTree s v → slice_get (children_of v) n ≡ Some c → SomeItemTakes s all_parent_kinds (shape_of v)
with_child s g (document ts) n c h e = inr (inl tt)
with_child s g (element m k l ts) n c h e = inl (refl, element_is_any s k l ts g (element_is_honest s m k l ts h.typed))
with_child s g (attribute a) n c h e = absurd (cc)
with_child s g (text x) n c h e = absurd (cc)

-- and what has an attribute is an element
with_attribute : (s : SchemaSet) → Grounded (bases_of s) → (v : PlainTree) (n : ℕ) (a : Attribute) → IsHonestTree s v → slice_get (own_attributes v) n ≡ Some a → SomeItemTakes s all_parent_kinds (shape_of v)
with_attribute s g (element m k l ts) n a h e = inl (refl, element_is_any s k l ts g (element_is_honest s m k l ts h.typed))
with_attribute s g (document ts) n a h e = absurd (cc)
with_attribute s g (attribute b) n a h e = absurd (cc)
with_attribute s g (text x) n a h e = absurd (cc)

-- a node from which a way leads down to another one
record IsOver (s : SchemaSet) (v u : PlainTree) : Type 0 where
  taken : SomeItemTakes s all_parent_kinds (shape_of v)
  inside : IsContent u

over_child : (s : SchemaSet) → Grounded (bases_of s) → (way : List ℕ) (n : ℕ) (v u : PlainTree) → IsHonestTree s v
    → ((c : PlainTree) → IsHonestTree s c → IsContent c → tree_at c way ≡ Some u → IsContent u)
    → (o : Option PlainTree) → slice_get (children_of v) n ≡ o → then_found o (λ c. tree_at c way) ≡ Some u → IsOver s v u
over_child s g way n v u h next None f e = absurd (cc)
over_child s g way n v u h next (Some c) f e =
    let i = child_is_honest s v n c h f in record { taken = with_child s g v n c h f; inside = next c i.honest i.content e }

leads_over : (s : SchemaSet) → Grounded (bases_of s) → (way : List ℕ) (n : ℕ) (v u : PlainTree) → IsHonestTree s v → tree_at v (n ∷ way) ≡ Some u → IsOver s v u
leads_over s g [] n v u h e = over_child s g [] n v u h (λ c i p f. let same : c ≡ u = cc in subst IsContent same p) (slice_get (children_of v) n) refl e
leads_over s g (m ∷ way) n v u h e = over_child s g (m ∷ way) n v u h (λ c i p f. (leads_over s g way m c u i f).inside) (slice_get (children_of v) n) refl e

-- an ancestor of a node, or of an attribute of it
record AncestorOf (s : SchemaSet) (v : PlainTree) (x : Shape) : Type 0 where
  taken : SomeItemTakes s all_parent_kinds (shape_of v)
  inside : IsInside x

abbrev HasAttribute : PlainTree → Option ℕ → Shape → Type 0
HasAttribute u None x = x ≡ shape_of u
HasAttribute u (Some n) x = (a : Attribute) × (slice_get (own_attributes u) n ≡ Some a) × (x ≡ attribute_shape a)

ancestor_of : (s : SchemaSet) → Grounded (bases_of s) → (way : List ℕ) (own : Option ℕ) (v u : PlainTree) (x : Shape) → (is_some own || some_steps way) ≡ true → HasAttribute u own x → IsHonestTree s v
    → tree_at v way ≡ Some u → AncestorOf s v x
ancestor_of s g [] None v u x f a h e = absurd (true≢false (sym f))
ancestor_of s g (n ∷ way) None v u x f a h e =
    let over = leads_over s g way n v u h e in record { taken = over.taken; inside = subst IsInside (sym a) (content_is_inside u over.inside) }
ancestor_of s g [] (Some n) v u x f a h e =
    let same : v ≡ u = cc in
    record { taken = with_attribute s g v n a.0 h (ap (λ (w : PlainTree). slice_get (own_attributes w) n) same ∙ a.1); inside = subst IsInside (sym a.2) tt }
ancestor_of s g (m ∷ way) (Some n) v u x f a h e =
    let over = leads_over s g way m v u h e in record { taken = over.taken; inside = subst IsInside (sym a.2) tt }

abbrev AncestorTaken : SchemaSet → KindTest → Shape → Shape → Type 0
AncestorTaken s test x y = (kind : ItemType) → ItemTakes s kind x → SomeTakes s (map (tested_item s test) (ancestor_kinds kind)) (y ∷ [])

ancestor_taken : (s : SchemaSet) → IsSchemaSet s → (test : KindTest) (t u : PlainTree) (path : List ℕ) (own : Option ℕ) (x : Shape) → IsHonestTree s t → tree_at t path ≡ Some u → HasAttribute u own x
    → (to : Location) (v : PlainTree) → leads_to axes.Ancestor (at path own) to ≡ true → located t to ≡ Some v → node_passes s test v ≡ true → AncestorTaken s test x (shape_of v)
ancestor_taken s is test t u path own x h e a to v l f p kind i =
    let seen = seen_above t u v path own to e (ancestor_is_above path own to l) f in
    let honest = honest_at s to.path t v h seen.there in
    let over = ancestor_of s is.grounded seen.above.way own v u x seen.above.farther a honest seen.below in
    subst (λ (kinds : List ItemType). SomeTakes s (map (tested_item s test) kinds) (shape_of v ∷ [])) (sym (ancestors_of s kind x over.inside i))
    (passing_taken s is.grounded test all_parent_kinds (shape_of v) (shape_is_formed s is v honest.typed) p over.taken)

ancestors_found : (s : SchemaSet) → IsSchemaSet s → (test : KindTest) (t u : PlainTree) (path : List ℕ) (own : Option ℕ) (x : Shape) → IsHonestTree s t → tree_at t path ≡ Some u → HasAttribute u own x
    → FoundEach (AncestorTaken s test x) t (locations_on (leads_to axes.Ancestor (at path own)) (node_passes s test) t)
ancestors_found s is test t u path own x h e a =
    each_found (AncestorTaken s test x) (leads_to axes.Ancestor (at path own)) (node_passes s test) t (ancestor_taken s is test t u path own x h e a) (all_locations t)

ancestors_take : (s : SchemaSet) (test : KindTest) (x : Shape) (out : List Shape) → EachShape (AncestorTaken s test x) out → (kind : ItemType) → ItemTakes s kind x → Takes s (ancestor_type s test kind) out
ancestors_take s test x out h kind i =
    any_takes s (map (tested_item s test) (ancestor_kinds kind)) out (each_weaker (AncestorTaken s test x) (λ y. SomeTakes s (map (tested_item s test) (ancestor_kinds kind)) (y ∷ [])) (λ y k. k kind i) out h)

pub ancestor_step : (s : SchemaSet) → IsSchemaSet s → (test : KindTest) (t u : PlainTree) (path : List ℕ) (own : Option ℕ) (x : Shape) → IsHonestTree s t → tree_at t path ≡ Some u → HasAttribute u own x
    → StepTakes s test axes.Ancestor t (at path own) x
ancestor_step s is test t u path own x h e a =
    let found = ancestors_found s is test t u path own x h e a in
    record { out = found.out; found = found.found; takes = λ kind i. ancestors_take s test x found.out found.each kind i }

-- the node itself with its ancestors

-- the item types of the step's type, before these are put together
abbrev with_ancestors : SchemaSet → KindTest → ItemType → SequenceType
with_ancestors s test kind = joined_types (tested_item s test kind) (ancestor_type s test kind)

abbrev SelfOrAncestorTaken : SchemaSet → KindTest → Shape → Shape → Type 0
SelfOrAncestorTaken s test x y = (kind : ItemType) → ItemTakes s kind x → SomeItemTakes s (items_of (with_ancestors s test kind)) y

all_together : (s : SchemaSet) → Grounded (bases_of s) → (test : KindTest) (x : Shape) (out : List Shape) → IsFormed s x → EachShape (AncestorTaken s test x) out → (kind : ItemType) → ItemTakes s kind x
    → Takes s (with_ancestors s test kind) (passing s test x ++ out)
all_together s g test x out p h kind i =
    (joined_types_are_a_sequence s (tested_item s test kind) (ancestor_type s test kind) (passing s test x ++ out)).0
    (passing s test x, out, refl, tested_takes s g test kind x p i, ancestors_take s test x out h kind i)

last_holds : (P : Shape → Type 0) (front : List Shape) (y : Shape) → EachShape P (front ++ y ∷ []) → P y
last_holds P [] y h = h.0
last_holds P (x ∷ front) y h = last_holds P front y h.1

ancestor_among : (s : SchemaSet) → Grounded (bases_of s) → (test : KindTest) (x y : Shape) → IsFormed s x → AncestorTaken s test x y → SelfOrAncestorTaken s test x y
ancestor_among s g test x y p h kind i =
    last_holds (SomeItemTakes s (items_of (with_ancestors s test kind))) (passing s test x) y
    (items_take_each_shape s (with_ancestors s test kind) (passing s test x ++ y ∷ []) (all_together s g test x (y ∷ []) p (h, tt) kind i))

self_among : (s : SchemaSet) → Grounded (bases_of s) → (test : KindTest) (x : Shape) → IsFormed s x → meets s test x ≡ true → SelfOrAncestorTaken s test x x
self_among s g test x p e kind i =
    let whole : Takes s (with_ancestors s test kind) (x ∷ []) = subst (λ (b : Bool). Takes s (with_ancestors s test kind) (kept b x ++ [])) e (all_together s g test x [] p tt kind i) in
    (items_take_each_shape s (with_ancestors s test kind) (x ∷ []) whole).0

self_or_ancestor_taken : (s : SchemaSet) → IsSchemaSet s → (test : KindTest) (t u v0 : PlainTree) (path : List ℕ) (own : Option ℕ) → IsHonestTree s t → tree_at t path ≡ Some u → HasAttribute u own (shape_of v0)
    → located t (at path own) ≡ Some v0 → IsFormed s (shape_of v0)
    → (to : Location) (v : PlainTree) → leads_to axes.AncestorOrSelf (at path own) to ≡ true → located t to ≡ Some v → node_passes s test v ≡ true → SelfOrAncestorTaken s test (shape_of v0) (shape_of v)
self_or_ancestor_taken s is test t u v0 path own h e a f p to v l g k = by (is_itself (at path own) to) refl l
  where
    by : (b : Bool) → is_itself (at path own) to ≡ b → b || leads_to axes.Ancestor (at path own) to ≡ true → SelfOrAncestorTaken s test (shape_of v0) (shape_of v)
    by true j m =
        let there : Some v ≡ Some v0 = sym g ∙ itself_is_there t path own to j ∙ f in
        let same : v ≡ v0 = cc in
        subst (λ (w : PlainTree). SelfOrAncestorTaken s test (shape_of v0) (shape_of w)) (sym same)
        (self_among s is.grounded test (shape_of v0) p (subst (λ (w : PlainTree). meets s test (shape_of w) ≡ true) same k))
    by false j m = ancestor_among s is.grounded test (shape_of v0) (shape_of v) p (ancestor_taken s is test t u path own (shape_of v0) h e a to v m g k)

pub ancestor_or_self_step : (s : SchemaSet) → IsSchemaSet s → (test : KindTest) (t u v0 : PlainTree) (path : List ℕ) (own : Option ℕ) → IsHonestTree s t → tree_at t path ≡ Some u → HasAttribute u own (shape_of v0)
    → located t (at path own) ≡ Some v0 → IsFormed s (shape_of v0) → StepTakes s test axes.AncestorOrSelf t (at path own) (shape_of v0)
ancestor_or_self_step s is test t u v0 path own h e a f p =
    let found =
    each_found (SelfOrAncestorTaken s test (shape_of v0)) (leads_to axes.AncestorOrSelf (at path own)) (node_passes s test) t (self_or_ancestor_taken s is test t u v0 path own h e a f p) (all_locations t) in
    let above = ancestors_found s is test t u path own (shape_of v0) h e a in
    let count : length found.out ≡ length (passing s test (shape_of v0) ++ above.out) =
    sym (as_many_found t (locations_on (leads_to axes.AncestorOrSelf (at path own)) (node_passes s test) t) found.out found.found)
    ∙ as_many_with_itself (node_passes s test) path own t
    ∙ ap (λ (n : ℕ). n + length (locations_on (leads_to axes.Ancestor (at path own)) (node_passes s test) t)) (as_many_found t (locations_on (leads_to axes.SelfAxis (at path own)) (node_passes s test) t) (passing s test (shape_of v0)) (self_stands s test t v0 path own f))
    ∙ ap (λ (n : ℕ). length (passing s test (shape_of v0)) + n) (as_many_found t (locations_on (leads_to axes.Ancestor (at path own)) (node_passes s test) t) above.out above.found)
    ∙ sym (length-append (passing s test (shape_of v0)) above.out) in
    record {
      out = found.out;
      found = found.found;
      takes =
          λ kind i.
          factored_takes_members s (with_ancestors s test kind) (passing s test (shape_of v0) ++ above.out) found.out (sym count)
          (each_weaker (SelfOrAncestorTaken s test (shape_of v0)) (SomeItemTakes s (items_of (with_ancestors s test kind))) (λ y k. k kind i) found.out found.each)
          (all_together s is.grounded test (shape_of v0) above.out p above.each kind i);
    }
