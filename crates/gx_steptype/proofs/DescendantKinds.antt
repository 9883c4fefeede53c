-- The item types of descendants are the least closed list.
use Rattle.std.proofs.Common.{◌≡◌, ℕ, Bool, true, false, ◌||◌, List, [], ◌∷◌, ◌++◌, map, cond, None, Some, Result, Ok, Err, OnOk, refl, sym, ◌∙◌, ap, subst, if◌then◌else◌}
use Rattle.std.specs.List.{slice_get, list_any, flat_map, AllByRecursion}
use Rattle.std.specs.Set.{is_member}
use Rattle.std.proofs.lemmas.List.Folds.{list_any-append}
use Rattle.indexmap.specs.IndexSet.{insert_all}
use Rattle.gx_base.specs.declared.type_name.Builtin.TheVariants as builtins
use Rattle.gx_base.specs.declared.type_name.TypeName.{TypeName}
use Rattle.gx_base.specs.declared.type_name.TypeName.TheVariants as names
use Rattle.gx_closure.specs.Closure.{successors_of, AreAmong, IsGrown, IsLeastClosed}
use Rattle.gx_closure.proofs.Closures.{closure_keeps, is_least_closed, is_closure}
use Rattle.gx_types.specs.declared.item_type.ItemType.{ItemType}
use Rattle.gx_types.specs.declared.item_type.ItemType.TheVariants as items
use Rattle.gx_types.specs.SameItemType.{same_item_type}
use Rattle.gx_types.specs.SchemaSet.{SchemaSet}
use Rattle.gx_types.specs.SchemaInvariant.{HoldsOfEach}
use Rattle.gx_types.specs.Derivation.{is_derived}
use Rattle.gx_types.specs.Prime.{items_of}
use Rattle.gx_types.specs.SequenceType.{SequenceType}
use Rattle.gx_types.proofs.PublicLaws.{equality_is_an_equivalence}
use Rattle.gx_type_laws.proofs.Items.{listed_items_are_kept}
use Rattle.gx_type_laws.proofs.Kept.{choice_keeps}
use Rattle.gx_steptype.specs.DerivedTypes.{listed_types, derived_among, over_derived}
use Rattle.gx_steptype.specs.StepType.{content_of, is_ur_type, child_kinds, grandchild_kinds, all_child_kinds, descendant_kinds, parent_kinds, all_parent_kinds, ancestor_kinds}
use Rattle.gx_steptype.proofs.ChildTypes.{ur_type_is}

abbrev Among : List ItemType → List ItemType → Type 0
Among all kinds = AreAmong same_item_type all kinds

-- lists that hold others

or_true : (b : Bool) → b || true ≡ true
or_true true = refl
or_true false = refl

among_more : (kind : ItemType) (all kinds : List ItemType) → Among all kinds → Among (kind ∷ all) kinds
among_more kind all [] h = tt
among_more kind all (k ∷ kinds) h = (ap (λ (b : Bool). same_item_type k kind || b) h.0 ∙ or_true (same_item_type k kind), among_more kind all kinds h.1)

among_itself : (kinds : List ItemType) → Among kinds kinds
among_itself [] = tt
among_itself (k ∷ kinds) = (ap (λ (b : Bool). b || list_any (same_item_type k) kinds) (equality_is_an_equivalence.item_types.refl k), among_more k kinds kinds (among_itself kinds))

pub among_first : (first second kinds : List ItemType) → Among first kinds → Among (first ++ second) kinds
among_first first second [] h = tt
among_first first second (k ∷ kinds) h =
    (list_any-append (same_item_type k) first second ∙ ap (λ (b : Bool). b || list_any (same_item_type k) second) h.0, among_first first second kinds h.1)

pub among_second : (first second kinds : List ItemType) → Among second kinds → Among (first ++ second) kinds
among_second first second [] h = tt
among_second first second (k ∷ kinds) h = (
  list_any-append (same_item_type k) first second ∙ ap (λ (b : Bool). list_any (same_item_type k) first || b) h.0 ∙ or_true (list_any (same_item_type k) first),
  among_second first second kinds h.1,
)

-- the contents of all types

abbrev content_kinds : SchemaSet → TypeName → List ItemType
content_kinds s kind = items_of (content_of s kind)

each_of : {A : Type 0} (P Q : A → Type 0) → ((x : A) → P x → Q x) → (xs : List A) → HoldsOfEach P xs → HoldsOfEach Q xs
each_of P Q f [] h = tt
each_of P Q f (x ∷ xs) h = (f x h.0, each_of P Q f xs h.1)

each_content : (s : SchemaSet) (types : List TypeName) → HoldsOfEach (λ t. Among (flat_map (content_kinds s) types) (content_kinds s t)) types
each_content s [] = tt
each_content s (t ∷ types) = (
  among_first (content_kinds s t) (flat_map (content_kinds s) types) (content_kinds s t) (among_itself (content_kinds s t)),
  each_of (λ u. Among (flat_map (content_kinds s) types) (content_kinds s u)) (λ u. Among (content_kinds s t ++ flat_map (content_kinds s) types) (content_kinds s u))
      (λ u h. among_second (content_kinds s t) (flat_map (content_kinds s) types) (content_kinds s u) h) types (each_content s types),
)

-- the contents of some of them

as_each : (P : ItemType → Type 0) (kinds : List ItemType) → AllByRecursion P kinds → HoldsOfEach P kinds
as_each P [] h = tt
as_each P (k ∷ kinds) h = (h.0, as_each P kinds h.1)

as_all : (P : ItemType → Type 0) (kinds : List ItemType) → HoldsOfEach P kinds → AllByRecursion P kinds
as_all P [] h = tt
as_all P (k ∷ kinds) h = (h.0, as_all P kinds h.1)

-- what is among a list, as a fact of a type
abbrev HasAmong : List ItemType → SequenceType → Type 0
HasAmong all t = HoldsOfEach (λ kind. is_member same_item_type all kind ≡ true) (items_of t)

derived_contents : (s : SchemaSet) (kind : TypeName) (all : List ItemType) (types : List TypeName) → HoldsOfEach (λ t. Among all (content_kinds s t)) types
    → HoldsOfEach (HasAmong all) (map (content_of s) (derived_among s kind types))
derived_contents s kind all [] h = tt
derived_contents s kind all (t ∷ types) h = by (is_derived s t kind) (derived_contents s kind all types h.1)
  where
    by : (b : Bool) → HoldsOfEach (HasAmong all) (map (content_of s) (derived_among s kind types)) → HoldsOfEach (HasAmong all) (map (content_of s) (cond b (t ∷ derived_among s kind types) (derived_among s kind types)))
    by true rest = (as_each (λ k. is_member same_item_type all k ≡ true) (content_kinds s t) h.0, rest)
    by false rest = rest

derived_are_among : (s : SchemaSet) (kind : TypeName) → Among (all_child_kinds s) (items_of (over_derived s (content_of s) kind))
derived_are_among s kind =
    as_all (λ k. is_member same_item_type (all_child_kinds s) k ≡ true) (items_of (over_derived s (content_of s) kind))
    (choice_keeps (listed_items_are_kept (λ k. is_member same_item_type (all_child_kinds s) k ≡ true)) (map (content_of s) (derived_among s kind (listed_types s)))
    (derived_contents s kind (all_child_kinds s) (listed_types s) (each_content s (names.Builtin builtins.AnyType ∷ listed_types s)).1))

content_is_among : (s : SchemaSet) (kind : TypeName) (ur : Bool) → is_ur_type kind ≡ ur
    → Among (all_child_kinds s) (items_of (if ur then content_of s kind else over_derived s (content_of s) kind))
content_is_among s kind true e =
    subst (λ (t : TypeName). Among (all_child_kinds s) (content_kinds s t)) (sym (ur_type_is kind e)) (each_content s (names.Builtin builtins.AnyType ∷ listed_types s)).0
content_is_among s kind false e = derived_are_among s kind

grandchildren_are_among : (s : SchemaSet) (kind : ItemType) → Among (all_child_kinds s) (grandchild_kinds s kind)
grandchildren_are_among s (items.Element w t) = content_is_among s t (is_ur_type t) refl
grandchildren_are_among s (items.Attribute w t) = tt
grandchildren_are_among s items.Text = tt
grandchildren_are_among s (items.Document None) = tt
grandchildren_are_among s (items.Document (Some e)) = tt
grandchildren_are_among s (items.Atom t) = tt

pub children_within : (s : SchemaSet) (kind : ItemType) → Among (child_kinds s kind ++ all_child_kinds s) (child_kinds s kind)
children_within s kind = among_first (child_kinds s kind) (all_child_kinds s) (child_kinds s kind) (among_itself (child_kinds s kind))

pub grandchildren_within : (s : SchemaSet) (kind other : ItemType) → Among (child_kinds s kind ++ all_child_kinds s) (grandchild_kinds s other)
grandchildren_within s kind other = among_second (child_kinds s kind) (all_child_kinds s) (grandchild_kinds s other) (grandchildren_are_among s other)

pub descendants_are_least : (s : SchemaSet) (kind : ItemType) → IsLeastClosed same_item_type (grandchild_kinds s) (child_kinds s kind) (descendant_kinds s kind)
unfolding descendant_kinds
descendants_are_least s kind =
    is_least_closed same_item_type (grandchild_kinds s) equality_is_an_equivalence.item_types (child_kinds s kind ++ all_child_kinds s) (child_kinds s kind) (children_within s kind) (grandchildren_within s kind)

parents_within : (kind : ItemType) → Among all_parent_kinds (parent_kinds kind)
parents_within (items.Element w t) = (refl, (refl, tt))
parents_within (items.Attribute w t) = (refl, tt)
parents_within items.Text = (refl, (refl, tt))
parents_within (items.Document e) = tt
parents_within (items.Atom t) = tt

pub ancestors_are_least : (kind : ItemType) → IsLeastClosed same_item_type parent_kinds (parent_kinds kind) (ancestor_kinds kind)
ancestors_are_least kind = is_least_closed same_item_type parent_kinds equality_is_an_equivalence.item_types all_parent_kinds (parent_kinds kind) (parents_within kind) parents_within

-- what holds of the children, and of all that a child's children are where it holds of the child, holds of the descendants
pub descendant_kinds_hold : (s : SchemaSet) (kind : ItemType) (P : ItemType → Type 0) → HoldsOfEach P (child_kinds s kind) → ((other : ItemType) → P other → HoldsOfEach P (grandchild_kinds s other))
    → HoldsOfEach P (descendant_kinds s kind)
unfolding descendant_kinds
descendant_kinds_hold s kind P begins step =
    as_each P (descendant_kinds s kind)
    (closure_keeps same_item_type (grandchild_kinds s) P (child_kinds s kind ++ all_child_kinds s) (child_kinds s kind) (as_all P (child_kinds s kind) begins) (λ other h. as_all P (grandchild_kinds s other) (step other h)))

-- what is put behind the item types that are found, for the one at a place
pub successors_are_put : {X E : Type 0} (r : Result X E) (s : SchemaSet) (found new : List ItemType) (at : ℕ) (kind : ItemType) (content : List ItemType) → slice_get found at ≡ Some kind → content ≡ grandchild_kinds s kind
    → OnOk r (new ≡ insert_all same_item_type found content) → OnOk r (new ≡ insert_all same_item_type found (successors_of (grandchild_kinds s) (slice_get found at)))
successors_are_put (Ok x) s found new at kind content e f h = h ∙ ap (insert_all same_item_type found) (f ∙ sym (ap (successors_of (grandchild_kinds s)) e))
successors_are_put (Err x) s found new at kind content e f h = tt

-- item types that have grown from those of the children are those of the descendants
pub grown_are_descendants : (s : SchemaSet) (kind : ItemType) (found : List ItemType) → IsGrown same_item_type (grandchild_kinds s) (insert_all same_item_type [] (child_kinds s kind)) found → found ≡ descendant_kinds s kind
unfolding descendant_kinds
grown_are_descendants s kind found grows =
    is_closure same_item_type (grandchild_kinds s) equality_is_an_equivalence.item_types (child_kinds s kind ++ all_child_kinds s) (child_kinds s kind) found (children_within s kind) (grandchildren_within s kind) grows
