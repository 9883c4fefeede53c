-- Typed values of values belong to the type of their data.
use Rattle.std.proofs.Common.{◌≡◌, true, not, List, [], ◌∷◌, ◌++◌, map, inl, inr, refl, sym, ◌∙◌, ap, subst, Option, Some, None}
use Rattle.std.specs.Option.{option_map}
use Rattle.gx_base.specs.declared.name.Name.{Name}
use Rattle.gx_base.specs.declared.type_name.Builtin.{Builtin}
use Rattle.gx_base.specs.declared.type_name.Builtin.TheVariants as types
use Rattle.gx_base.specs.declared.type_name.TypeName.{TypeName}
use Rattle.gx_base.specs.declared.type_name.TypeName.TheVariants as names
use Rattle.gx_facets.specs.declared.Atomic.{Atomic}
use Rattle.gx_types.specs.SchemaSet.{SchemaSet}
use Rattle.gx_types.specs.SchemaInvariant.{IsSchemaSet, HoldsOfEach, is_nameable, is_simple_type}
use Rattle.gx_types.specs.ItemTakes.{ItemTakes}
use Rattle.gx_types.specs.SequenceType.{SequenceType, never, nothing, item, both, either, optional, star, plus}
use Rattle.gx_types.specs.Takes.{Takes, Each, EachShape, all_joined}
use Rattle.gx_types.specs.declared.item_type.ItemType.{ItemType}
use Rattle.gx_types.specs.declared.item_type.ItemType.TheVariants as items
use Rattle.gx_types.specs.declared.shape.Shape.{Shape}
use Rattle.gx_types.specs.declared.shape.Shape.TheVariants as shapes
use Rattle.gx_types.proofs.PublicLaws.{limited_takes_type}
use Rattle.gx_type_laws.specs.Kept.{HoldsOfItems}
use Rattle.gx_tree.specs.declared.attribute.Attribute.{Attribute}
use Rattle.gx_tree.specs.PlainTree.{PlainTree, PlainTrees, document, element, attribute, text}
use Rattle.gx_tree.specs.StringValue.{string_values}
use Rattle.gx_model.specs.Forest.{Forest, PlainNode, then_found, node_in}
use Rattle.gx_model.specs.Item.{Item, atom, node, Items, atoms}
use Rattle.gx_model.specs.Belongs.{shape_of, item_shape, ItemFits, HaveShapes}
use Rattle.gx_model.specs.Honest.{IsHonest}
use Rattle.gx_model.specs.TypedValue.{untyped_atomic, value_at_type, typed_value_of}
use Rattle.gx_model.specs.Atomization.{values_of_item, joined_values, atomized}
use Rattle.gx_steptype.specs.DataType.{untyped_atomic_type as untyped_item, values_of_type, has_value, value_type_of, have_values, item_has_data, item_data, has_data}
use Rattle.gx_steptype.specs.StepType.{is_ur_type}
use Rattle.gx_steptype.specs.Replaced.{replaced_items}
use Rattle.gx_steptype.specs.StepLaws.{DataKeepsItsType}
use Rattle.gx_steptype.proofs.GivenLists.{Given, ServesGiven, given_takes}
use Rattle.gx_steptype.proofs.TypedNodes.{NodeFact, found_fact}
use Rattle.gx_steptype.proofs.TypedValues.{atom_shape, FitsItsType, HasValue, untyped_has, type_has, simple_is_named, simple_gives}
use Rattle.gx_steptype.proofs.CoveredTypes.{IsListed, named_is_listed, first_of, second_of, choice_covers}
use Rattle.gx_steptype.proofs.WiderValues.{IsSimpleKind, values_agree, each_gives, values_are_wider}

-- ---- what the shape of an item says of the shapes of its typed values

abbrev one_untyped : List Shape
one_untyped = shapes.Atom (names.Builtin types.UntypedAtomic) ∷ []

abbrev Gives : SchemaSet → Shape → List Shape → Type 0
Gives s (shapes.Elem n t) out = IsListed s t × Takes s (value_type_of s t) out
Gives s (shapes.Attr n t) out = IsSimpleKind s t × Takes s (value_type_of s t) out
Gives s shapes.Text out = out ≡ one_untyped
Gives s (shapes.Doc c) out = out ≡ one_untyped
Gives s (shapes.Atom t) out = out ≡ shapes.Atom t ∷ []

untyped_taken : (s : SchemaSet) (out : List Shape) → out ≡ one_untyped → Takes s untyped_item out
untyped_taken s out e = subst (Takes s untyped_item) (sym e) (shapes.Atom (names.Builtin types.UntypedAtomic), refl, (0, refl))

data_serves : (s : SchemaSet) → IsSchemaSet s → (kind : ItemType) → item_has_data s kind ≡ true → ServesGiven s (Gives s) (item_data s) kind
data_serves s i (items.Element w kind) h (shapes.Elem n t) out took g = choice_covers s i.grounded kind t took.1 (value_type_of s) (values_agree s) g.0 out g.1
data_serves s i (items.Element w kind) h (shapes.Attr n t) out took g = absurd took
data_serves s i (items.Element w kind) h shapes.Text out took g = absurd took
data_serves s i (items.Element w kind) h (shapes.Doc c) out took g = absurd took
data_serves s i (items.Element w kind) h (shapes.Atom t) out took g = absurd took
data_serves s i (items.Attribute w kind) h (shapes.Attr n t) out took g = values_are_wider s i t kind g.0 took.1 h out g.1
data_serves s i (items.Attribute w kind) h (shapes.Elem n t) out took g = absurd took
data_serves s i (items.Attribute w kind) h shapes.Text out took g = absurd took
data_serves s i (items.Attribute w kind) h (shapes.Doc c) out took g = absurd took
data_serves s i (items.Attribute w kind) h (shapes.Atom t) out took g = absurd took
data_serves s i items.Text h shapes.Text out took g = untyped_taken s out g
data_serves s i items.Text h (shapes.Elem n t) out took g = absurd took
data_serves s i items.Text h (shapes.Attr n t) out took g = absurd took
data_serves s i items.Text h (shapes.Doc c) out took g = absurd took
data_serves s i items.Text h (shapes.Atom t) out took g = absurd took
data_serves s i (items.Document e) h (shapes.Doc c) out took g = untyped_taken s out g
data_serves s i (items.Document None) h (shapes.Elem n t) out took g = absurd took
data_serves s i (items.Document None) h (shapes.Attr n t) out took g = absurd took
data_serves s i (items.Document None) h shapes.Text out took g = absurd took
data_serves s i (items.Document None) h (shapes.Atom t) out took g = absurd took
data_serves s i (items.Document (Some e)) h (shapes.Elem n t) out took g = absurd took
data_serves s i (items.Document (Some e)) h (shapes.Attr n t) out took g = absurd took
data_serves s i (items.Document (Some e)) h shapes.Text out took g = absurd took
data_serves s i (items.Document (Some e)) h (shapes.Atom t) out took g = absurd took
data_serves s i (items.Atom kind) h (shapes.Atom t) out took g = subst (Takes s (item (items.Atom kind))) (sym g) (shapes.Atom t, refl, took)
data_serves s i (items.Atom kind) h (shapes.Elem n t) out took g = absurd took
data_serves s i (items.Atom kind) h (shapes.Attr n t) out took g = absurd took
data_serves s i (items.Atom kind) h shapes.Text out took g = absurd took
data_serves s i (items.Atom kind) h (shapes.Doc c) out took g = absurd took

all_serve : (s : SchemaSet) → IsSchemaSet s → (t : SequenceType) → has_data s t ≡ true → HoldsOfItems (ServesGiven s (Gives s) (item_data s)) t
all_serve s i never h = tt
all_serve s i nothing h = tt
all_serve s i (item kind) h = data_serves s i kind h
all_serve s i (both a b) h = (all_serve s i a (first_of (has_data s a) (has_data s b) h), all_serve s i b (second_of (has_data s a) (has_data s b) h))
all_serve s i (either a b) h = (all_serve s i a (first_of (has_data s a) (has_data s b) h), all_serve s i b (second_of (has_data s a) (has_data s b) h))
all_serve s i (optional a) h = all_serve s i a h
all_serve s i (star a) h = all_serve s i a h
all_serve s i (plus a) h = all_serve s i a h

-- ---- each shape is taken by an item type that has typed values

abbrev Valued : SchemaSet → Shape → Type 0
Valued s x = (kind : ItemType) × (item_has_data s kind ≡ true) × ItemTakes s kind x

each_append : (P : Shape → Type 0) (xs ys : List Shape) → EachShape P xs → EachShape P ys → EachShape P (xs ++ ys)
each_append P [] ys h k = k
each_append P (x ∷ xs) ys h k = (h.0, each_append P xs ys h.1 k)

each_of_parts : (P : Shape → Type 0) (A : List Shape → Type 0) → ((ss : List Shape) → A ss → EachShape P ss) → (parts : List (List Shape)) → Each A parts → EachShape P (all_joined parts)
each_of_parts P A h [] e = tt
each_of_parts P A h (part ∷ parts) e = each_append P part (all_joined parts) (h part e.0) (each_of_parts P A h parts e.1)

each_valued : (s : SchemaSet) (t : SequenceType) → has_data s t ≡ true → (ss : List Shape) → Takes s t ss → EachShape (Valued s) ss
each_valued s never h ss k = absurd k
each_valued s nothing h ss k = subst (EachShape (Valued s)) (sym k) tt
each_valued s (item kind) h ss (x, is, took) = subst (EachShape (Valued s)) (sym is) ((kind, h, took), tt)
each_valued s (both a b) h ss (front, rest, is, k, l) =
    subst (EachShape (Valued s)) (sym is) (each_append (Valued s) front rest (each_valued s a (first_of (has_data s a) (has_data s b) h) front k) (each_valued s b (second_of (has_data s a) (has_data s b) h) rest l))
each_valued s (either a b) h ss (inl k) = each_valued s a (first_of (has_data s a) (has_data s b) h) ss k
each_valued s (either a b) h ss (inr k) = each_valued s b (second_of (has_data s a) (has_data s b) h) ss k
each_valued s (optional a) h ss (inl k) = subst (EachShape (Valued s)) (sym k) tt
each_valued s (optional a) h ss (inr k) = each_valued s a h ss k
each_valued s (star a) h ss (parts, is, k) = subst (EachShape (Valued s)) (sym is) (each_of_parts (Valued s) (Takes s a) (λ xs l. each_valued s a h xs l) parts k)
each_valued s (plus a) h ss (front, parts, is, l, k) =
    subst (EachShape (Valued s)) (sym is)
    (each_append (Valued s) front (all_joined parts) (each_valued s a h front l) (each_of_parts (Valued s) (Takes s a) (λ xs m. each_valued s a h xs m) parts k))

-- ---- the typed value of a node

record TreeValues (s : SchemaSet) (t : PlainTree) : Type 0 where
  values : List Atomic
  are : typed_value_of s t ≡ Some values
  fit : HoldsOfEach (FitsItsType s) values
  given : Gives s (shape_of t) (map atom_shape values)

of_element : (s : SchemaSet) (n : Name) (k : TypeName) (l : List Attribute) (ts : PlainTrees) → IsListed s k → HasValue s (value_at_type s k (string_values ts)) (value_type_of s k) → TreeValues s (element n k l ts)
of_element s n k l ts listed v = let f = v.fitting in record { values = v.values; are = v.are; fit = f.fit; given = (listed, f.taken) }

of_attribute : (s : SchemaSet) (a : Attribute) → IsSimpleKind s a.kind → HasValue s (value_at_type s a.kind a.value) (value_type_of s a.kind) → TreeValues s (attribute a)
of_attribute s a simple v = let f = v.fitting in record { values = v.values; are = v.are; fit = f.fit; given = (simple, f.taken) }

-- an element of such a type has a typed value where an item type with data takes it
element_gives : (s : SchemaSet) → IsSchemaSet s → (n : Name) (t : TypeName) → IsListed s t → Valued s (shapes.Elem n t) → has_value (values_of_type s t) ≡ true
element_gives s i n t l (items.Element w kind, h, took) = each_gives s i.grounded kind t took.1 l (second_of (not (is_ur_type kind)) (have_values s kind) h)
element_gives s i n t l (items.Attribute w kind, h, took) = absurd took
element_gives s i n t l (items.Text, h, took) = absurd took
element_gives s i n t l (items.Document None, h, took) = absurd took
element_gives s i n t l (items.Document (Some e), h, took) = absurd took
element_gives s i n t l (items.Atom kind, h, took) = absurd took

nameable_is_simple : (s : SchemaSet) (b : Builtin) → is_nameable b ≡ true → IsSimpleKind s (names.Builtin b)
nameable_is_simple s types.AnyType h = absurd (cc)
nameable_is_simple s types.Untyped h = absurd (cc)
nameable_is_simple s _ h = refl

simple_kind : (s : SchemaSet) (t : TypeName) → is_simple_type s t ≡ true → IsSimpleKind s t
simple_kind s (names.Builtin b) h = nameable_is_simple s b h
simple_kind s (names.Named n) h = h
simple_kind s (names.Anonymous n) h = h

tree_values : (s : SchemaSet) → IsSchemaSet s → (t : PlainTree) → NodeFact s t → Valued s (shape_of t) → TreeValues s t
tree_values s i (document ts) fact v = record { values = untyped_atomic (string_values ts) ∷ []; are = refl; fit = (refl, tt); given = refl }
tree_values s i (text x) fact v = record { values = untyped_atomic x ∷ []; are = refl; fit = (refl, tt); given = refl }
tree_values s i (element n k l ts) (inl e) v =
    of_element s n k l ts (subst (IsListed s) (sym e) refl)
    (subst (λ (u : TypeName). HasValue s (value_at_type s u (string_values ts)) (value_type_of s u)) (sym e) (untyped_has s (string_values ts)))
tree_values s i (element n k l ts) (inr keeps) v =
    let listed = named_is_listed s k keeps.known in
    of_element s n k l ts listed (type_has s i k keeps.known (element_gives s i n k listed v) (string_values ts) keeps.value)
tree_values s i (attribute a) (inl e) v =
    of_attribute s a (subst (IsSimpleKind s) (sym e) refl)
    (subst (λ (u : TypeName). HasValue s (value_at_type s u a.value) (value_type_of s u)) (sym e) (untyped_has s a.value))
tree_values s i (attribute a) (inr typed) v =
    of_attribute s a (simple_kind s a.kind typed.simple) (type_has s i a.kind (simple_is_named s a.kind typed.simple) (simple_gives s a.kind typed.simple) a.value (λ _. typed.value))

-- ---- the typed values of an item, and of items

record ItemValues (s : SchemaSet) (forest : Forest) (x : Item) (shape : Shape) : Type 0 where
  values : Items
  are : values_of_item s forest x ≡ Some values
  seen : List Shape
  shaped : HaveShapes s forest values seen
  given : Gives s shape seen

atoms_have : (s : SchemaSet) (forest : Forest) (values : List Atomic) → HoldsOfEach (FitsItsType s) values → HaveShapes s forest (atoms values) (map atom_shape values)
atoms_have s forest [] h = tt
atoms_have s forest (a ∷ values) h = (refl, h.0, atoms_have s forest values h.1)

node_values : (s : SchemaSet) → IsSchemaSet s → (forest : Forest) (place : PlainNode) (shape : Shape) (o : Option PlainTree) → IsHonest s forest → node_in forest place ≡ o
    → option_map shape_of o ≡ Some shape → Valued s shape → ItemValues s forest (node place) shape
node_values s i forest place shape None honest e f v = absurd (cc)
node_values s i forest place shape (Some t) honest e f v =
    let same : shape_of t ≡ shape = cc in
    let r = tree_values s i t (found_fact s forest place t honest e) (subst (Valued s) (sym same) v) in record {
      values = atoms r.values;
      are = ap (λ (found : Option PlainTree). option_map atoms (then_found found (typed_value_of s))) e ∙ ap (option_map atoms) r.are;
      seen = map atom_shape r.values;
      shaped = atoms_have s forest r.values r.fit;
      given = subst (λ (x : Shape). Gives s x (map atom_shape r.values)) same r.given;
    }

item_values : (s : SchemaSet) → IsSchemaSet s → (forest : Forest) (x : Item) (shape : Shape) → IsHonest s forest → item_shape forest x ≡ Some shape → ItemFits s x → Valued s shape → ItemValues s forest x shape
item_values s i forest (atom a) shape honest e f v =
    let same : shapes.Atom a.kind ≡ shape = cc in
    subst (ItemValues s forest (atom a)) same
    (record { values = atom a ∷ []; are = refl; seen = shapes.Atom a.kind ∷ []; shaped = (refl, f, tt); given = refl })
item_values s i forest (node place) shape honest e f v = node_values s i forest place shape (node_in forest place) honest refl e v

have_joined : (s : SchemaSet) (forest : Forest) (xs ys : Items) (ss us : List Shape) → HaveShapes s forest xs ss → HaveShapes s forest ys us → HaveShapes s forest (xs ++ ys) (ss ++ us)
have_joined s forest [] ys [] us h k = k
have_joined s forest [] ys (shape ∷ ss) us h k = absurd h
have_joined s forest (x ∷ xs) ys [] us h k = absurd h
have_joined s forest (x ∷ xs) ys (shape ∷ ss) us h k = (h.0, h.1, have_joined s forest xs ys ss us h.2 k)

record AllValues (s : SchemaSet) (forest : Forest) (xs : Items) (ss : List Shape) : Type 0 where
  values : Items
  are : atomized s forest xs ≡ Some values
  seen : List Shape
  shaped : HaveShapes s forest values seen
  given : Given (Gives s) ss seen

all_values : (s : SchemaSet) → IsSchemaSet s → (forest : Forest) → IsHonest s forest → (xs : Items) (ss : List Shape) → HaveShapes s forest xs ss → EachShape (Valued s) ss → AllValues s forest xs ss
all_values s i forest honest [] [] h v = record { values = []; are = refl; seen = []; shaped = tt; given = refl }
all_values s i forest honest [] (shape ∷ ss) h v = absurd h
all_values s i forest honest (x ∷ xs) [] h v = absurd h
all_values s i forest honest (x ∷ xs) (shape ∷ ss) h v =
    let one = item_values s i forest x shape honest h.0 h.1 v.0 in
    let rest = all_values s i forest honest xs ss h.2 v.1 in record {
      values = one.values ++ rest.values;
      are = ap (λ (o : Option Items). joined_values o (atomized s forest xs)) one.are ∙ ap (joined_values (Some one.values)) rest.are;
      seen = one.seen ++ rest.seen;
      shaped = have_joined s forest one.values rest.values one.seen rest.seen one.shaped rest.shaped;
      given = (one.seen, rest.seen, refl, one.given, rest.given);
    }

pub data_keeps_its_type : DataKeepsItsType
data_keeps_its_type s forest xs t i honest h b =
    let v = all_values s i forest honest xs b.seen b.shaped (each_valued s t h b.seen b.taken) in record {
      values = v.values;
      are = v.are;
      belong = record {
        seen = v.seen;
        shaped = v.shaped;
        taken = limited_takes_type s (replaced_items (item_data s) t) v.seen (given_takes s (Gives s) (item_data s) t (all_serve s i t h) b.seen v.seen v.given b.taken);
      };
    }
