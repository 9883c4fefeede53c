-- Constructors keep their types.
use Rattle.std.proofs.Common.{◌≡◌, ℕ, ◌+◌, arith, Bool, true, false, inl, inr, List, [], ◌∷◌, ◌++◌, map, length, Option, None, Some, refl, sym, ◌∙◌, ap, subst, if◌then◌else◌}
use Rattle.std.specs.List.{slice_get}
use Rattle.std.specs.Option.{option_map}
use Rattle.gx_base.specs.declared.code.Code.TheVariants.{FOTY0012, XQTY0024}
use Rattle.gx_base.specs.declared.name.Name.{Name}
use Rattle.gx_base.specs.declared.type_name.Builtin.TheVariants as builtins
use Rattle.gx_base.specs.declared.type_name.TypeName.{TypeName}
use Rattle.gx_base.specs.declared.type_name.TypeName.TheVariants as names
use Rattle.gx_facets.specs.declared.Atomic.{Atomic}
use Rattle.gx_types.specs.declared.item_type.ItemType.{ItemType}
use Rattle.gx_types.specs.declared.item_type.ItemType.TheVariants as items
use Rattle.gx_types.specs.declared.shape.Shape.{Shape}
use Rattle.gx_types.specs.declared.shape.Shape.TheVariants as shapes
use Rattle.gx_types.specs.SchemaSet.{SchemaSet}
use Rattle.gx_types.specs.SchemaInvariant.{IsSchemaSet}
use Rattle.gx_types.specs.Derivation.{bases_of}
use Rattle.gx_types.specs.Grounded.{Grounded}
use Rattle.gx_types.specs.ItemTakes.{ItemTakes}
use Rattle.gx_types.specs.Occurrence.{occurrence_of}
use Rattle.gx_types.specs.Prime.{items_of}
use Rattle.gx_types.specs.SequenceType.{SequenceType, item, optional, star}
use Rattle.gx_types.specs.Takes.{Takes, EachShape}
use Rattle.gx_types.proofs.EqualNames.{type_name_itself, names_are_equivalent}
use Rattle.gx_types.proofs.PublicLaws.{joined_types_are_a_sequence}
use Rattle.gx_include.specs.Decision.{is_included}
use Rattle.gx_tree.specs.PlainTree.{PlainTree, document, element, attribute, text, trees_of}
use Rattle.gx_tree.specs.Erasure.{erased_all, erased_attribute}
use Rattle.gx_model.specs.Atomization.{values_of_item, joined_values, atomized}
use Rattle.gx_model.specs.Belongs.{shape_of, only_element, item_shape, HaveShapes, Belongs}
use Rattle.gx_model.specs.Forest.{Forest, node_in, then_found, tree_at, attribute_at}
use Rattle.gx_model.specs.Honest.{IsHonestTree, IsHonest}
use Rattle.gx_model.specs.Item.{Item, atom, node, Items, atoms}
use Rattle.gx_model.specs.TypedValue.{value_of_node}
use Rattle.gx_steptype.specs.DataType.{has_data, type_of_data}
use Rattle.gx_steptype.proofs.DataTypes.{data_keeps_its_type}
use Rattle.gx_core.specs.Comparing.{atoms_among}
use Rattle.gx_core.specs.Constructing.{Built, built_tree, repeated_name, too_deep, wrong_content, built, document_built, attribute_built, copies_of, joined_content, content_of_parts, merged_content}
use Rattle.gx_core.specs.Constructing.{spaced_values, text_of_part, joined_texts, texts_of_parts, root_of_tree, tree_appended, built_outcome, text_outcome}
use Rattle.gx_core.specs.declared.constructor.Constructor.TheVariants as constructors
use Rattle.gx_core.specs.Outcome.{given}
use Rattle.gx_core.specs.Soundness.{typed_setting, AreOfTypes, Keeps}
use Rattle.gx_core.proofs.HonestTrees.{honest_behind, element_is_honest, document_is_honest, text_is_honest, attribute_is_honest}
use Rattle.gx_core.proofs.ContentOrder.{IsAttributeFound, IsOtherFound, IsAttributeItem, IsOtherItem, AreOthers, AttributesFirst, items_of_parts, IsBuiltSo, element_is_built, document_is_built}
use Rattle.gx_static.specs.Rule.{Ruling, has_type, has_none, is_at_least_one, all_items, data_rule, any_document_content_type, element_content, joined_in_order, constructed_element, element_rule, if_atomized, if_all_atomized, attribute_rule, constructed_text, text_rule, only_element_of, document_rule}
use Rattle.gx_static.specs.Laws.{ConstructorKeepsType}
use Rattle.gx_static.proofs.DemandLaws.{shapes_of, each_kind}
use Rattle.gx_static.proofs.HonestValues.{included_belongs}
use Rattle.gx_static.proofs.ItemLemmas.{belongs_within, at_least_one}
use Rattle.gx_static.proofs.Keeping.{ruled, tested, type_so, value_keeps, have_joined}

-- ---- the root of a tree that is put behind the others

last_tree : (forest : Forest) (t : PlainTree) → slice_get (forest ++ t ∷ []) (length forest) ≡ Some t
last_tree [] t = refl
last_tree (u ∷ forest) t = last_tree forest t

root_is_there : (forest : Forest) (t : PlainTree) → item_shape (forest ++ t ∷ []) (node (root_of_tree (length forest))) ≡ Some (shape_of t)
root_is_there forest t =
    ap (λ (o : Option PlainTree). option_map shape_of (then_found o (λ u. then_found (tree_at u []) (attribute_at None)))) (last_tree forest t)

appended_keeps : (s : SchemaSet) (forest : Forest) (t : PlainTree) (u : SequenceType) → IsHonest s forest → IsHonestTree s t → Takes s u (shape_of t ∷ [])
    → Keeps (typed_setting s) forest u (tree_appended t forest)
appended_keeps s forest t u honest tree takes = record {
  grown = record { more = t ∷ []; is = refl };
  honest = honest_behind s forest t honest tree;
  fact = record { seen = shape_of t ∷ []; shaped = (root_is_there forest t, tt, tt); taken = takes };
}

built_keeps : (s : SchemaSet) (forest : Forest) (b : Built) (Fact : Shape → Type 0) (u : SequenceType) → IsHonest s forest → IsBuiltSo Fact b
    → ((t : PlainTree) → b ≡ built_tree t → IsHonestTree s t) → ((shape : Shape) → Fact shape → Takes s u (shape ∷ []))
    → Keeps (typed_setting s) forest u (built_outcome b forest)
built_keeps s forest (built_tree t) Fact u honest h k f = appended_keeps s forest t u honest (k t refl) (f (shape_of t) h)
built_keeps s forest repeated_name Fact u honest h k f = tt
built_keeps s forest too_deep Fact u honest h k f = tt
built_keeps s forest wrong_content Fact u honest h k f = absurd h

-- ---- attributes and other nodes by their shapes

abbrev IsAttributeShape : Shape → Type 0
IsAttributeShape (shapes.Attr name kind) = Unit {0}
IsAttributeShape _ = ⊥

abbrev IsOtherShape : Shape → Type 0
IsOtherShape (shapes.Attr name kind) = ⊥
IsOtherShape _ = Unit {0}

abbrev is_attribute_kind : ItemType → Bool
is_attribute_kind (items.Attribute name kind) = true
is_attribute_kind _ = false

abbrev is_other_kind : ItemType → Bool
is_other_kind (items.Attribute name kind) = false
is_other_kind _ = true

attribute_shape : (s : SchemaSet) (kind : ItemType) (shape : Shape) → is_attribute_kind kind ≡ true → ItemTakes s kind shape → IsAttributeShape shape
attribute_shape s (items.Attribute name k) (shapes.Attr n t) e h = tt
attribute_shape s (items.Attribute name k) _ e h = absurd h
attribute_shape s _ shape e h = absurd (cc)

other_shape : (s : SchemaSet) (kind : ItemType) (shape : Shape) → is_other_kind kind ≡ true → ItemTakes s kind shape → IsOtherShape shape
other_shape s (items.Attribute name k) shape e h = absurd (cc)
other_shape s (items.Element name k) (shapes.Elem n t) e h = tt
other_shape s (items.Element name k) _ e h = absurd h
other_shape s items.Text shapes.Text e h = tt
other_shape s items.Text _ e h = absurd h
other_shape s (items.Document child) (shapes.Doc c) e h = tt
other_shape s (items.Document None) _ e h = absurd h
other_shape s (items.Document (Some child)) _ e h = absurd h
other_shape s (items.Atom k) (shapes.Atom t) e h = tt
other_shape s (items.Atom k) _ e h = absurd h

attributes_seen : (s : SchemaSet) (t : SequenceType) (list : List Shape) → all_items is_attribute_kind t ≡ true → Takes s t list → EachShape IsAttributeShape list
attributes_seen s t list e takes =
    shapes_of s is_attribute_kind (λ kind. Unit {0}) IsAttributeShape t list (λ kind shape known passes taken. attribute_shape s kind shape passes taken)
    (each_kind (λ kind. Unit {0}) (items_of t) (λ kind. tt)) e takes

others_seen : (s : SchemaSet) (t : SequenceType) (list : List Shape) → all_items is_other_kind t ≡ true → Takes s t list → EachShape IsOtherShape list
others_seen s t list e takes =
    shapes_of s is_other_kind (λ kind. Unit {0}) IsOtherShape t list (λ kind shape known passes taken. other_shape s kind shape passes taken)
    (each_kind (λ kind. Unit {0}) (items_of t) (λ kind. tt)) e takes

found_attribute : (o : Option PlainTree) (shape : Shape) → option_map shape_of o ≡ Some shape → IsAttributeShape shape → IsAttributeFound o
found_attribute None shape e h = absurd (cc)
found_attribute (Some (attribute a)) shape e h = tt
found_attribute (Some (document ts)) shape e h = let same : shapes.Doc (only_element ts) ≡ shape = cc in subst IsAttributeShape (sym same) h
found_attribute (Some (element name kind l ts)) shape e h = let same : shapes.Elem name kind ≡ shape = cc in subst IsAttributeShape (sym same) h
found_attribute (Some (text x)) shape e h = let same : shapes.Text ≡ shape = cc in subst IsAttributeShape (sym same) h

found_other : (o : Option PlainTree) (shape : Shape) → option_map shape_of o ≡ Some shape → IsOtherShape shape → IsOtherFound o
found_other None shape e h = absurd (cc)
found_other (Some (attribute a)) shape e h = let same : shapes.Attr a.name a.kind ≡ shape = cc in subst IsOtherShape (sym same) h
found_other (Some (document ts)) shape e h = tt
found_other (Some (element name kind l ts)) shape e h = tt
found_other (Some (text x)) shape e h = tt

attribute_item : (forest : Forest) (x : Item) (shape : Shape) → item_shape forest x ≡ Some shape → IsAttributeShape shape → IsAttributeItem forest x
attribute_item forest (atom a) shape e h = let same : shapes.Atom a.kind ≡ shape = cc in subst IsAttributeShape (sym same) h
attribute_item forest (node place) shape e h = found_attribute (node_in forest place) shape e h

other_item : (forest : Forest) (x : Item) (shape : Shape) → item_shape forest x ≡ Some shape → IsOtherShape shape → IsOtherItem forest x
other_item forest (atom a) shape e h = tt
other_item forest (node place) shape e h = found_other (node_in forest place) shape e h

other_items : (s : SchemaSet) (forest : Forest) (xs : Items) (list : List Shape) → HaveShapes s forest xs list → EachShape IsOtherShape list → AreOthers forest xs
other_items s forest [] [] h k = tt
other_items s forest [] (shape ∷ list) h k = absurd h
other_items s forest (x ∷ xs) [] h k = absurd h
other_items s forest (x ∷ xs) (shape ∷ list) h k = (other_item forest x shape h.0 k.0, other_items s forest xs list h.2 k.1)

first_items : (s : SchemaSet) (forest : Forest) (xs : Items) (front rest : List Shape) → HaveShapes s forest xs (front ++ rest) → EachShape IsAttributeShape front
    → EachShape IsOtherShape rest → AttributesFirst forest xs
first_items s forest [] front rest h k l = tt
first_items s forest (x ∷ xs) [] rest h k l = inr (other_items s forest (x ∷ xs) rest h l)
first_items s forest (x ∷ xs) (shape ∷ front) rest h k l = inl (attribute_item forest x shape h.0 k.0, first_items s forest xs front rest h.2 k.1 l)

-- ---- elements

parts_belong : (s : SchemaSet) (forest : Forest) (parts : List SequenceType) (values : List Items) → AreOfTypes s parts forest values
    → Belongs s forest (items_of_parts values) (joined_in_order parts)
parts_belong s forest [] [] h = record { seen = []; shaped = tt; taken = refl }
parts_belong s forest [] (xs ∷ values) h = absurd h
parts_belong s forest (t ∷ parts) [] h = absurd h
parts_belong s forest (t ∷ parts) (xs ∷ values) h =
    let rest = parts_belong s forest parts values h.1 in record {
      seen = h.0.seen ++ rest.seen;
      shaped = have_joined s forest xs (items_of_parts values) h.0.seen rest.seen h.0.shaped rest.shaped;
      taken = (joined_types_are_a_sequence s t (joined_in_order parts) (h.0.seen ++ rest.seen)).0 (h.0.seen, rest.seen, refl, h.0.taken, rest.taken);
    }

leading : (s : SchemaSet) (forest : Forest) (xs : Items) → Belongs s forest xs element_content → AttributesFirst forest xs
leading s forest xs b =
    let front = b.taken.0 in
    let rest = b.taken.1 in
    first_items s forest xs front rest (subst (HaveShapes s forest xs) b.taken.2 b.shaped) (attributes_seen s (star (item (items.Attribute None (names.Builtin builtins.AnySimple)))) front refl b.taken.3)
    (others_seen s any_document_content_type rest refl b.taken.4)

element_taken : (s : SchemaSet) (name : Name) (shape : Shape) → shape ≡ shapes.Elem name (names.Builtin builtins.Untyped) → Takes s (constructed_element name) (shape ∷ [])
element_taken s name shape e =
    subst (λ (u : Shape). Takes s (constructed_element name) (u ∷ [])) (sym e)
    (shapes.Elem name (names.Builtin builtins.Untyped), refl, (names_are_equivalent.refl name, (0, type_name_itself (names.Builtin builtins.Untyped))))

element_keeps : (s : SchemaSet) (name : Name) (parts : List SequenceType) (t : SequenceType) (forest : Forest) (values : List Items) → Grounded (bases_of s)
    → element_rule s name parts ≡ has_type t → IsHonest s forest → AreOfTypes s parts forest values
    → Keeps (typed_setting s) forest t (built_outcome (built name values forest) forest)
element_keeps s name parts t forest values g e honest h =
    let r = tested (is_included s (joined_in_order parts) element_content) (constructed_element name) t XQTY0024 None e in
    let b = included_belongs s forest (items_of_parts values) (joined_in_order parts) element_content g honest r.0 (parts_belong s forest parts values h) in
    subst (λ (u : SequenceType). Keeps (typed_setting s) forest u (built_outcome (built name values forest) forest)) r.1
    (built_keeps s forest (built name values forest) (λ shape. shape ≡ shapes.Elem name (names.Builtin builtins.Untyped)) (constructed_element name) honest
    (element_is_built s forest name values honest (leading s forest (items_of_parts values) b)) (λ tree f. element_is_honest s name values forest tree honest f) (element_taken s name))

-- ---- documents

-- one element of a name is the only child of the document, without types
abbrev IsOnlyElement : SchemaSet → Name → List PlainTree → Type 0
IsOnlyElement s q ts = ItemTakes s (items.Document (Some (Some q, names.Builtin builtins.Untyped))) (shapes.Doc (only_element (trees_of (merged_content ts))))

abbrev content_if_found : Option PlainTree → Option (List PlainTree)
content_if_found o = joined_content (joined_content (Some (text [] ∷ [])) (joined_content (option_map copies_of o) (Some (text [] ∷ [])))) (Some [])

only_element_found : (s : SchemaSet) (q : Name) (kind : TypeName) (shape : Shape) (o : Option PlainTree) (ts : List PlainTree) → option_map shape_of o ≡ Some shape
    → ItemTakes s (items.Element (Some q) kind) shape → content_if_found o ≡ Some ts → IsOnlyElement s q ts
only_element_found s q kind shape None ts f takes h = absurd (cc)
only_element_found s q kind shape (Some (attribute a)) ts f takes h =
    let same : shapes.Attr a.name a.kind ≡ shape = cc in absurd (subst (ItemTakes s (items.Element (Some q) kind)) (sym same) takes)
only_element_found s q kind shape (Some (document us)) ts f takes h =
    let same : shapes.Doc (only_element us) ≡ shape = cc in absurd (subst (ItemTakes s (items.Element (Some q) kind)) (sym same) takes)
only_element_found s q kind shape (Some (text x)) ts f takes h =
    let same : shapes.Text ≡ shape = cc in absurd (subst (ItemTakes s (items.Element (Some q) kind)) (sym same) takes)
only_element_found s q kind shape (Some (element name k l us)) ts f takes h =
    let same : shapes.Elem name k ≡ shape = cc in
    let fits = subst (ItemTakes s (items.Element (Some q) kind)) (sym same) takes in
    let all : text [] ∷ element name (names.Builtin builtins.Untyped) (map erased_attribute l) (erased_all us) ∷ text [] ∷ [] ≡ ts = cc in
    subst (IsOnlyElement s q) all (fits.0, (0, type_name_itself (names.Builtin builtins.Untyped)))

only_element_there : (s : SchemaSet) (forest : Forest) (q : Name) (kind : TypeName) (shape : Shape) (xs : Items) (ts : List PlainTree) → HaveShapes s forest xs (shape ∷ [])
    → ItemTakes s (items.Element (Some q) kind) shape → content_of_parts forest (xs ∷ []) ≡ Some ts → IsOnlyElement s q ts
only_element_there s forest q kind shape [] ts h takes e = absurd h
only_element_there s forest q kind shape (atom a ∷ []) ts h takes e =
    let same : shapes.Atom a.kind ≡ shape = cc (h.0) in absurd (subst (ItemTakes s (items.Element (Some q) kind)) (sym same) takes)
only_element_there s forest q kind shape (node place ∷ []) ts h takes e = only_element_found s q kind shape (node_in forest place) ts h.0 takes e
only_element_there s forest q kind shape (x ∷ y ∷ xs) ts h takes e = absurd h.2

document_shape : (s : SchemaSet) (forest : Forest) (content : SequenceType) (xs : Items) → Belongs s forest xs content → (ts : List PlainTree)
    → content_of_parts forest (xs ∷ []) ≡ Some ts → ItemTakes s (items.Document (only_element_of content)) (shapes.Doc (only_element (trees_of (merged_content ts))))
document_shape s forest (item (items.Element (Some q) kind)) xs b ts e =
    only_element_there s forest q kind b.taken.0 xs ts (subst (HaveShapes s forest xs) b.taken.1 b.shaped) b.taken.2 e
document_shape s forest _ xs b ts e = tt

document_keeps : (s : SchemaSet) (content t : SequenceType) (forest : Forest) (xs : Items) → Grounded (bases_of s) → document_rule s content ≡ has_type t → IsHonest s forest
    → Belongs s forest xs content → Keeps (typed_setting s) forest t (built_outcome (document_built xs forest) forest)
document_keeps s content t forest xs g e honest h =
    let r = type_so (is_included s content any_document_content_type) (item (items.Document (only_element_of content))) t e in
    let b = included_belongs s forest xs content any_document_content_type g honest r.0 h in
    let others : AreOthers forest xs = other_items s forest xs b.seen b.shaped (others_seen s any_document_content_type b.seen refl b.taken) in
    subst (λ (u : SequenceType). Keeps (typed_setting s) forest u (built_outcome (document_built xs forest) forest)) r.1
    (built_keeps s forest (document_built xs forest) (ItemTakes s (items.Document (only_element_of content))) (item (items.Document (only_element_of content))) honest
    (document_is_built s forest xs (ItemTakes s (items.Document (only_element_of content))) honest others (λ ts f. document_shape s forest content xs h ts f))
    (λ tree f. document_is_honest s xs forest tree honest f) (λ shape takes. (shape, refl, takes)))

-- ---- attributes and texts

atoms_again : (values : List Atomic) → atoms_among (atoms values) ≡ Some values
atoms_again [] = refl
atoms_again (a ∷ values) = ap (option_map (λ (others : List Atomic). a ∷ others)) (atoms_again values)

-- an atomized value is of atomic values
pub record AreAtoms (items : Items) : Type 0 where
  pub values : List Atomic
  pub are : items ≡ atoms values

atoms_joined : (xs ys : Items) → AreAtoms xs → AreAtoms ys → AreAtoms (xs ++ ys)
atoms_joined xs ys a b = record { values = a.values ++ b.values; are = (λ i. a.are i ++ b.are i) ∙ both_atoms a.values b.values }
  where
    both_atoms : (as' bs : List Atomic) → atoms as' ++ atoms bs ≡ atoms (as' ++ bs)
    both_atoms [] bs = refl
    both_atoms (c ∷ as') bs = ap (λ (v : Items). atom c ∷ v) (both_atoms as' bs)

values_are_atoms : (s : SchemaSet) (forest : Forest) (x : Item) (found : Items) → values_of_item s forest x ≡ Some found → AreAtoms found
values_are_atoms s forest (atom a) found e = let same : atom a ∷ [] ≡ found = cc in record { values = a ∷ []; are = sym same }
values_are_atoms s forest (node place) found e = by_values (value_of_node s forest place) e
  where
    by_values : (o : Option (List Atomic)) → option_map atoms o ≡ Some found → AreAtoms found
    by_values None f = absurd (cc)
    by_values (Some values) f = let same : atoms values ≡ found = cc in record { values = values; are = sym same }

pub atomized_are_atoms : (s : SchemaSet) (forest : Forest) (xs found : Items) → atomized s forest xs ≡ Some found → AreAtoms found
atomized_are_atoms s forest [] found e = let same : [] ≡ found = cc in record { values = []; are = sym same }
atomized_are_atoms s forest (x ∷ xs) found e =
    by_parts (values_of_item s forest x) (atomized s forest xs) refl e (λ ys f. values_are_atoms s forest x ys f) (atomized_are_atoms s forest xs)
  where
    by_parts : (o p : Option Items) → values_of_item s forest x ≡ o → joined_values o p ≡ Some found → ((ys : Items) → values_of_item s forest x ≡ Some ys → AreAtoms ys)
        → ((ys : Items) → p ≡ Some ys → AreAtoms ys) → AreAtoms found
    by_parts None p f g k l = absurd (cc)
    by_parts (Some ys) None f g k l = absurd (cc)
    by_parts (Some ys) (Some zs) f g k l =
        let same : ys ++ zs ≡ found = cc in subst AreAtoms same (atoms_joined ys zs (k ys f) (l zs refl))

-- the atomic values of a part, of the type of its typed values
record HasValues (s : SchemaSet) (forest : Forest) (xs : Items) (values_type : SequenceType) : Type 0 where
  values : List Atomic
  found : then_found (atomized s forest xs) atoms_among ≡ Some values
  belong : Belongs s forest (atoms values) values_type

part_has_values : (s : SchemaSet) (forest : Forest) (xs : Items) (a t : SequenceType) (number : ℕ) (next : SequenceType → Ruling) → IsSchemaSet s → IsHonest s forest
    → if_atomized (data_rule s a) number next ≡ has_type t → Belongs s forest xs a → HasValues s forest xs (type_of_data s a) × (next (type_of_data s a) ≡ has_type t)
unfolding data_rule
part_has_values s forest xs a t number next is honest e h = by_data (has_data s a) refl e
  where
    by_data : (b : Bool) → has_data s a ≡ b → if_atomized (if b then has_type (type_of_data s a) else has_none FOTY0012 None) number next ≡ has_type t
        → HasValues s forest xs (type_of_data s a) × (next (type_of_data s a) ≡ has_type t)
    by_data false f k = absurd (cc)
    by_data true f k =
        let v = data_keeps_its_type s forest xs a is honest f h in
        let all = atomized_are_atoms s forest xs v.values v.are in (
          record {
            values = all.values;
            found = ap (λ (o : Option Items). then_found o atoms_among) (v.are ∙ ap (λ (ys : Items). Some ys) all.are) ∙ atoms_again all.values;
            belong = subst (λ (ys : Items). Belongs s forest ys (type_of_data s a)) all.are v.belong;
          },
          k,
        )

all_have_texts : (s : SchemaSet) (forest : Forest) (parts : List SequenceType) (values : List Items) (number : ℕ) (ruling : Ruling) (t : SequenceType) → IsSchemaSet s → IsHonest s forest
    → if_all_atomized s parts number ruling ≡ has_type t → AreOfTypes s parts forest values
    → ((x : List ℕ) × (texts_of_parts s forest values ≡ Some x)) × (ruling ≡ has_type t)
all_have_texts s forest [] [] number ruling t is honest e h = (([], refl), e)
all_have_texts s forest [] (xs ∷ values) number ruling t is honest e h = absurd h
all_have_texts s forest (a ∷ parts) [] number ruling t is honest e h = absurd h
all_have_texts s forest (a ∷ parts) (xs ∷ values) number ruling t is honest e h =
    let p = part_has_values s forest xs a t number (λ u. if_all_atomized s parts (number + 1) ruling) is honest e h.0 in
    let rest = all_have_texts s forest parts values (number + 1) ruling t is honest p.1 h.1 in
    let part : text_of_part s forest xs ≡ Some (spaced_values p.0.values) = ap (option_map spaced_values) p.0.found in
    ((spaced_values p.0.values ++ rest.0.0, λ i. joined_texts (part i) (rest.0.1 i)), rest.1)

attribute_keeps : (s : SchemaSet) (name : Name) (parts : List SequenceType) (t : SequenceType) (forest : Forest) (values : List Items) → IsSchemaSet s
    → attribute_rule s name parts ≡ has_type t → IsHonest s forest → AreOfTypes s parts forest values
    → Keeps (typed_setting s) forest t (given (texts_of_parts s forest values) (λ value. tree_appended (attribute_built name value) forest))
attribute_keeps s name parts t forest values is e honest h =
    let kind : SequenceType = item (items.Attribute (Some name) (names.Builtin builtins.UntypedAtomic)) in
    let r = all_have_texts s forest parts values 0 (has_type kind) t is honest e h in
    subst (λ (o : Option (List ℕ)). Keeps (typed_setting s) forest t (given o (λ value. tree_appended (attribute_built name value) forest))) (sym r.0.1)
    (subst (λ (u : SequenceType). Keeps (typed_setting s) forest u (tree_appended (attribute_built name r.0.0) forest)) (ruled kind t r.1)
    (appended_keeps s forest (attribute_built name r.0.0) kind honest (attribute_is_honest s name r.0.0)
    (shapes.Attr name (names.Builtin builtins.UntypedAtomic), refl, (names_are_equivalent.refl name, (0, type_name_itself (names.Builtin builtins.UntypedAtomic))))))

text_taken : (s : SchemaSet) (values : SequenceType) → Takes s (constructed_text values) (shapes.Text ∷ [])
text_taken s values = by_test (is_at_least_one values)
  where
    by_test : (b : Bool) → Takes s (if b then item items.Text else optional (item items.Text)) (shapes.Text ∷ [])
    by_test true = (shapes.Text, refl, tt)
    by_test false = inr (shapes.Text, refl, tt)

no_text_taken : (s : SchemaSet) (forest : Forest) (values : SequenceType) → Belongs s forest [] values → Takes s (constructed_text values) []
no_text_taken s forest values b = by_test (is_at_least_one values) refl
  where
    by_test : (c : Bool) → is_at_least_one values ≡ c → Takes s (if c then item items.Text else optional (item items.Text)) []
    by_test true e =
        let l = at_least_one (occurrence_of values).least e in
        let w = belongs_within s forest values [] b in absurd (omega (arith, l, w.least))
    by_test false e = inl refl

text_keeps : (s : SchemaSet) (content t : SequenceType) (forest : Forest) (xs : Items) → IsSchemaSet s → text_rule s content ≡ has_type t → IsHonest s forest → Belongs s forest xs content
    → Keeps (typed_setting s) forest t (given (then_found (atomized s forest xs) atoms_among) (λ values. text_outcome values forest))
text_keeps s content t forest xs is e honest h =
    let p = part_has_values s forest xs content t 0 (λ values. has_type (constructed_text values)) is honest e h in
    subst (λ (o : Option (List Atomic)). Keeps (typed_setting s) forest t (given o (λ values. text_outcome values forest))) (sym p.0.found)
    (subst (λ (u : SequenceType). Keeps (typed_setting s) forest u (text_outcome p.0.values forest)) (ruled (constructed_text (type_of_data s content)) t p.1)
    (by_values p.0.values p.0.belong))
  where
    by_values : (values : List Atomic) → Belongs s forest (atoms values) (type_of_data s content) → Keeps (typed_setting s) forest (constructed_text (type_of_data s content)) (text_outcome values forest)
    by_values [] b =
        value_keeps s (constructed_text (type_of_data s content)) (constructed_text (type_of_data s content)) forest [] refl honest
        (record { seen = []; shaped = tt; taken = no_text_taken s forest (type_of_data s content) b })
    by_values (a ∷ values) b =
        appended_keeps s forest (text (spaced_values (a ∷ values))) (constructed_text (type_of_data s content)) honest (text_is_honest s (spaced_values (a ∷ values)))
        (text_taken s (type_of_data s content))

-- ---- the law

pub constructor_keeps : ConstructorKeepsType
constructor_keeps s (constructors.Element name) count is parts t forest values e honest h = element_keeps s name parts t forest values is.grounded e honest h
constructor_keeps s (constructors.Attribute name) count is parts t forest values e honest h = attribute_keeps s name parts t forest values is e honest h
constructor_keeps s constructors.Text count is (content ∷ []) t forest (xs ∷ []) e honest h = text_keeps s content t forest xs is e honest h.0
constructor_keeps s constructors.Text count is (content ∷ []) t forest [] e honest h = absurd h
constructor_keeps s constructors.Text count is (content ∷ []) t forest (xs ∷ ys ∷ values) e honest h = absurd h.1
constructor_keeps s constructors.Text count is [] t forest values e honest h = absurd (cc)
constructor_keeps s constructors.Text count is (content ∷ other ∷ parts) t forest values e honest h = absurd (cc)
constructor_keeps s constructors.Document count is (content ∷ []) t forest (xs ∷ []) e honest h = document_keeps s content t forest xs is.grounded e honest h.0
constructor_keeps s constructors.Document count is (content ∷ []) t forest [] e honest h = absurd h
constructor_keeps s constructors.Document count is (content ∷ []) t forest (xs ∷ ys ∷ values) e honest h = absurd h.1
constructor_keeps s constructors.Document count is [] t forest values e honest h = absurd (cc)
constructor_keeps s constructors.Document count is (content ∷ other ∷ parts) t forest values e honest h = absurd (cc)
