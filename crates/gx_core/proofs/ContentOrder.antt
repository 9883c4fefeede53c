-- Content in which attributes come first is there, and no attribute comes behind another node.
use Rattle.std.proofs.Common.{◌≡◌, ℕ, Bool, true, false, ◌⊎◌, inl, inr, List, [], ◌∷◌, ◌++◌, Option, None, Some, refl, sym, ◌∙◌, ap, subst, if◌then◌else◌}
use Rattle.std.specs.Option.{option_map}
use Rattle.gx_base.specs.declared.name.Name.{Name}
use Rattle.gx_base.specs.declared.type_name.Builtin.TheVariants.{Untyped}
use Rattle.gx_base.specs.declared.type_name.TypeName.TheVariants.{Builtin}
use Rattle.gx_facets.specs.declared.Atomic.{Atomic}
use Rattle.gx_types.specs.SchemaSet.{SchemaSet}
use Rattle.gx_types.specs.declared.shape.Shape.{Shape}
use Rattle.gx_types.specs.declared.shape.Shape.TheVariants as shapes
use Rattle.gx_tree.specs.declared.attribute.Attribute.{Attribute}
use Rattle.gx_tree.specs.PlainTree.{PlainTree, PlainTrees, document, element, attribute, text, no_trees, a_tree, trees_of, list_of, IsProper, AreContent}
use Rattle.gx_tree.specs.Erasure.{erased_all, erased_attribute}
use Rattle.gx_model.specs.Belongs.{shape_of, only_element}
use Rattle.gx_model.specs.Forest.{Forest, node_in}
use Rattle.gx_model.specs.Honest.{IsHonest}
use Rattle.gx_model.specs.Item.{Item, atom, node, Items}
use Rattle.gx_core.specs.Constructing.{spaced_values, copies_of, joined_content, content_after, content_of_parts, text_before, merged_content}
use Rattle.gx_core.specs.Constructing.{leading_attributes, behind_attributes, holds_attribute, repeats_name}
use Rattle.gx_core.specs.Constructing.{Built, built_tree, repeated_name, too_deep, wrong_content, built_within, built_element, built_document, then_built, depth_limit, built, document_built}
use Rattle.gx_core.proofs.HonestTrees.{sound_node}

-- ---- content as it is gathered

-- attributes, and texts without a character, which vanish; and behind them no attribute
abbrev pub AttributesLead : List PlainTree → Type 0
AttributesLead [] = Unit {0}
AttributesLead (attribute a ∷ ts) = AttributesLead ts
AttributesLead (text [] ∷ ts) = AttributesLead ts
AttributesLead (text (c ∷ x) ∷ ts) = holds_attribute ts ≡ false
AttributesLead (element name kind l us ∷ ts) = holds_attribute ts ≡ false
AttributesLead (document us ∷ ts) = holds_attribute ts ≡ false

none_lead : (ts : List PlainTree) → holds_attribute ts ≡ false → AttributesLead ts
none_lead [] e = tt
none_lead (attribute a ∷ ts) e = absurd (cc)
none_lead (text [] ∷ ts) e = none_lead ts e
none_lead (text (c ∷ x) ∷ ts) e = e
none_lead (element name kind l us ∷ ts) e = e
none_lead (document us ∷ ts) e = e

none_behind : (ts us : List PlainTree) → holds_attribute ts ≡ false → holds_attribute us ≡ false → holds_attribute (ts ++ us) ≡ false
none_behind [] us e f = f
none_behind (attribute a ∷ ts) us e f = absurd (cc)
none_behind (text x ∷ ts) us e f = none_behind ts us e f
none_behind (element name kind l vs ∷ ts) us e f = none_behind ts us e f
none_behind (document vs ∷ ts) us e f = none_behind ts us e f

none_before : (x : List ℕ) (ts : List PlainTree) → holds_attribute ts ≡ false → holds_attribute (text_before x ts) ≡ false
none_before x (text y ∷ ts) e = e
none_before [] [] e = e
none_before [] (attribute a ∷ ts) e = e
none_before [] (element name kind l us ∷ ts) e = e
none_before [] (document us ∷ ts) e = e
none_before (c ∷ x) [] e = e
none_before (c ∷ x) (attribute a ∷ ts) e = e
none_before (c ∷ x) (element name kind l us ∷ ts) e = e
none_before (c ∷ x) (document us ∷ ts) e = e

none_merged : (ts : List PlainTree) → holds_attribute ts ≡ false → holds_attribute (merged_content ts) ≡ false
none_merged [] e = e
none_merged (attribute a ∷ ts) e = absurd (cc)
none_merged (text x ∷ ts) e = none_before x (merged_content ts) (none_merged ts e)
none_merged (element name kind l us ∷ ts) e = none_merged ts e
none_merged (document us ∷ ts) e = none_merged ts e

nothing_before : (ts : List PlainTree) → holds_attribute (behind_attributes (text_before [] ts)) ≡ holds_attribute (behind_attributes ts)
nothing_before [] = refl
nothing_before (attribute a ∷ ts) = refl
nothing_before (text x ∷ ts) = refl
nothing_before (element name kind l us ∷ ts) = refl
nothing_before (document us ∷ ts) = refl

text_is_first : (c : ℕ) (x : List ℕ) (ts : List PlainTree) → behind_attributes (text_before (c ∷ x) ts) ≡ text_before (c ∷ x) ts
text_is_first c x [] = refl
text_is_first c x (attribute a ∷ ts) = refl
text_is_first c x (text y ∷ ts) = refl
text_is_first c x (element name kind l us ∷ ts) = refl
text_is_first c x (document us ∷ ts) = refl

leading_merged : (ts : List PlainTree) → AttributesLead ts → holds_attribute (behind_attributes (merged_content ts)) ≡ false
leading_merged [] h = refl
leading_merged (attribute a ∷ ts) h = leading_merged ts h
leading_merged (text [] ∷ ts) h = nothing_before (merged_content ts) ∙ leading_merged ts h
leading_merged (text (c ∷ x) ∷ ts) h = ap holds_attribute (text_is_first c x (merged_content ts)) ∙ none_before (c ∷ x) (merged_content ts) (none_merged ts h)
leading_merged (element name kind l us ∷ ts) h = none_merged ts h
leading_merged (document us ∷ ts) h = none_merged ts h

-- ---- items

abbrev pub IsAttributeFound : Option PlainTree → Type 0
IsAttributeFound None = ⊥
IsAttributeFound (Some (attribute a)) = Unit {0}
IsAttributeFound (Some (document ts)) = ⊥
IsAttributeFound (Some (element name kind l ts)) = ⊥
IsAttributeFound (Some (text x)) = ⊥

abbrev pub IsOtherFound : Option PlainTree → Type 0
IsOtherFound None = ⊥
IsOtherFound (Some (attribute a)) = ⊥
IsOtherFound (Some (document ts)) = Unit {0}
IsOtherFound (Some (element name kind l ts)) = Unit {0}
IsOtherFound (Some (text x)) = Unit {0}

-- an attribute of the forest; and an atomic value, or another node of the forest
abbrev pub IsAttributeItem : Forest → Item → Type 0
IsAttributeItem forest (atom a) = ⊥
IsAttributeItem forest (node place) = IsAttributeFound (node_in forest place)

abbrev pub IsOtherItem : Forest → Item → Type 0
IsOtherItem forest (atom a) = Unit {0}
IsOtherItem forest (node place) = IsOtherFound (node_in forest place)

abbrev pub AreAttributes : Forest → Items → Type 0
AreAttributes forest [] = Unit {0}
AreAttributes forest (x ∷ xs) = IsAttributeItem forest x × AreAttributes forest xs

abbrev pub AreOthers : Forest → Items → Type 0
AreOthers forest [] = Unit {0}
AreOthers forest (x ∷ xs) = IsOtherItem forest x × AreOthers forest xs

abbrev pub AttributesFirst : Forest → Items → Type 0
AttributesFirst forest [] = Unit {0}
AttributesFirst forest (x ∷ xs) = (IsAttributeItem forest x × AttributesFirst forest xs) ⊎ AreOthers forest (x ∷ xs)

-- the items of all parts
abbrev pub items_of_parts : List Items → Items
items_of_parts [] = []
items_of_parts (part ∷ parts) = part ++ items_of_parts parts

-- content that is there, with a fact about it
pub record IsThere (Fact : List PlainTree → Type 0) (found : Option (List PlainTree)) : Type 0 where
  pub content : List PlainTree
  pub is : found ≡ Some content
  pub fact : Fact content

abbrev HasNone : List PlainTree → Type 0
HasNone ts = holds_attribute ts ≡ false

-- attributes in front of any that lead, or of content without any
abbrev LeadOn : List PlainTree → Type 0
LeadOn ts = (us : List PlainTree) → AttributesLead us → AttributesLead (ts ++ us)

abbrev LeadAlone : List PlainTree → Type 0
LeadAlone ts = (us : List PlainTree) → holds_attribute us ≡ false → AttributesLead (ts ++ us)

children_have_none : (ts : PlainTrees) → AreContent ts → holds_attribute (list_of (erased_all ts)) ≡ false
children_have_none no_trees c = refl
children_have_none (a_tree (document us) ts) c = absurd c.0
children_have_none (a_tree (element name kind l us) ts) c = children_have_none ts c.1
children_have_none (a_tree (attribute a) ts) c = absurd c.0
children_have_none (a_tree (text x) ts) c = children_have_none ts c.1

copies_have_none : (t : PlainTree) → IsOtherFound (Some t) → IsProper t → holds_attribute (copies_of t) ≡ false
copies_have_none (document ts) h p = children_have_none ts p
copies_have_none (element name kind l ts) h p = refl
copies_have_none (attribute a) h p = absurd h
copies_have_none (text x) h p = refl

others_are_there : (schemas : SchemaSet) (forest : Forest) → IsHonest schemas forest → (xs : Items) (values : List Atomic) → AreOthers forest xs
    → IsThere HasNone (content_after forest values xs)
others_are_there schemas forest honest [] values h = record { content = text (spaced_values values) ∷ []; is = refl; fact = refl }
others_are_there schemas forest honest (atom a ∷ xs) values h = others_are_there schemas forest honest xs (values ++ a ∷ []) h.1
others_are_there schemas forest honest (node place ∷ xs) values h =
    by_found (others_are_there schemas forest honest xs [] h.1) (node_in forest place) refl h.0
  where
    by_found : IsThere HasNone (content_after forest [] xs) → (o : Option PlainTree) → node_in forest place ≡ o → IsOtherFound o
        → IsThere HasNone (joined_content (Some (text (spaced_values values) ∷ [])) (joined_content (option_map copies_of o) (content_after forest [] xs)))
    by_found r None e f = absurd f
    by_found r (Some t) e f = record {
      content = text (spaced_values values) ∷ (copies_of t ++ r.content);
      is = ap (λ (o : Option (List PlainTree)). joined_content (Some (text (spaced_values values) ∷ [])) (joined_content (Some (copies_of t)) o)) r.is;
      fact = none_behind (copies_of t) r.content (copies_have_none t f (sound_node schemas forest place t honest e).proper) r.fact;
    }

-- an attribute in front
one_more : (Fact : List PlainTree → Type 0) (o : Option PlainTree) (more : Option (List PlainTree)) → IsAttributeFound o → IsThere Fact more
    → ((a : Attribute) (ts : List PlainTree) → Fact ts → Fact (text [] ∷ attribute (erased_attribute a) ∷ ts))
    → IsThere Fact (joined_content (Some (text [] ∷ [])) (joined_content (option_map copies_of o) more))
one_more Fact None more f r k = absurd f
one_more Fact (Some (document ts)) more f r k = absurd f
one_more Fact (Some (element name kind l ts)) more f r k = absurd f
one_more Fact (Some (text x)) more f r k = absurd f
one_more Fact (Some (attribute a)) more f r k = record {
  content = text [] ∷ attribute (erased_attribute a) ∷ r.content;
  is = ap (λ (o : Option (List PlainTree)). joined_content (Some (text [] ∷ [])) (joined_content (Some (attribute (erased_attribute a) ∷ [])) o)) r.is;
  fact = k a r.content r.fact;
}

attributes_are_there : (forest : Forest) (xs : Items) → AreAttributes forest xs → IsThere LeadOn (content_after forest [] xs)
attributes_are_there forest [] h = record { content = text [] ∷ []; is = refl; fact = λ us k. k }
attributes_are_there forest (atom a ∷ xs) h = absurd h.0
attributes_are_there forest (node place ∷ xs) h =
    one_more LeadOn (node_in forest place) (content_after forest [] xs) h.0 (attributes_are_there forest xs h.1) (λ a ts k us l. k us l)

first_are_there : (schemas : SchemaSet) (forest : Forest) → IsHonest schemas forest → (xs : Items) → AttributesFirst forest xs
    → IsThere LeadAlone (content_after forest [] xs)
first_are_there schemas forest honest [] h = record { content = text [] ∷ []; is = refl; fact = λ us e. none_lead us e }
first_are_there schemas forest honest (x ∷ xs) (inr h) =
    let r = others_are_there schemas forest honest (x ∷ xs) [] h in
    record { content = r.content; is = r.is; fact = λ us e. none_lead (r.content ++ us) (none_behind r.content us r.fact e) }
first_are_there schemas forest honest (atom a ∷ xs) (inl h) = absurd h.0
first_are_there schemas forest honest (node place ∷ xs) (inl h) =
    one_more LeadAlone (node_in forest place) (content_after forest [] xs) h.0 (first_are_there schemas forest honest xs h.1) (λ a ts k us e. k us e)

-- ---- all parts

split_others : (forest : Forest) (xs ys : Items) → AreOthers forest (xs ++ ys) → AreOthers forest xs × AreOthers forest ys
split_others forest [] ys h = (tt, h)
split_others forest (x ∷ xs) ys h = let s = split_others forest xs ys h.1 in ((h.0, s.0), s.1)

abbrev Split : Forest → (xs ys : Items) → Type 0
Split forest xs ys = (AreAttributes forest xs × AttributesFirst forest ys) ⊎ (AttributesFirst forest xs × AreOthers forest ys)

split_with : (forest : Forest) (x : Item) (xs ys : Items) → IsAttributeItem forest x → Split forest xs ys → Split forest (x ∷ xs) ys
split_with forest x xs ys a (inl s) = inl ((a, s.0), s.1)
split_with forest x xs ys a (inr s) = inr (inl (a, s.0), s.1)

split_first : (forest : Forest) (xs ys : Items) → AttributesFirst forest (xs ++ ys) → Split forest xs ys
split_first forest [] ys h = inl (tt, h)
split_first forest (x ∷ xs) ys (inl h) = split_with forest x xs ys h.0 (split_first forest xs ys h.1)
split_first forest (x ∷ xs) ys (inr h) = let s = split_others forest xs ys h.1 in inr (inr (h.0, s.0), s.1)

joined_are_there : (One Other Fact : List PlainTree → Type 0) (o p : Option (List PlainTree)) → IsThere One o → IsThere Other p
    → ((ts us : List PlainTree) → One ts → Other us → Fact (ts ++ us)) → IsThere Fact (joined_content o p)
joined_are_there One Other Fact o p r q k = record {
  content = r.content ++ q.content;
  is = λ i. joined_content (r.is i) (q.is i);
  fact = k r.content q.content r.fact q.fact;
}

other_parts_are_there : (schemas : SchemaSet) (forest : Forest) → IsHonest schemas forest → (parts : List Items) → AreOthers forest (items_of_parts parts)
    → IsThere HasNone (content_of_parts forest parts)
other_parts_are_there schemas forest honest [] h = record { content = []; is = refl; fact = refl }
other_parts_are_there schemas forest honest (part ∷ parts) h =
    let s = split_others forest part (items_of_parts parts) h in
    joined_are_there HasNone HasNone HasNone (content_after forest [] part) (content_of_parts forest parts) (others_are_there schemas forest honest part [] s.0)
    (other_parts_are_there schemas forest honest parts s.1) none_behind

parts_are_there : (schemas : SchemaSet) (forest : Forest) → IsHonest schemas forest → (parts : List Items) → AttributesFirst forest (items_of_parts parts)
    → IsThere AttributesLead (content_of_parts forest parts)
parts_are_there schemas forest honest [] h = record { content = []; is = refl; fact = tt }
parts_are_there schemas forest honest (part ∷ parts) h =
    by_split (parts_are_there schemas forest honest parts) (split_first forest part (items_of_parts parts) h)
  where
    by_split : (AttributesFirst forest (items_of_parts parts) → IsThere AttributesLead (content_of_parts forest parts)) → Split forest part (items_of_parts parts)
        → IsThere AttributesLead (joined_content (content_after forest [] part) (content_of_parts forest parts))
    by_split others (inl s) =
        joined_are_there LeadOn AttributesLead AttributesLead (content_after forest [] part) (content_of_parts forest parts) (attributes_are_there forest part s.0) (others s.1)
        (λ ts us k l. k us l)
    by_split others (inr s) =
        joined_are_there LeadAlone HasNone AttributesLead (content_after forest [] part) (content_of_parts forest parts) (first_are_there schemas forest honest part s.0)
        (other_parts_are_there schemas forest honest parts s.1) (λ ts us k e. k us e)

-- ---- what is built

-- a tree of a shape, or an error that is raised
abbrev pub IsBuiltSo : (Fact : Shape → Type 0) → Built → Type 0
IsBuiltSo Fact (built_tree t) = Fact (shape_of t)
IsBuiltSo Fact repeated_name = Unit {0}
IsBuiltSo Fact too_deep = Unit {0}
IsBuiltSo Fact wrong_content = ⊥

built_choice : (Fact : Shape → Type 0) (b : Bool) (one other : Built) → IsBuiltSo Fact one → IsBuiltSo Fact other → IsBuiltSo Fact (if b then one else other)
built_choice Fact true one other h k = h
built_choice Fact false one other h k = k

right_choice : (Fact : Shape → Type 0) (b : Bool) (other : Built) → b ≡ false → IsBuiltSo Fact other → IsBuiltSo Fact (if b then wrong_content else other)
right_choice Fact true other e h = absurd (cc)
right_choice Fact false other e h = h

content_built : (Fact : Shape → Type 0) (Holds : List PlainTree → Type 0) (found : Option (List PlainTree)) (next : List PlainTree → Built) → IsThere Holds found
    → ((ts : List PlainTree) → Holds ts → IsBuiltSo Fact (next (merged_content ts))) → IsBuiltSo Fact (then_built found next)
content_built Fact Holds found next r k =
    subst (λ (o : Option (List PlainTree)). IsBuiltSo Fact (then_built o next)) (sym r.is) (k r.content r.fact)

pub element_is_built : (schemas : SchemaSet) (forest : Forest) (name : Name) (parts : List Items) → IsHonest schemas forest
    → AttributesFirst forest (items_of_parts parts) → IsBuiltSo (λ shape. shape ≡ shapes.Elem name (Builtin Untyped)) (built name parts forest)
element_is_built schemas forest name parts honest h =
    content_built (λ shape. shape ≡ shapes.Elem name (Builtin Untyped)) AttributesLead (content_of_parts forest parts) (built_element depth_limit name)
    (parts_are_there schemas forest honest parts h) (λ ts lead.
    let content = merged_content ts in
    right_choice (λ shape. shape ≡ shapes.Elem name (Builtin Untyped)) (holds_attribute (behind_attributes content))
    (if repeats_name (leading_attributes content) then repeated_name
    else built_within depth_limit (element name (Builtin Untyped) (leading_attributes content) (trees_of (behind_attributes content)))) (leading_merged ts lead)
    (built_choice (λ shape. shape ≡ shapes.Elem name (Builtin Untyped)) (repeats_name (leading_attributes content)) repeated_name
    (built_within depth_limit (element name (Builtin Untyped) (leading_attributes content) (trees_of (behind_attributes content)))) tt
    (built_choice (λ shape. shape ≡ shapes.Elem name (Builtin Untyped)) _ too_deep
    (built_tree (element name (Builtin Untyped) (leading_attributes content) (trees_of (behind_attributes content)))) tt refl)))

-- a document: its shape has what is known of each content of this kind
pub document_is_built : (schemas : SchemaSet) (forest : Forest) (content : Items) (Fact : Shape → Type 0) → IsHonest schemas forest → AreOthers forest content
    → ((ts : List PlainTree) → content_of_parts forest (content ∷ []) ≡ Some ts → Fact (shapes.Doc (only_element (trees_of (merged_content ts)))))
    → IsBuiltSo Fact (document_built content forest)
document_is_built schemas forest content Fact honest h k =
    let r = others_are_there schemas forest honest content [] h in
    let all : IsThere HasNone (content_of_parts forest (content ∷ [])) =
    joined_are_there HasNone HasNone HasNone (content_after forest [] content) (Some []) r (record { content = []; is = refl; fact = refl }) none_behind in
    subst (λ (o : Option (List PlainTree)). IsBuiltSo Fact (then_built o (built_document depth_limit))) (sym all.is)
    (right_choice Fact (holds_attribute (merged_content all.content)) (built_within depth_limit (document (trees_of (merged_content all.content)))) (none_merged all.content all.fact)
    (built_choice Fact _ too_deep (built_tree (document (trees_of (merged_content all.content)))) tt (k all.content all.is)))
