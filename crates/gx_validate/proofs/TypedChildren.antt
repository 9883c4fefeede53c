-- The children of elements, and the trees that stand for them.
use Rattle.std.proofs.Common.{◌≡◌, ℕ, ◌++◌, Bool, true, List, [], ◌∷◌, inl, inr, sym, ◌∙◌, ap, subst, Option, if◌then◌else◌}
use Rattle.std.specs.Prelude.{unwrap_or}
use Rattle.gx_base.specs.declared.type_name.TypeName.{TypeName}
use Rattle.gx_tree.specs.PlainTree.{PlainTree, PlainTrees, a_tree}
use Rattle.gx_tree.specs.StringValue.{string_values, texts_joined}
use Rattle.gx_types.specs.Derivation.{bases_of}
use Rattle.gx_types.specs.Grounded.{Grounded}
use Rattle.gx_types.specs.SchemaSet.{SchemaSet}
use Rattle.gx_types.specs.Takes.{Takes, EachShape, SomeItemTakes}
use Rattle.gx_types.specs.declared.declaration.Declared.{Declared}
use Rattle.gx_types.specs.declared.item_type.ItemType.TheVariants as items
use Rattle.gx_types.specs.declared.shape.Shape.{Shape}
use Rattle.gx_types.specs.declared.shape.Shape.TheVariants as shapes
use Rattle.gx_types.proofs.PublicLaws.{items_take_each_shape}
use Rattle.gx_model.specs.Belongs.{shape_of}
use Rattle.gx_xml.specs.Sound.{AreSoundContents, BeginsWithNoText}
use Rattle.gx_xml.specs.SourceTree.{SourceTree, SourceContents, source, no_content, a_child, a_text, tree_name}
use Rattle.gx_xml.specs.declared.source.Declaration.{Declaration}
use Rattle.gx_model.specs.DeclaredContent.{text_model, content_model, has_values}
use Rattle.gx_validate.specs.ElementContent.{texts_allowed, is_ignored, type_of_child, text_shapes, child_shape, child_shapes}
use Rattle.gx_validate.specs.Rules.{child_texts}
use Rattle.gx_model.specs.SeparateTexts.{BeginsWithoutText, AreSeparateTexts}
use Rattle.gx_model.specs.TypedTree.{shapes_of_trees}
use Rattle.gx_validate.specs.Valid.{IsTypedTree, AreTypedTrees}
use Rattle.gx_validate.specs.declared.content.Texts.{Texts}
use Rattle.gx_validate.specs.declared.content.Texts.TheVariants.{Kept}
use Rattle.gx_validate.proofs.Annotations.{annotation_is}
use Rattle.gx_validate.proofs.Models.{values_keep_texts, values_have_text_model}

-- ---- shapes

shape_is : (s : SchemaSet) (scope : List Declaration) (holder : Option Declared) (t : SourceTree) (v : PlainTree) → Grounded (bases_of s) → IsTypedTree s scope (type_of_child holder (tree_name t)) t v
    → shape_of v ≡ child_shape s scope holder t
shape_is s scope holder (source name declarations attributes cs) v g h =
    let e = annotation_is s (declarations ++ scope) (type_of_child holder name) attributes h.0 g h.4.annotation in
    ap shape_of h.3 ∙ ap (λ (o : Option TypeName). shapes.Elem name (unwrap_or o (type_of_child holder name))) (sym e)

-- the children as the content model sees them are the trees as it sees them
pub shapes_are : (s : SchemaSet) (scope : List Declaration) (holder : Option Declared) (cs : SourceContents) (ts : PlainTrees) → Grounded (bases_of s) → AreTypedTrees s scope holder cs ts
    → shapes_of_trees ts ≡ child_shapes s scope holder cs
shapes_are s scope holder no_content ts g h = ap shapes_of_trees h
shapes_are s scope holder (a_child t cs) ts g h =
    ap shapes_of_trees h.2 ∙ ap (λ (x : Shape). x ∷ shapes_of_trees h.1) (shape_is s scope holder t h.0 g h.3)
    ∙ ap (λ (xs : List Shape). child_shape s scope holder t ∷ xs) (shapes_are s scope holder cs h.1 g h.4)
shapes_are s scope holder (a_text x cs) ts g (inl h) =
    shapes_are s scope holder cs ts g h.1 ∙ ap (λ (b : Bool). (if b then [] else (shapes.Text ∷ [])) ++ child_shapes s scope holder cs) (sym h.0)
shapes_are s scope holder (a_text x cs) ts g (inr h) =
    ap shapes_of_trees h.1.1 ∙ ap (λ (xs : List Shape). shapes.Text ∷ xs) (shapes_are s scope holder cs h.1.0 g h.1.2)
    ∙ ap (λ (b : Bool). (if b then [] else (shapes.Text ∷ [])) ++ child_shapes s scope holder cs) (sym h.0)

-- ---- texts that stand apart

begins_without : (s : SchemaSet) (scope : List Declaration) (holder : Option Declared) (cs : SourceContents) (ts : PlainTrees) → BeginsWithNoText cs → AreTypedTrees s scope holder cs ts → BeginsWithoutText ts
begins_without s scope holder no_content ts b h = subst BeginsWithoutText (sym h) tt
begins_without s scope holder (a_child (source name declarations attributes inner) cs) ts b h =
    subst BeginsWithoutText (sym (h.2 ∙ ap (λ (v : PlainTree). a_tree v h.1) h.3.3)) tt
begins_without s scope holder (a_text x cs) ts b h = absurd b

pub texts_are_separate : (s : SchemaSet) (scope : List Declaration) (holder : Option Declared) (cs : SourceContents) (ts : PlainTrees) → AreSoundContents cs → AreTypedTrees s scope holder cs ts → AreSeparateTexts ts
texts_are_separate s scope holder no_content ts i h = subst AreSeparateTexts (sym h) tt
texts_are_separate s scope holder (a_child (source name declarations attributes inner) cs) ts i h =
    subst AreSeparateTexts (sym (h.2 ∙ ap (λ (v : PlainTree). a_tree v h.1) h.3.3)) (texts_are_separate s scope holder cs h.1 i.1 h.4)
texts_are_separate s scope holder (a_text x cs) ts i (inl h) = texts_are_separate s scope holder cs ts i.2 h.1
texts_are_separate s scope holder (a_text x cs) ts i (inr h) =
    subst AreSeparateTexts (sym h.1.1) (i.0, begins_without s scope holder cs h.1.0 i.1 h.1.2, texts_are_separate s scope holder cs h.1.0 i.2 h.1.2)

-- ---- the text of an element with simple values

not_ignored : (texts : Texts) (x : List ℕ) → texts ≡ Kept → is_ignored texts x ≡ true → ⊥
not_ignored texts x e h = let q : is_ignored Kept x ≡ true = ap (λ (t : Texts). is_ignored t x) (sym e) ∙ h in absurd (cc)

behind_texts : (s : SchemaSet) (kept : List Shape) (others : List Shape) → EachShape (SomeItemTakes s (items.Text ∷ [])) (kept ++ others) → EachShape (SomeItemTakes s (items.Text ∷ [])) others
behind_texts s [] others h = h
behind_texts s (x ∷ xs) others h = behind_texts s xs others h.1

values_joined : (s : SchemaSet) (scope : List Declaration) (holder : Option Declared) (cs : SourceContents) (ts : PlainTrees) → texts_allowed holder ≡ Kept
    → EachShape (SomeItemTakes s (items.Text ∷ [])) (child_shapes s scope holder cs) → AreTypedTrees s scope holder cs ts → string_values ts ≡ texts_joined (child_texts cs)
values_joined s scope holder no_content ts e p h = ap string_values h
values_joined s scope holder (a_child t cs) ts e p h = elim p.0 [ inl q ↦ absurd q | inr q ↦ absurd q ]
values_joined s scope holder (a_text x cs) ts e p (inl h) = absurd (not_ignored (texts_allowed holder) x e h.0)
values_joined s scope holder (a_text x cs) ts e p (inr h) =
    ap string_values h.1.1
    ∙ ap (λ (xs : List ℕ). x ++ xs) (values_joined s scope holder cs h.1.0 e (behind_texts s (text_shapes (texts_allowed holder) x) (child_shapes s scope holder cs) p) h.1.2)

-- the string value is the texts of the document, where it stands for simple values
pub value_is_text : (s : SchemaSet) (scope : List Declaration) (holder : Option Declared) (cs : SourceContents) (ts : PlainTrees) → has_values holder ≡ true
    → Takes s (content_model holder) (child_shapes s scope holder cs) → AreTypedTrees s scope holder cs ts → string_values ts ≡ texts_joined (child_texts cs)
value_is_text s scope holder cs ts v p h =
    values_joined s scope holder cs ts (values_keep_texts holder v)
    (items_take_each_shape s text_model (child_shapes s scope holder cs) (subst (λ t. Takes s t (child_shapes s scope holder cs)) (values_have_text_model holder v) p)) h
