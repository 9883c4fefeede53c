-- Valid trees are honest, and honest trees of documents keep to their types.
use Rattle.std.proofs.Common.{◌≡◌, true, ◌++◌, List, [], inl, inr, subst, sym, Option}
use Rattle.std.specs.Prelude.{IsSome}
use Rattle.gx_base.specs.declared.name.Name.{Name}
use Rattle.gx_base.specs.declared.type_name.Builtin.TheVariants.{Untyped}
use Rattle.gx_base.specs.declared.type_name.TypeName.{TypeName}
use Rattle.gx_base.specs.declared.type_name.TypeName.TheVariants.{Builtin}
use Rattle.gx_tree.specs.PlainTree.{PlainTree, PlainTrees, document, element, attribute, text, no_trees, a_tree, IsContent, AreContent}
use Rattle.gx_tree.specs.OwnNames.{HasOwnNames, AllHaveOwnNames}
use Rattle.gx_tree.specs.declared.attribute.Attribute.{Attribute}
use Rattle.gx_types.specs.SchemaSet.{SchemaSet, declaration_of, global_type}
use Rattle.gx_types.specs.SchemaInvariant.{IsSchemaSet, is_named_type}
use Rattle.gx_types.specs.Takes.{Takes}
use Rattle.gx_types.specs.declared.declaration.Declared.{Declared}
use Rattle.gx_types.specs.declared.shape.Shape.{Shape}
use Rattle.gx_model.specs.DeclaredContent.{content_model}
use Rattle.gx_model.specs.SeparateTexts.{AreSeparateTexts, HasSeparateTexts, AllHaveSeparateTexts}
use Rattle.gx_model.specs.TypedTree.{KeepsToType, IsWellTyped, AreWellTyped, IsTyped, AreTyped}
use Rattle.gx_model.specs.Honest.{IsHonestTree}
use Rattle.gx_xml.specs.Sound.{IsSoundSource, AreSoundContents}
use Rattle.gx_xml.specs.SourceTree.{SourceTree, SourceContents, source, no_content, a_child, a_text, tree_name}
use Rattle.gx_xml.specs.declared.source.Declaration.{Declaration}
use Rattle.gx_validate.specs.ElementContent.{type_of_child, child_shapes}
use Rattle.gx_validate.specs.Outcome.{root_type}
use Rattle.gx_validate.specs.Valid.{IsTypedTree, AreTypedTrees, IsTreeOfDocument}
use Rattle.gx_validate.specs.Laws.{ValidTreesAreHonest, ValidTreesAreWellTyped}
use Rattle.gx_validate.proofs.Annotations.{annotation_is_known, root_is_known}
use Rattle.gx_validate.proofs.Models.{AreKnown, children_are_known, holder_fits}
use Rattle.gx_validate.proofs.TypedChildren.{shapes_are, texts_are_separate}

-- a tree of an element is an element over elements and texts
mutual
  tree_is_content : (schemas : SchemaSet) (scope : List Declaration) (declared : TypeName) (u : SourceTree) (v : PlainTree) → IsTypedTree schemas scope declared u v → IsContent v
  tree_is_content schemas scope declared (source name declarations attributes cs) v (kind, typed, ts, is, start, below) =
      subst IsContent (sym is) (trees_are_content schemas (declarations ++ scope) (declaration_of schemas kind) cs ts below)

  trees_are_content : (schemas : SchemaSet) (scope : List Declaration) (holder : Option Declared) (cs : SourceContents) (ts : PlainTrees) → AreTypedTrees schemas scope holder cs ts → AreContent ts
  trees_are_content schemas scope holder no_content ts h = subst AreContent (sym h) tt
  trees_are_content schemas scope holder (a_child t cs) ts (v, vs, is, first, others) =
      subst AreContent (sym is) (tree_is_content schemas scope (type_of_child holder (tree_name t)) t v first, trees_are_content schemas scope holder cs vs others)
  trees_are_content schemas scope holder (a_text x cs) ts h = elim h [
    | inl left_out ↦ trees_are_content schemas scope holder cs ts left_out.1
    | inr kept ↦ let (vs, is, others) = kept.1 in subst AreContent (sym is) (tt, trees_are_content schemas scope holder cs vs others)
  ]

-- ---- from trees whose elements keep to their types to honest trees

mutual
  typed : (schemas : SchemaSet) (t : PlainTree) → IsContent t → IsWellTyped schemas t → IsTyped schemas t
  typed schemas (document ts) p h = absurd p
  typed schemas (element name kind attributes ts) p h = inr (h.0, all_typed schemas ts p h.1)
  typed schemas (attribute a) p h = absurd p
  typed schemas (text x) p h = tt

  all_typed : (schemas : SchemaSet) (ts : PlainTrees) → AreContent ts → AreWellTyped schemas ts → AreTyped schemas ts
  all_typed schemas no_trees p h = tt
  all_typed schemas (a_tree t ts) p h = (typed schemas t p.0 h.0, all_typed schemas ts p.1 h.1)

mutual
  own_names : (schemas : SchemaSet) (t : PlainTree) → IsContent t → IsWellTyped schemas t → HasOwnNames t
  own_names schemas (document ts) p h = absurd p
  own_names schemas (element name kind attributes ts) p h = (h.0.distinct, all_own_names schemas ts p h.1)
  own_names schemas (attribute a) p h = tt
  own_names schemas (text x) p h = tt

  all_own_names : (schemas : SchemaSet) (ts : PlainTrees) → AreContent ts → AreWellTyped schemas ts → AllHaveOwnNames ts
  all_own_names schemas no_trees p h = tt
  all_own_names schemas (a_tree t ts) p h = (own_names schemas t p.0 h.0, all_own_names schemas ts p.1 h.1)

-- texts stand apart in a tree as they do in the document
mutual
  separate_texts : (schemas : SchemaSet) (scope : List Declaration) (declared : TypeName) (u : SourceTree) (v : PlainTree) → IsSoundSource u → IsTypedTree schemas scope declared u v → HasSeparateTexts v
  separate_texts schemas scope declared (source name declarations attributes cs) v sound (kind, typed, ts, is, start, below) =
      subst HasSeparateTexts (sym is) (
        texts_are_separate schemas (declarations ++ scope) (declaration_of schemas kind) cs ts sound.2 below,
        all_separate_texts schemas (declarations ++ scope) (declaration_of schemas kind) cs ts sound.2 below,
      )

  all_separate_texts : (schemas : SchemaSet) (scope : List Declaration) (holder : Option Declared) (cs : SourceContents) (ts : PlainTrees) → AreSoundContents cs → AreTypedTrees schemas scope holder cs ts
      → AllHaveSeparateTexts ts
  all_separate_texts schemas scope holder no_content ts sound h = subst AllHaveSeparateTexts (sym h) tt
  all_separate_texts schemas scope holder (a_child t cs) ts sound (v, vs, is, first, others) =
      subst AllHaveSeparateTexts (sym is) (separate_texts schemas scope (type_of_child holder (tree_name t)) t v sound.0 first, all_separate_texts schemas scope holder cs vs sound.1 others)
  all_separate_texts schemas scope holder (a_text x cs) ts sound h = elim h [
    | inl left_out ↦ all_separate_texts schemas scope holder cs ts sound.2 left_out.1
    | inr kept ↦ let (vs, is, others) = kept.1 in subst AllHaveSeparateTexts (sym is) (tt, all_separate_texts schemas scope holder cs vs sound.2 others)
  ]

root_stands_alone : (schemas : SchemaSet) (scope : List Declaration) (declared : TypeName) (u : SourceTree) (v : PlainTree) → IsTypedTree schemas scope declared u v → AreSeparateTexts (a_tree v no_trees)
root_stands_alone schemas scope declared (source name declarations attributes cs) v (kind, typed, ts, is, start, below) =
    subst (λ (t : PlainTree). AreSeparateTexts (a_tree t no_trees)) (sym is) tt

pub honest_tree : (schemas : SchemaSet) (root : Name) (u : SourceTree) (v : PlainTree) → IsSoundSource u → IsTreeOfDocument schemas root u v → IsWellTyped schemas v → IsHonestTree schemas v
honest_tree schemas root u v sound h well =
    let content = tree_is_content schemas [] (root_type schemas root) u h.top h.of_root in
    let parts : IsWellTyped schemas h.top × Unit {0} = subst (IsWellTyped schemas) h.whole well in
    subst (IsHonestTree schemas) (sym h.whole) (record {
      proper = (content, tt);
      typed = (typed schemas h.top content parts.0, tt);
      texts = (root_stands_alone schemas [] (root_type schemas root) u h.top h.of_root, (separate_texts schemas [] (root_type schemas root) u h.top sound h.of_root, tt));
      names = (own_names schemas h.top content parts.0, tt);
    })

-- ---- from honest trees to trees whose elements keep to their types

-- an element of a named type is not xs:untyped
keeps_where_named : (schemas : SchemaSet) (name : Name) (kind : TypeName) (attributes : List Attribute) (ts : PlainTrees) → is_named_type schemas kind ≡ true → IsTyped schemas (element name kind attributes ts)
    → KeepsToType schemas kind attributes ts × AreTyped schemas ts
keeps_where_named schemas name kind attributes ts known (inl untyped) =
    let e : is_named_type schemas (Builtin Untyped) ≡ true = subst (λ (t : TypeName). is_named_type schemas t ≡ true) untyped.0 known in absurd (cc)
keeps_where_named schemas name kind attributes ts known (inr keeps) = keeps

mutual
  well_typed : (schemas : SchemaSet) (scope : List Declaration) (declared : TypeName) (u : SourceTree) (v : PlainTree) → IsSchemaSet schemas → is_named_type schemas declared ≡ true
      → IsTypedTree schemas scope declared u v → IsTyped schemas v → IsWellTyped schemas v
  well_typed schemas scope declared (source name declarations attributes cs) v i known (kind, own, ts, is, start, below) kept =
      let inner : List Declaration = declarations ++ scope in
      let holder : Option Declared = declaration_of schemas kind in
      let parts = keeps_where_named schemas name kind own ts (annotation_is_known schemas inner declared attributes kind known start.annotation) (subst (IsTyped schemas) is kept) in
      let keeps : KeepsToType schemas kind own ts = parts.0 in
      let takes : Takes schemas (content_model holder) (child_shapes schemas inner holder cs) =
      subst (λ (xs : List Shape). Takes schemas (content_model holder) xs) (shapes_are schemas inner holder cs ts i.grounded below) keeps.children in
      subst (IsWellTyped schemas) (sym is)
      (keeps, all_well_typed schemas inner holder cs ts i (children_are_known schemas inner holder cs (holder_fits schemas kind i) takes) below parts.1)

  all_well_typed : (schemas : SchemaSet) (scope : List Declaration) (holder : Option Declared) (cs : SourceContents) (ts : PlainTrees) → IsSchemaSet schemas → AreKnown schemas holder cs
      → AreTypedTrees schemas scope holder cs ts → AreTyped schemas ts → AreWellTyped schemas ts
  all_well_typed schemas scope holder no_content ts i known h kept = subst (AreWellTyped schemas) (sym h) tt
  all_well_typed schemas scope holder (a_child t cs) ts i known (v, vs, is, first, others) kept =
      let parts : IsTyped schemas v × AreTyped schemas vs = subst (AreTyped schemas) is kept in
      subst (AreWellTyped schemas) (sym is)
      (well_typed schemas scope (type_of_child holder (tree_name t)) t v i known.0 first parts.0, all_well_typed schemas scope holder cs vs i known.1 others parts.1)
  all_well_typed schemas scope holder (a_text x cs) ts i known (inl h) kept = all_well_typed schemas scope holder cs ts i known h.1 kept
  all_well_typed schemas scope holder (a_text x cs) ts i known (inr h) kept =
      let (vs, is, others) = h.1 in
      let parts : Unit {0} × AreTyped schemas vs = subst (AreTyped schemas) is kept in
      subst (AreWellTyped schemas) (sym is) (tt, all_well_typed schemas scope holder cs vs i known others parts.1)

pub root_keeps : (schemas : SchemaSet) (root : Name) (u : SourceTree) (v : PlainTree) → IsSchemaSet schemas → IsSome (global_type schemas root) → (h : IsTreeOfDocument schemas root u v) → IsTyped schemas v
    → IsWellTyped schemas h.top
root_keeps schemas root u v i g h kept =
    let parts : IsTyped schemas h.top × Unit {0} = subst (IsTyped schemas) h.whole kept in
    well_typed schemas [] (root_type schemas root) u h.top i (root_is_known schemas root i g) h.of_root parts.0

-- ---- laws

pub valid_trees_are_honest : ValidTreesAreHonest
valid_trees_are_honest schemas root u v = (λ h. (h.honest, h.of_document), λ h. record { honest = h.0; of_document = h.1 })

valid_is_well_typed : (schemas : SchemaSet) (root : Name) (u : SourceTree) (v : PlainTree) → IsSchemaSet schemas → IsSome (global_type schemas root) → (h : IsTreeOfDocument schemas root u v) → IsTyped schemas v
    → IsWellTyped schemas v
valid_is_well_typed schemas root u v i g h typed = subst (IsWellTyped schemas) (sym h.whole) (root_keeps schemas root u v i g h typed, tt)

pub valid_trees_are_well_typed : ValidTreesAreWellTyped
valid_trees_are_well_typed schemas root u v i g sound = (
  λ h. let honest = h.honest in (valid_is_well_typed schemas root u v i g h.of_document honest.typed, h.of_document),
  λ h. record { honest = honest_tree schemas root u v sound h.1 h.0; of_document = h.1 },
)
