-- The trees that constructors make are honest.
use Rattle.std.proofs.Common.{◌≡◌, ◌≢◌, ℕ, zero, suc, Bool, true, false, ◌||◌, List, [], ◌∷◌, ◌++◌, map, Option, None, Some, refl, sym, ◌∙◌, ap, subst, if◌then◌else◌}
use Rattle.std.specs.List.{slice_get}
use Rattle.std.specs.Option.{option_map}
use Rattle.gx_base.specs.Name.{same_name}
use Rattle.gx_base.specs.declared.name.Name.{Name}
use Rattle.gx_base.specs.declared.type_name.Builtin.TheVariants.{Untyped, UntypedAtomic}
use Rattle.gx_base.specs.declared.type_name.TypeName.TheVariants.{Builtin}
use Rattle.gx_facets.specs.declared.Atomic.{Atomic}
use Rattle.gx_types.specs.SchemaSet.{SchemaSet}
use Rattle.gx_tree.specs.declared.attribute.Attribute.{Attribute}
use Rattle.gx_tree.specs.PlainTree.{PlainTree, PlainTrees, document, element, attribute, text, no_trees, a_tree, trees_of, list_of, IsProper, AreContent, IsContent}
use Rattle.gx_tree.specs.Erasure.{erased, erased_all, erased_attribute, IsUntyped, AreUntyped, AreUntypedAtomic}
use Rattle.gx_tree.specs.OwnNames.{has_attribute, HaveOwnNames, HasOwnNames, AllHaveOwnNames}
use Rattle.gx_model.specs.Forest.{Forest, PlainNode, children_of, own_attributes, tree_at, attribute_at, then_found, node_in}
use Rattle.gx_model.specs.Item.{atom, node, Items}
use Rattle.gx_model.specs.Honest.{IsHonestTree, IsHonest}
use Rattle.gx_model.specs.SeparateTexts.{BeginsWithoutText, AreSeparateTexts, HasSeparateTexts, AllHaveSeparateTexts}
use Rattle.gx_model.specs.Atomization.{atomized}
use Rattle.gx_model.specs.Growth.{Extends}
use Rattle.gx_model.proofs.PublicLaws.{growth_is_an_order}
use Rattle.gx_model.proofs.UntypedTrees.{untyped_is_typed}
use Rattle.gx_core.specs.Comparing.{atoms_among}
use Rattle.gx_core.specs.declared.constructor.Constructor.TheVariants as constructors
use Rattle.gx_core.specs.Constructing.{texts_of_parts, tree_appended, built_outcome, text_outcome}
use Rattle.gx_core.specs.Laws.{ConstructorsKeepForestsHonest}
use Rattle.gx_core.specs.Outcome.{gives, given}
use Rattle.gx_core.specs.Constructing.{spaced_values, children_or_self, copies_of, joined_content, content_after, content_of_parts, text_before, merged_content}
use Rattle.gx_core.specs.Constructing.{leading_attributes, behind_attributes, holds_attribute, repeats_name}
use Rattle.gx_core.specs.Constructing.{Built, built_tree, repeated_name, too_deep, wrong_content, built_within, built_element, built_document, then_built, depth_limit, built, document_built, attribute_built}

-- ---- the nodes of an honest forest

-- what a node has whatever the types are
pub record IsSound (t : PlainTree) : Type 0 where
  pub proper : IsProper t
  pub texts : HasSeparateTexts t
  pub names : HasOwnNames t

content_is_proper : (t : PlainTree) → IsContent t → IsProper t
content_is_proper (document ts) h = absurd h
content_is_proper (element name kind l ts) h = h
content_is_proper (attribute a) h = absurd h
content_is_proper (text x) h = tt

child_among : (ts : PlainTrees) (n : ℕ) (t : PlainTree) → AreContent ts → AllHaveSeparateTexts ts → AllHaveOwnNames ts
    → slice_get (list_of ts) n ≡ Some t → IsSound t
child_among no_trees n t c s o e = absurd (cc)
child_among (a_tree u us) zero t c s o e =
    let same : u ≡ t = cc in
    subst IsSound same (record { proper = content_is_proper u c.0; texts = s.0; names = o.0 })
child_among (a_tree u us) (suc n) t c s o e = child_among us n t c.1 s.1 o.1 e

sound_child : (t : PlainTree) (n : ℕ) (child : PlainTree) → IsSound t → slice_get (children_of t) n ≡ Some child → IsSound child
sound_child (document ts) n child h e = child_among ts n child h.proper h.texts.1 h.names e
sound_child (element name kind l ts) n child h e = child_among ts n child h.proper h.texts.1 h.names.1 e
sound_child (attribute a) n child h e = absurd (cc)
sound_child (text x) n child h e = absurd (cc)

sound_below : (path : List ℕ) (t found : PlainTree) → IsSound t → tree_at t path ≡ Some found → IsSound found
sound_below [] t found h e = let same : t ≡ found = cc in subst IsSound same h
sound_below (n ∷ path) t found h e = by_child (sound_below path) (slice_get (children_of t) n) refl e
  where
    by_child : ((u v : PlainTree) → IsSound u → tree_at u path ≡ Some v → IsSound v) → (o : Option PlainTree) → slice_get (children_of t) n ≡ o
        → then_found o (λ child. tree_at child path) ≡ Some found → IsSound found
    by_child deeper None f g = absurd (cc)
    by_child deeper (Some child) f g = deeper child found (sound_child t n child h f) g

sound_attribute : (position : Option ℕ) (t found : PlainTree) → IsSound t → attribute_at position t ≡ Some found → IsSound found
sound_attribute None t found h e = let same : t ≡ found = cc in subst IsSound same h
sound_attribute (Some n) t found h e = by_attribute (slice_get (own_attributes t) n) e
  where
    by_attribute : (o : Option Attribute) → option_map attribute o ≡ Some found → IsSound found
    by_attribute None f = absurd (cc)
    by_attribute (Some a) f = let same : attribute a ≡ found = cc in subst IsSound same (record { proper = tt; texts = tt; names = tt })

sound_tree : (schemas : SchemaSet) (forest : Forest) (n : ℕ) (t : PlainTree) → IsHonest schemas forest → slice_get forest n ≡ Some t → IsSound t
sound_tree schemas [] n t h e = absurd (cc)
sound_tree schemas (u ∷ forest) zero t h e =
    let same : u ≡ t = cc in
    subst IsSound same (record { proper = h.0.proper; texts = h.0.texts; names = h.0.names })
sound_tree schemas (u ∷ forest) (suc n) t h e = sound_tree schemas forest n t h.1 e

pub sound_node : (schemas : SchemaSet) (forest : Forest) (place : PlainNode) (found : PlainTree) → IsHonest schemas forest → node_in forest place ≡ Some found
    → IsSound found
sound_node schemas forest place found h e = by_tree (slice_get forest place.tree) refl e
  where
    by_node : (t : PlainTree) → IsSound t → (o : Option PlainTree) → tree_at t place.path ≡ o → then_found o (attribute_at place.attribute) ≡ Some found
        → IsSound found
    by_node t s None f g = absurd (cc)
    by_node t s (Some u) f g = sound_attribute place.attribute u found (sound_below place.path t u s f) g

    by_tree : (o : Option PlainTree) → slice_get forest place.tree ≡ o
        → then_found o (λ t. then_found (tree_at t place.path) (attribute_at place.attribute)) ≡ Some found → IsSound found
    by_tree None f g = absurd (cc)
    by_tree (Some t) f g = by_node t (sound_tree schemas forest place.tree t h f) (tree_at t place.path) refl g

-- ---- erasure keeps it

same_names : (others : List Attribute) (a : Attribute) → has_attribute (map erased_attribute others) (erased_attribute a) ≡ has_attribute others a
same_names [] a = refl
same_names (b ∷ others) a = ap (λ (c : Bool). same_name a.name b.name || c) (same_names others a)

own_names_erased : (l : List Attribute) → HaveOwnNames l → HaveOwnNames (map erased_attribute l)
own_names_erased [] h = tt
own_names_erased (a ∷ others) h = (same_names others a ∙ h.0, own_names_erased others h.1)

begins_erased : (ts : PlainTrees) → BeginsWithoutText ts → BeginsWithoutText (erased_all ts)
begins_erased no_trees h = tt
begins_erased (a_tree (document us) ts) h = tt
begins_erased (a_tree (element name kind l us) ts) h = tt
begins_erased (a_tree (attribute a) ts) h = tt
begins_erased (a_tree (text x) ts) h = h

separate_erased : (ts : PlainTrees) → AreSeparateTexts ts → AreSeparateTexts (erased_all ts)
separate_erased no_trees h = tt
separate_erased (a_tree (document us) ts) h = separate_erased ts h
separate_erased (a_tree (element name kind l us) ts) h = separate_erased ts h
separate_erased (a_tree (attribute a) ts) h = separate_erased ts h
separate_erased (a_tree (text x) ts) h = (h.0, begins_erased ts h.1, separate_erased ts h.2)

mutual
  texts_erased : (t : PlainTree) → HasSeparateTexts t → HasSeparateTexts (erased t)
  texts_erased (document ts) h = (separate_erased ts h.0, all_texts_erased ts h.1)
  texts_erased (element name kind l ts) h = (separate_erased ts h.0, all_texts_erased ts h.1)
  texts_erased (attribute a) h = tt
  texts_erased (text x) h = tt

  all_texts_erased : (ts : PlainTrees) → AllHaveSeparateTexts ts → AllHaveSeparateTexts (erased_all ts)
  all_texts_erased no_trees h = tt
  all_texts_erased (a_tree t ts) h = (texts_erased t h.0, all_texts_erased ts h.1)

mutual
  names_erased : (t : PlainTree) → HasOwnNames t → HasOwnNames (erased t)
  names_erased (document ts) h = all_names_erased ts h
  names_erased (element name kind l ts) h = (own_names_erased l h.0, all_names_erased ts h.1)
  names_erased (attribute a) h = tt
  names_erased (text x) h = tt

  all_names_erased : (ts : PlainTrees) → AllHaveOwnNames ts → AllHaveOwnNames (erased_all ts)
  all_names_erased no_trees h = tt
  all_names_erased (a_tree t ts) h = (names_erased t h.0, all_names_erased ts h.1)

mutual
  content_erased : (ts : PlainTrees) → AreContent ts → AreContent (erased_all ts)
  content_erased no_trees h = tt
  content_erased (a_tree t ts) h = (one_erased t h.0, content_erased ts h.1)

  one_erased : (t : PlainTree) → IsContent t → IsContent (erased t)
  one_erased (document ts) h = absurd h
  one_erased (element name kind l ts) h = content_erased ts h
  one_erased (attribute a) h = absurd h
  one_erased (text x) h = tt

proper_erased : (t : PlainTree) → IsProper t → IsProper (erased t)
proper_erased (document ts) h = content_erased ts h
proper_erased (element name kind l ts) h = content_erased ts h
proper_erased (attribute a) h = tt
proper_erased (text x) h = tt

attributes_are_untyped : (l : List Attribute) → AreUntypedAtomic (map erased_attribute l)
attributes_are_untyped [] = tt
attributes_are_untyped (a ∷ l) = (refl, attributes_are_untyped l)

mutual
  erased_is_untyped : (t : PlainTree) → IsUntyped (erased t)
  erased_is_untyped (document ts) = erased_are_untyped ts
  erased_is_untyped (element name kind l ts) = (refl, attributes_are_untyped l, erased_are_untyped ts)
  erased_is_untyped (attribute a) = refl
  erased_is_untyped (text x) = tt

  erased_are_untyped : (ts : PlainTrees) → AreUntyped (erased_all ts)
  erased_are_untyped no_trees = tt
  erased_are_untyped (a_tree t ts) = (erased_is_untyped t, erased_are_untyped ts)

sound_erased : (t : PlainTree) → IsSound t → IsSound (erased t)
sound_erased t h = record { proper = proper_erased t h.proper; texts = texts_erased t h.texts; names = names_erased t h.names }

-- ---- content

-- a node as it stands in content: without types, and no document
abbrev IsCopy : PlainTree → Type 0
IsCopy (document ts) = ⊥
IsCopy (element name kind l ts) = IsUntyped (element name kind l ts) × IsSound (element name kind l ts)
IsCopy (attribute a) = a.kind ≡ Builtin UntypedAtomic
IsCopy (text x) = Unit {0}

abbrev AreCopies : List PlainTree → Type 0
AreCopies [] = Unit {0}
AreCopies (t ∷ ts) = IsCopy t × AreCopies ts

abbrev AreCopiesIfFound : Option (List PlainTree) → Type 0
AreCopiesIfFound None = Unit {0}
AreCopiesIfFound (Some ts) = AreCopies ts

copies_behind : (ts us : List PlainTree) → AreCopies ts → AreCopies us → AreCopies (ts ++ us)
copies_behind [] us h k = k
copies_behind (t ∷ ts) us h k = (h.0, copies_behind ts us h.1 k)

copies_joined : (one other : Option (List PlainTree)) → AreCopiesIfFound one → AreCopiesIfFound other → AreCopiesIfFound (joined_content one other)
copies_joined None other h k = tt
copies_joined (Some ts) None h k = tt
copies_joined (Some ts) (Some us) h k = copies_behind ts us h k

children_are_copies : (ts : PlainTrees) → AreUntyped ts → AreContent ts → AllHaveSeparateTexts ts → AllHaveOwnNames ts → AreCopies (list_of ts)
children_are_copies no_trees u c s o = tt
children_are_copies (a_tree (document us) ts) u c s o = absurd c.0
children_are_copies (a_tree (element name kind l us) ts) u c s o =
    ((u.0, record { proper = c.0; texts = s.0; names = o.0 }), children_are_copies ts u.1 c.1 s.1 o.1)
children_are_copies (a_tree (attribute a) ts) u c s o = absurd c.0
children_are_copies (a_tree (text x) ts) u c s o = (tt, children_are_copies ts u.1 c.1 s.1 o.1)

node_gives_copies : (t : PlainTree) → IsUntyped t → IsSound t → AreCopies (children_or_self t)
node_gives_copies (document ts) u h = children_are_copies ts u h.proper h.texts.1 h.names
node_gives_copies (element name kind l ts) u h = ((u, h), tt)
node_gives_copies (attribute a) u h = (u, tt)
node_gives_copies (text x) u h = (tt, tt)

found_gives_copies : (schemas : SchemaSet) (forest : Forest) (place : PlainNode) → IsHonest schemas forest → AreCopiesIfFound (option_map copies_of (node_in forest place))
found_gives_copies schemas forest place h = by_found (node_in forest place) refl
  where
    by_found : (o : Option PlainTree) → node_in forest place ≡ o → AreCopiesIfFound (option_map copies_of o)
    by_found None e = tt
    by_found (Some t) e = node_gives_copies (erased t) (erased_is_untyped t) (sound_erased t (sound_node schemas forest place t h e))

part_gives_copies : (schemas : SchemaSet) (forest : Forest) (values : List Atomic) (part : Items) → IsHonest schemas forest
    → AreCopiesIfFound (content_after forest values part)
part_gives_copies schemas forest values [] h = (tt, tt)
part_gives_copies schemas forest values (atom a ∷ part) h = part_gives_copies schemas forest (values ++ a ∷ []) part h
part_gives_copies schemas forest values (node place ∷ part) h =
    copies_joined (Some (text (spaced_values values) ∷ [])) (joined_content (option_map copies_of (node_in forest place)) (content_after forest [] part)) (tt, tt)
    (copies_joined (option_map copies_of (node_in forest place)) (content_after forest [] part) (found_gives_copies schemas forest place h) (part_gives_copies schemas forest [] part h))

parts_give_copies : (schemas : SchemaSet) (forest : Forest) (parts : List Items) → IsHonest schemas forest → AreCopiesIfFound (content_of_parts forest parts)
parts_give_copies schemas forest [] h = tt
parts_give_copies schemas forest (part ∷ parts) h =
    copies_joined (content_after forest [] part) (content_of_parts forest parts) (part_gives_copies schemas forest [] part h) (parts_give_copies schemas forest parts h)

-- ---- merged content: copies whose texts stand apart

pub record IsMerged (ts : List PlainTree) : Type 0 where
  pub copies : AreCopies ts
  pub apart : AreSeparateTexts (trees_of ts)

longer : (x y : List ℕ) → y ≢ [] → (x ++ y) ≢ []
longer [] y h = h
longer (c ∷ x) y h = λ e. absurd (cc)

no_end : (c : ℕ) (x : List ℕ) → (c ∷ x) ≢ []
no_end c x e = absurd (cc)

text_put_before : (x : List ℕ) (ts : List PlainTree) → IsMerged ts → IsMerged (text_before x ts)
text_put_before x (text y ∷ ts) h = record { copies = (tt, h.copies.1); apart = (longer x y h.apart.0, h.apart.1, h.apart.2) }
text_put_before [] [] h = h
text_put_before [] (document us ∷ ts) h = h
text_put_before [] (element name kind l us ∷ ts) h = h
text_put_before [] (attribute a ∷ ts) h = h
text_put_before (c ∷ x) [] h = record { copies = (tt, tt); apart = (no_end c x, tt, tt) }
text_put_before (c ∷ x) (document us ∷ ts) h = record { copies = (tt, h.copies); apart = (no_end c x, tt, h.apart) }
text_put_before (c ∷ x) (element name kind l us ∷ ts) h = record { copies = (tt, h.copies); apart = (no_end c x, tt, h.apart) }
text_put_before (c ∷ x) (attribute a ∷ ts) h = record { copies = (tt, h.copies); apart = (no_end c x, tt, h.apart) }

copies_are_merged : (ts : List PlainTree) → AreCopies ts → IsMerged (merged_content ts)
copies_are_merged [] h = record { copies = tt; apart = tt }
copies_are_merged (document us ∷ ts) h = absurd h.0
copies_are_merged (element name kind l us ∷ ts) h =
    let others = copies_are_merged ts h.1 in record { copies = (h.0, others.copies); apart = others.apart }
copies_are_merged (attribute a ∷ ts) h = let others = copies_are_merged ts h.1 in record { copies = (h.0, others.copies); apart = others.apart }
copies_are_merged (text x ∷ ts) h = text_put_before x (merged_content ts) (copies_are_merged ts h.1)

merged_behind : (ts : List PlainTree) → IsMerged ts → IsMerged (behind_attributes ts)
merged_behind [] h = h
merged_behind (document us ∷ ts) h = h
merged_behind (element name kind l us ∷ ts) h = h
merged_behind (attribute a ∷ ts) h = merged_behind ts (record { copies = h.copies.1; apart = h.apart })
merged_behind (text x ∷ ts) h = h

leading_are_untyped : (ts : List PlainTree) → AreCopies ts → AreUntypedAtomic (leading_attributes ts)
leading_are_untyped [] h = tt
leading_are_untyped (document us ∷ ts) h = tt
leading_are_untyped (element name kind l us ∷ ts) h = tt
leading_are_untyped (attribute a ∷ ts) h = (h.0, leading_are_untyped ts h.1)
leading_are_untyped (text x ∷ ts) h = tt

-- ---- content without attributes stands in elements and documents

pub record AreChildren (ts : PlainTrees) : Type 0 where
  pub untyped : AreUntyped ts
  pub content : AreContent ts
  pub texts : AllHaveSeparateTexts ts
  pub names : AllHaveOwnNames ts

copies_are_children : (ts : List PlainTree) → AreCopies ts → holds_attribute ts ≡ false → AreChildren (trees_of ts)
copies_are_children [] h e = record { untyped = tt; content = tt; texts = tt; names = tt }
copies_are_children (document us ∷ ts) h e = absurd h.0
copies_are_children (element name kind l us ∷ ts) h e =
    let others = copies_are_children ts h.1 e in
    record { untyped = (h.0.0, others.untyped); content = (h.0.1.proper, others.content); texts = (h.0.1.texts, others.texts); names = (h.0.1.names, others.names) }
copies_are_children (attribute a ∷ ts) h e = absurd (cc)
copies_are_children (text x ∷ ts) h e =
    let others = copies_are_children ts h.1 e in
    record { untyped = (tt, others.untyped); content = (tt, others.content); texts = (tt, others.texts); names = (tt, others.names) }

own_names : (l : List Attribute) → repeats_name l ≡ false → HaveOwnNames l
own_names [] e = tt
own_names (a ∷ others) e = by_first (own_names others) (has_attribute others a) refl e
  where
    by_first : (repeats_name others ≡ false → HaveOwnNames others) → (b : Bool) → has_attribute others a ≡ b → (b || repeats_name others) ≡ false
        → HaveOwnNames (a ∷ others)
    by_first behind true f g = absurd (cc)
    by_first behind false f g = (f, behind g)

-- ---- the trees

abbrev IsHonestIfBuilt : SchemaSet → Built → Type 0
IsHonestIfBuilt schemas (built_tree t) = IsHonestTree schemas t
IsHonestIfBuilt schemas repeated_name = Unit {0}
IsHonestIfBuilt schemas too_deep = Unit {0}
IsHonestIfBuilt schemas wrong_content = Unit {0}

honest_choice : (schemas : SchemaSet) (b : Bool) (one other : Built) → (b ≡ true → IsHonestIfBuilt schemas one) → (b ≡ false → IsHonestIfBuilt schemas other)
    → IsHonestIfBuilt schemas (if b then one else other)
honest_choice schemas true one other h k = h refl
honest_choice schemas false one other h k = k refl

honest_within : (schemas : SchemaSet) (limit : ℕ) (t : PlainTree) → IsHonestTree schemas t → IsHonestIfBuilt schemas (built_within limit t)
honest_within schemas limit t h = honest_choice schemas _ too_deep (built_tree t) (λ e. tt) (λ e. h)

honest_element : (schemas : SchemaSet) (limit : ℕ) (name : Name) (content : List PlainTree) → IsMerged content → IsHonestIfBuilt schemas (built_element limit name content)
honest_element schemas limit name content h =
    let l = leading_attributes content in
    let behind = behind_attributes content in
    let merged = merged_behind content h in
    honest_choice schemas (holds_attribute behind) wrong_content
    (if repeats_name l then repeated_name else built_within limit (element name (Builtin Untyped) l (trees_of behind))) (λ e. tt)
    (λ none. honest_choice schemas (repeats_name l) repeated_name (built_within limit (element name (Builtin Untyped) l (trees_of behind))) (λ e. tt)
    (λ own. let children = copies_are_children behind merged.copies none in
    honest_within schemas limit (element name (Builtin Untyped) l (trees_of behind)) (record {
      proper = children.content;
      typed = untyped_is_typed schemas (element name (Builtin Untyped) l (trees_of behind)) (refl, leading_are_untyped content h.copies, children.untyped);
      texts = (merged.apart, children.texts);
      names = (own_names l own, children.names);
    })))

honest_document : (schemas : SchemaSet) (limit : ℕ) (content : List PlainTree) → IsMerged content → IsHonestIfBuilt schemas (built_document limit content)
honest_document schemas limit content h =
    honest_choice schemas (holds_attribute content) wrong_content (built_within limit (document (trees_of content))) (λ e. tt)
    (λ none. let children = copies_are_children content h.copies none in
    honest_within schemas limit (document (trees_of content)) (record {
      proper = children.content;
      typed = untyped_is_typed schemas (document (trees_of content)) children.untyped;
      texts = (h.apart, children.texts);
      names = children.names;
    }))

honest_then : (schemas : SchemaSet) (found : Option (List PlainTree)) (next : List PlainTree → Built) → AreCopiesIfFound found
    → ((content : List PlainTree) → IsMerged content → IsHonestIfBuilt schemas (next content)) → IsHonestIfBuilt schemas (then_built found next)
honest_then schemas None next h k = tt
honest_then schemas (Some ts) next h k = k (merged_content ts) (copies_are_merged ts h)

is_honest : (schemas : SchemaSet) (b : Built) (t : PlainTree) → IsHonestIfBuilt schemas b → b ≡ built_tree t → IsHonestTree schemas t
is_honest schemas (built_tree u) t h e = let same : u ≡ t = cc in subst (IsHonestTree schemas) same h
is_honest schemas repeated_name t h e = absurd (cc)
is_honest schemas too_deep t h e = absurd (cc)
is_honest schemas wrong_content t h e = absurd (cc)

pub element_is_honest : (schemas : SchemaSet) (name : Name) (parts : List Items) (forest : Forest) (t : PlainTree) → IsHonest schemas forest
    → built name parts forest ≡ built_tree t → IsHonestTree schemas t
element_is_honest schemas name parts forest t h e =
    is_honest schemas (built name parts forest) t
    (honest_then schemas (content_of_parts forest parts) (built_element depth_limit name) (parts_give_copies schemas forest parts h)
    (λ content merged. honest_element schemas depth_limit name content merged)) e

pub document_is_honest : (schemas : SchemaSet) (content : Items) (forest : Forest) (t : PlainTree) → IsHonest schemas forest
    → document_built content forest ≡ built_tree t → IsHonestTree schemas t
document_is_honest schemas content forest t h e =
    is_honest schemas (document_built content forest) t
    (honest_then schemas (content_of_parts forest (content ∷ [])) (built_document depth_limit) (parts_give_copies schemas forest (content ∷ []) h)
    (λ trees merged. honest_document schemas depth_limit trees merged)) e

pub text_is_honest : (schemas : SchemaSet) (x : List ℕ) → IsHonestTree schemas (text x)
text_is_honest schemas x = record { proper = tt; typed = tt; texts = tt; names = tt }

pub attribute_is_honest : (schemas : SchemaSet) (name : Name) (value : List ℕ) → IsHonestTree schemas (attribute_built name value)
attribute_is_honest schemas name value = record { proper = tt; typed = untyped_is_typed schemas (attribute_built name value) refl; texts = tt; names = tt }

-- ---- forests

pub honest_behind : (schemas : SchemaSet) (forest : Forest) (t : PlainTree) → IsHonest schemas forest → IsHonestTree schemas t → IsHonest schemas (forest ++ t ∷ [])
honest_behind schemas [] t h k = (k, tt)
honest_behind schemas (u ∷ forest) t h k = (h.0, honest_behind schemas forest t h.1 k)

appended_is_honest : (schemas : SchemaSet) (forest now : Forest) (t : PlainTree) (result : Items) → IsHonest schemas forest → IsHonestTree schemas t
    → tree_appended t forest ≡ gives result now → Extends forest now × IsHonest schemas now
appended_is_honest schemas forest now t result h k e =
    let same : forest ++ t ∷ [] ≡ now = cc in
    (record { more = t ∷ []; is = sym same }, subst (IsHonest schemas) same (honest_behind schemas forest t h k))

unchanged_is_honest : (schemas : SchemaSet) (forest now : Forest) (value result : Items) → IsHonest schemas forest → gives value forest ≡ gives result now
    → Extends forest now × IsHonest schemas now
unchanged_is_honest schemas forest now value result h e =
    let same : forest ≡ now = cc in
    (subst (Extends forest) same (growth_is_an_order.reflexive forest), subst (IsHonest schemas) same h)

built_is_honest : (schemas : SchemaSet) (forest now : Forest) (b : Built) (result : Items) → IsHonest schemas forest
    → ((t : PlainTree) → b ≡ built_tree t → IsHonestTree schemas t) → built_outcome b forest ≡ gives result now → Extends forest now × IsHonest schemas now
built_is_honest schemas forest now (built_tree t) result h k e = appended_is_honest schemas forest now t result h (k t refl) e
built_is_honest schemas forest now repeated_name result h k e = absurd (cc)
built_is_honest schemas forest now too_deep result h k e = absurd (cc)
built_is_honest schemas forest now wrong_content result h k e = absurd (cc)

valued_is_honest : (schemas : SchemaSet) (forest now : Forest) (found : Option (List ℕ)) (name : Name) (result : Items) → IsHonest schemas forest
    → given found (λ value. tree_appended (attribute_built name value) forest) ≡ gives result now → Extends forest now × IsHonest schemas now
valued_is_honest schemas forest now None name result h e = absurd (cc)
valued_is_honest schemas forest now (Some value) name result h e =
    appended_is_honest schemas forest now (attribute_built name value) result h (attribute_is_honest schemas name value) e

texted_is_honest : (schemas : SchemaSet) (forest now : Forest) (found : Option (List Atomic)) (result : Items) → IsHonest schemas forest
    → given found (λ values. text_outcome values forest) ≡ gives result now → Extends forest now × IsHonest schemas now
texted_is_honest schemas forest now None result h e = absurd (cc)
texted_is_honest schemas forest now (Some []) result h e = unchanged_is_honest schemas forest now [] result h e
texted_is_honest schemas forest now (Some (a ∷ values)) result h e =
    appended_is_honest schemas forest now (text (spaced_values (a ∷ values))) result h (text_is_honest schemas (spaced_values (a ∷ values))) e

pub constructors_keep_forests_honest : ConstructorsKeepForestsHonest
constructors_keep_forests_honest schemas (constructors.Element name) parts forest now result e h =
    built_is_honest schemas forest now (built name parts forest) result h (λ t f. element_is_honest schemas name parts forest t h f) e
constructors_keep_forests_honest schemas (constructors.Attribute name) parts forest now result e h =
    valued_is_honest schemas forest now (texts_of_parts schemas forest parts) name result h e
constructors_keep_forests_honest schemas constructors.Text [] forest now result e h = absurd (cc)
constructors_keep_forests_honest schemas constructors.Text (content ∷ []) forest now result e h =
    texted_is_honest schemas forest now (then_found (atomized schemas forest content) atoms_among) result h e
constructors_keep_forests_honest schemas constructors.Text (content ∷ other ∷ parts) forest now result e h = absurd (cc)
constructors_keep_forests_honest schemas constructors.Document [] forest now result e h = absurd (cc)
constructors_keep_forests_honest schemas constructors.Document (content ∷ []) forest now result e h =
    built_is_honest schemas forest now (document_built content forest) result h (λ t f. document_is_honest schemas content forest t h f) e
constructors_keep_forests_honest schemas constructors.Document (content ∷ other ∷ parts) forest now result e h = absurd (cc)
