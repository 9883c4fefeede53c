-- Content that is put behind other content.
use Rattle.std.proofs.Common.{◌≡◌, ℕ, Bool, true, false, List, [], ◌∷◌, ◌++◌, Option, None, Some, refl, sym, ap, ◌∙◌, append_assoc}
use Rattle.std.specs.Option.{option_map}
use Rattle.gx_base.specs.declared.name.Name.{Name}
use Rattle.gx_base.specs.declared.type_name.TypeName.{TypeName}
use Rattle.gx_tree.specs.declared.attribute.Attribute.{Attribute}
use Rattle.gx_tree.specs.PlainTree.{PlainTree, PlainTrees, document, element, attribute, text, trees_of, list_of}
use Rattle.gx_tree.specs.declared.tree.TreeNode.{TreeNode}
use Rattle.gx_tree.specs.declared.tree.TreeNode.TheVariants.{Document, Element, Attribute as AttributeForm, Text}
use Rattle.gx_tree.specs.Erasure.{erased}
use Rattle.gx_tree.specs.TreeView.{plain_tree_of}
use Rattle.gx_model.proofs.ListLemmas.{append_none}
use Rattle.gx_core.specs.Constructing.{children_or_self, copies_of, joined_content, text_before, merged_content}
use Rattle.gx_build.specs.Making.{content_seen, content_with, merged_with, content_if, space_if, text_if}
use Rattle.gx_build.specs.declared.content.Content.{Content}

-- texts in front of content

pub no_text : (ts : List PlainTree) → text_before [] ts ≡ ts
no_text [] = refl
no_text (document us ∷ ts) = refl
no_text (element name kind list us ∷ ts) = refl
no_text (attribute a ∷ ts) = refl
no_text (text x ∷ ts) = refl

alone : (x y : List ℕ) (ts : List PlainTree) → ((z : List ℕ) → text_before z ts ≡ text_if z ++ ts) → text_before (x ++ y) ts ≡ text_before x (text_before y ts)
alone x [] ts h = ap (λ (z : List ℕ). text_before z ts) (append_none x) ∙ ap (text_before x) (sym (h []))
alone [] (c ∷ y) ts h = sym (no_text (text_before (c ∷ y) ts))
alone (d ∷ x) (c ∷ y) ts h = h (d ∷ (x ++ c ∷ y)) ∙ sym (ap (text_before (d ∷ x)) (h (c ∷ y)))

before_nothing : (z : List ℕ) → text_before z [] ≡ text_if z ++ []
before_nothing [] = refl
before_nothing (c ∷ z) = refl

before_document : (us : PlainTrees) (ts : List PlainTree) (z : List ℕ) → text_before z (document us ∷ ts) ≡ text_if z ++ document us ∷ ts
before_document us ts [] = refl
before_document us ts (c ∷ z) = refl

before_element : (name : Name) (kind : TypeName) (list : List Attribute) (us : PlainTrees) (ts : List PlainTree) (z : List ℕ)
    → text_before z (element name kind list us ∷ ts) ≡ text_if z ++ element name kind list us ∷ ts
before_element name kind list us ts [] = refl
before_element name kind list us ts (c ∷ z) = refl

before_attribute : (a : Attribute) (ts : List PlainTree) (z : List ℕ) → text_before z (attribute a ∷ ts) ≡ text_if z ++ attribute a ∷ ts
before_attribute a ts [] = refl
before_attribute a ts (c ∷ z) = refl

-- one text behind another
pub text_twice : (x y : List ℕ) (ts : List PlainTree) → text_before (x ++ y) ts ≡ text_before x (text_before y ts)
text_twice x y [] = alone x y [] before_nothing
text_twice x y (document us ∷ ts) = alone x y (document us ∷ ts) (before_document us ts)
text_twice x y (element name kind list us ∷ ts) = alone x y (element name kind list us ∷ ts) (before_element name kind list us ts)
text_twice x y (attribute a ∷ ts) = alone x y (attribute a ∷ ts) (before_attribute a ts)
text_twice x y (text z ∷ ts) = ap (λ (w : List ℕ). text w ∷ ts) (append_assoc x y z)

-- nodes in front of content that comes to the same
pub merged_front : (us a b : List PlainTree) → merged_content a ≡ merged_content b → merged_content (us ++ a) ≡ merged_content (us ++ b)
merged_front [] a b h = h
merged_front (document vs ∷ us) a b h = ap (λ (ts : List PlainTree). document vs ∷ ts) (merged_front us a b h)
merged_front (element name kind list vs ∷ us) a b h = ap (λ (ts : List PlainTree). element name kind list vs ∷ ts) (merged_front us a b h)
merged_front (attribute x ∷ us) a b h = ap (λ (ts : List PlainTree). attribute x ∷ ts) (merged_front us a b h)
merged_front (text x ∷ us) a b h = ap (text_before x) (merged_front us a b h)

-- ---- one node is put behind

pub is_text : PlainTree → Bool
is_text (document ts) = false
is_text (element name kind list ts) = false
is_text (attribute a) = false
is_text (text x) = true

-- a text behind the text that may go on
pub text_put : (before now : Content) (x : List ℕ) → now.trees.items ≡ before.trees.items → now.pending ≡ before.pending ++ x → (rest : List PlainTree)
    → content_seen now rest ≡ content_seen before (text x ∷ rest)
text_put before now x e f rest =
    ap (λ (ts : List PlainTree). ts ++ text_before now.pending (merged_content rest)) e
    ∙ ap (λ (y : List ℕ). before.trees.items ++ text_before y (merged_content rest)) f
    ∙ ap (λ (ts : List PlainTree). before.trees.items ++ ts) (text_twice before.pending x (merged_content rest))

pub value_put : (before now : Content) (spaced shown value : List ℕ) (behind_value : Bool) → now.trees.items ≡ before.trees.items → spaced ≡ before.pending ++ space_if behind_value → shown ≡ value → now.pending ≡ spaced ++ shown
    → (rest : List PlainTree) → content_seen now rest ≡ content_seen before (text (space_if behind_value ++ value) ∷ rest)
value_put before now spaced shown value behind_value e s v p =
    text_put before now (space_if behind_value ++ value) e
    (p ∙ ap (λ x. x ++ shown) s ∙ ap (λ x. (before.pending ++ space_if behind_value) ++ x) v ∙ append_assoc before.pending (space_if behind_value) value)

-- another node behind the text, which ends there
node_put : (before now : Content) (t : PlainTree) → now.trees.items ≡ (before.trees.items ++ text_if before.pending) ++ t ∷ [] → now.pending ≡ [] → (rest : List PlainTree)
    → text_before before.pending (t ∷ merged_content rest) ≡ text_if before.pending ++ t ∷ merged_content rest
    → content_seen now rest ≡ before.trees.items ++ text_before before.pending (t ∷ merged_content rest)
node_put before now t e f rest g =
    ap (λ (ts : List PlainTree). ts ++ text_before now.pending (merged_content rest)) e
    ∙ ap (λ (y : List ℕ). ((before.trees.items ++ text_if before.pending) ++ t ∷ []) ++ text_before y (merged_content rest)) f
    ∙ ap (λ (ts : List PlainTree). ((before.trees.items ++ text_if before.pending) ++ t ∷ []) ++ ts) (no_text (merged_content rest))
    ∙ append_assoc (before.trees.items ++ text_if before.pending) (t ∷ []) (merged_content rest)
    ∙ append_assoc before.trees.items (text_if before.pending) (t ∷ merged_content rest)
    ∙ ap (λ (ts : List PlainTree). before.trees.items ++ ts) (sym g)

pub other_put : (before now : Content) (t : PlainTree) → is_text t ≡ false → now.trees.items ≡ (before.trees.items ++ text_if before.pending) ++ t ∷ [] → now.pending ≡ [] → (rest : List PlainTree)
    → content_seen now rest ≡ content_seen before (t ∷ rest)
unfolding is_text
other_put before now (document us) h e f rest = node_put before now (document us) e f rest (before_document us (merged_content rest) before.pending)
other_put before now (element name kind list us) h e f rest = node_put before now (element name kind list us) e f rest (before_element name kind list us (merged_content rest) before.pending)
other_put before now (attribute a) h e f rest = node_put before now (attribute a) e f rest (before_attribute a (merged_content rest) before.pending)
other_put before now (text x) h e f rest = absurd (cc)

-- the text that may go on is a text of its own in the end
pub ended : (c : Content) → content_seen c [] ≡ c.trees.items ++ text_if c.pending
ended c = ap (λ (ts : List PlainTree). c.trees.items ++ ts) (before_nothing c.pending ∙ append_none (text_if c.pending))

-- ---- content that may not be there

-- what is put and what is joined to it come to the same
pub put_joined : (before now : Content) (found more : Option (List PlainTree)) → ((rest : List PlainTree) → content_if true now rest ≡ content_with before found rest) → (rest : List PlainTree)
    → content_with now more rest ≡ content_with before (joined_content found more) rest
put_joined before now None more h rest = absurd (cc (h rest))
put_joined before now (Some us) None h rest = refl
put_joined before now (Some us) (Some ts) h rest =
    h (ts ++ rest) ∙ ap (λ (vs : List PlainTree). Some (content_seen before vs)) (sym (append_assoc us ts rest))

pub put_missing : (before now : Content) (found more : Option (List PlainTree)) (rest : List PlainTree) → content_if false now rest ≡ content_with before found rest
    → content_if false now rest ≡ content_with before (joined_content found more) rest
put_missing before now None more rest h = refl
put_missing before now (Some us) more rest h = absurd (cc)

-- ---- what a node gives

list_back : (ts : List PlainTree) → ts ≡ list_of (trees_of ts)
list_back [] = refl
list_back (t ∷ ts) = ap (λ (us : List PlainTree). t ∷ us) (list_back ts)

pub document_gives : (children : List PlainTree) (t : PlainTree) → document (trees_of children) ≡ t → children ≡ children_or_self t
document_gives children t e = list_back children ∙ ap children_or_self e

pub other_gives : (node : TreeNode) (t : PlainTree) → ((children : _) → node ≡ Document children → ⊥) → plain_tree_of node ≡ t → plain_tree_of node ∷ [] ≡ children_or_self t
other_gives (Document children) t h e = absurd (h children refl)
other_gives (Element name kind list children) t h e = ap children_or_self e
other_gives (AttributeForm a) t h e = ap children_or_self e
other_gives (Text x) t h e = ap children_or_self e

pub copies_put : (before now : Content) (found : Option PlainTree) (copy : PlainTree) (rest : List PlainTree) → Some copy ≡ option_map erased found → content_seen now rest ≡ content_seen before (children_or_self copy ++ rest)
    → content_if true now rest ≡ content_with before (option_map copies_of found) rest
copies_put before now None copy rest e h = absurd (cc)
copies_put before now (Some t) copy rest e h =
    let same : copy ≡ erased t = cc in
    ap (λ (ts : List PlainTree). Some ts) h ∙ ap (λ (u : PlainTree). Some (content_seen before (children_or_self u ++ rest))) same

-- ---- the content of all parts

pub nothing_done : (c : Content) (found : Option (List PlainTree)) → ((rest : List PlainTree) → content_seen c rest ≡ merged_content rest) → (rest : List PlainTree) → content_with c found rest ≡ merged_with found rest
nothing_done c None h rest = refl
nothing_done c (Some ts) h rest = ap (λ (us : List PlainTree). Some us) (h (ts ++ rest))

pub with_nothing : (found : Option (List PlainTree)) → merged_with found [] ≡ option_map merged_content found
with_nothing None = refl
with_nothing (Some ts) = ap (λ (us : List PlainTree). Some (merged_content us)) (append_none ts)

-- that of one part alone
pub alone_joined : (found : Option (List PlainTree)) → merged_with found [] ≡ option_map merged_content (joined_content found (Some []))
alone_joined None = refl
alone_joined (Some ts) = refl
