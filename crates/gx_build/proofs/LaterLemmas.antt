-- Content of items whose nodes are looked at in a forest that has grown.
use Rattle.std.proofs.Common.{◌≡◌, ℕ, Bool, true, false, ltb, List, [], ◌∷◌, ◌++◌, Option, None, Some, refl, sym, ap, ◌∙◌}
use Rattle.std.specs.Global.{Global}
use Rattle.std.specs.Option.{option_map}
use Rattle.std.specs.Prelude.{Vec}
use Rattle.std.proofs.lemmas.Bool.{ltb-true, ltb-false}
use Rattle.gx_base.specs.declared.name.Name.{Name}
use Rattle.gx_facets.specs.declared.Atomic.{Atomic}
use Rattle.gx_tree.specs.PlainTree.{PlainTree, text}
use Rattle.gx_model.specs.Forest.{Forest, node_in}
use Rattle.gx_model.specs.Growth.{Extends}
use Rattle.gx_nodes.specs.Entries.{count_in, place_of_number}
use Rattle.gx_store.specs.declared.item.Item.{Item}
use Rattle.gx_store.specs.declared.item.Item.TheVariants.{Atom, Node}
use Rattle.gx_store.specs.Items.{items_in}
use Rattle.gx_store.proofs.StoreLemmas.{found_later, not_found_later}
use Rattle.gx_store.proofs.ValueLemmas.{extends_itself}
use Rattle.gx_core.specs.Constructing.{Built, wrong_content, copies_of, spaced_values, joined_content, content_after, content_of_parts, merged_content, then_built, depth_limit, built_element, built_document, built, document_built}
use Rattle.gx_build.specs.Parts.{parts_in}

-- a node of the forest is found by its place in either, and another one in neither
node_later : (forest later : Forest) (n : ℕ) → Extends forest later → node_in forest (place_of_number later n) ≡ node_in forest (place_of_number forest n)
node_later forest later n x = by_count (ltb n (count_in forest)) refl
  where
    by_count : (b : Bool) → ltb n (count_in forest) ≡ b → node_in forest (place_of_number later n) ≡ node_in forest (place_of_number forest n)
    by_count true e =
        let h = ltb-true n (count_in forest) e in
        found_later forest later n h x ∙ sym (found_later forest forest n h (extends_itself forest))
    by_count false e =
        let h = ltb-false n (count_in forest) e in
        not_found_later forest later n h x ∙ sym (not_found_later forest forest n h (extends_itself forest))

pub content_later : (forest later : Forest) (values : List Atomic) (items : List Item) → Extends forest later
    → content_after forest values (items_in later items) ≡ content_after forest values (items_in forest items)
content_later forest later values [] x = refl
content_later forest later values (Atom a ∷ items) x = content_later forest later (values ++ a ∷ []) items x
content_later forest later values (Node m ∷ items) x =
    let front : Option (List PlainTree) = Some (text (spaced_values values) ∷ []) in
    ap (λ (found : Option PlainTree). joined_content front (joined_content (option_map copies_of found) (content_after forest [] (items_in later items)))) (node_later forest later m.number x)
    ∙ ap (λ (more : Option (List PlainTree)). joined_content front (joined_content (option_map copies_of (node_in forest (place_of_number forest m.number))) more)) (content_later forest later [] items x)

pub parts_later : (forest later : Forest) (parts : List (Vec Item Global)) → Extends forest later → content_of_parts forest (parts_in later parts) ≡ content_of_parts forest (parts_in forest parts)
parts_later forest later [] x = refl
parts_later forest later (part ∷ parts) x =
    ap (λ (found : Option (List PlainTree)). joined_content found (content_of_parts forest (parts_in later parts))) (content_later forest later [] part.items x)
    ∙ ap (joined_content (content_after forest [] (items_in forest part.items))) (parts_later forest later parts x)

-- what is built of content that is there, and of content that is not

pub built_of : (found : Option (List PlainTree)) (content : List PlainTree) (next : List PlainTree → Built) → Some content ≡ option_map merged_content found → then_built found next ≡ next content
built_of None content next e = absurd (cc)
built_of (Some ts) content next e = let same : content ≡ merged_content ts = cc in ap next (sym same)

pub nothing_built : (found : Option (List PlainTree)) (next : List PlainTree → Built) → None ≡ option_map merged_content found → then_built found next ≡ wrong_content
nothing_built None next e = refl
nothing_built (Some ts) next e = absurd (cc)

pub element_built : (name : Name) (forest later : Forest) (parts : List (Vec Item Global)) (found : Option (Vec PlainTree Global)) (content : Vec PlainTree Global) → Extends forest later → found ≡ Some content
    → option_map (λ ts. ts.items) found ≡ option_map merged_content (content_of_parts forest (parts_in forest parts)) → built name (parts_in later parts) forest ≡ built_element depth_limit name content.items
element_built name forest later parts found content x e h =
    ap (λ (o : Option (List PlainTree)). then_built o (built_element depth_limit name)) (parts_later forest later parts x)
    ∙ built_of (content_of_parts forest (parts_in forest parts)) content.items (built_element depth_limit name) (sym (ap (option_map (λ ts. ts.items)) e) ∙ h)

pub no_element_built : (name : Name) (forest later : Forest) (parts : List (Vec Item Global)) (found : Option (Vec PlainTree Global)) → Extends forest later → found ≡ None
    → option_map (λ ts. ts.items) found ≡ option_map merged_content (content_of_parts forest (parts_in forest parts)) → built name (parts_in later parts) forest ≡ wrong_content
no_element_built name forest later parts found x e h =
    ap (λ (o : Option (List PlainTree)). then_built o (built_element depth_limit name)) (parts_later forest later parts x)
    ∙ nothing_built (content_of_parts forest (parts_in forest parts)) (built_element depth_limit name) (sym (ap (option_map (λ ts. ts.items)) e) ∙ h)

pub document_is_built : (forest later : Forest) (items : List Item) (found : Option (Vec PlainTree Global)) (content : Vec PlainTree Global) → Extends forest later → found ≡ Some content
    → option_map (λ ts. ts.items) found ≡ option_map merged_content (content_of_parts forest (items_in forest items ∷ [])) → document_built (items_in later items) forest ≡ built_document depth_limit content.items
document_is_built forest later items found content x e h =
    ap (λ (o : Option (List PlainTree)). then_built (joined_content o (Some [])) (built_document depth_limit)) (content_later forest later [] items x)
    ∙ built_of (content_of_parts forest (items_in forest items ∷ [])) content.items (built_document depth_limit) (sym (ap (option_map (λ ts. ts.items)) e) ∙ h)

pub no_document_built : (forest later : Forest) (items : List Item) (found : Option (Vec PlainTree Global)) → Extends forest later → found ≡ None
    → option_map (λ ts. ts.items) found ≡ option_map merged_content (content_of_parts forest (items_in forest items ∷ [])) → document_built (items_in later items) forest ≡ wrong_content
no_document_built forest later items found x e h =
    ap (λ (o : Option (List PlainTree)). then_built (joined_content o (Some [])) (built_document depth_limit)) (content_later forest later [] items x)
    ∙ nothing_built (content_of_parts forest (items_in forest items ∷ [])) (built_document depth_limit) (sym (ap (option_map (λ ts. ts.items)) e) ∙ h)
