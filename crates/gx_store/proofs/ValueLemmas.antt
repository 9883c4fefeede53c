-- Typed values of nodes, from their labels and their string values.
use Rattle.std.proofs.Common.{◌≡◌, ℕ, ◌<◌, ◌≤◌, List, [], Option, None, Some, refl, sym, ap, ◌∙◌}
use Rattle.gx_types.specs.SchemaSet.{SchemaSet}
use Rattle.gx_tree.specs.PlainTree.{PlainTree, document, element, attribute, text}
use Rattle.gx_tree.specs.StringValue.{string_value}
use Rattle.gx_model.specs.Forest.{Forest, then_found, node_in}
use Rattle.gx_model.specs.Growth.{Extends}
use Rattle.gx_model.specs.TypedValue.{untyped_value, value_at_type, typed_value_of, value_of_node, found_string_value}
use Rattle.gx_model.proofs.ListLemmas.{append_none}
use Rattle.gx_nodes.specs.Entries.{count_in, entry_in, place_of_number}
use Rattle.gx_store.specs.declared.labels.Label.{Label}
use Rattle.gx_store.specs.Stored.{label_of}
use Rattle.gx_store.proofs.StoreLemmas.{found_later, not_found_later}

-- a forest extends itself
pub extends_itself : (forest : Forest) → Extends forest forest
extends_itself forest = record { more = []; is = sym (append_none forest) }

pub own_string : (forest : Forest) (n : ℕ) (s : List ℕ) → n < count_in forest → ((later : Forest) → Extends forest later → s ≡ found_string_value (node_in forest (place_of_number later n)))
    → s ≡ string_value (entry_in forest n).tree
own_string forest n s h e = e forest (extends_itself forest) ∙ ap found_string_value (found_later forest forest n h (extends_itself forest))

pub labelled_value : (schemas : SchemaSet) (t : PlainTree) (l : Label) → label_of t ≡ Some l → typed_value_of schemas t ≡ value_at_type schemas l.kind (string_value t)
labelled_value schemas (document ts) l e = absurd (cc)
labelled_value schemas (element name kind list ts) l e =
    let same : record { name = name; kind = kind } ≡ l = cc in
    ap (λ (m : Label). value_at_type schemas m.kind (string_value (element name kind list ts))) same
labelled_value schemas (attribute a) l e =
    let same : record { name = a.name; kind = a.kind } ≡ l = cc in
    ap (λ (m : Label). value_at_type schemas m.kind a.value) same
labelled_value schemas (text x) l e = absurd (cc)

pub plain_value : (schemas : SchemaSet) (t : PlainTree) → label_of t ≡ None → typed_value_of schemas t ≡ untyped_value (string_value t)
plain_value schemas (document ts) e = refl
plain_value schemas (element name kind list ts) e = absurd (cc)
plain_value schemas (attribute a) e = absurd (cc)
plain_value schemas (text x) e = refl

-- in each forest that grows from this one

pub value_later : (schemas : SchemaSet) (forest later : Forest) (n : ℕ) → n < count_in forest → Extends forest later
    → typed_value_of schemas (entry_in forest n).tree ≡ value_of_node schemas forest (place_of_number later n)
value_later schemas forest later n h x = sym (ap (λ (o : Option PlainTree). then_found o (typed_value_of schemas)) (found_later forest later n h x))

pub no_value_later : (schemas : SchemaSet) (forest later : Forest) (n : ℕ) → count_in forest ≤ n → Extends forest later → value_of_node schemas forest (place_of_number later n) ≡ None
no_value_later schemas forest later n h x = ap (λ (o : Option PlainTree). then_found o (typed_value_of schemas)) (not_found_later forest later n h x)
