-- Rows as the nodes that they stand for.
use Rattle.std.specs.Prelude.{◌≡◌, ℕ, zero, suc, List, [], ◌∷◌, ◌++◌, map, length, Option, Some}
use Rattle.std.specs.List.{slice_get}
use Rattle.std.specs.Option.{option_map}
use Rattle.gx_tree.specs.declared.attribute.Attribute.{Attribute as AttributeNode}
use Rattle.gx_tree.specs.PlainTree.{PlainTrees}
use Rattle.gx_nodes.specs.Entries.{attribute_entries, child_entries}
use Rattle.gx_nodes.specs.Rows.{PlainForm, a_document, an_element, an_attribute, a_text, PlainRow, row_of}
use Rattle.gx_store.specs.declared.labels.Label.{Label}
use Rattle.gx_store.specs.declared.row.Form.{Form}
use Rattle.gx_store.specs.declared.row.Form.TheVariants.{Document, Element, Attribute, Text}
use Rattle.gx_store.specs.declared.row.Row.{Row}
use Rattle.gx_store.specs.Grown.{Grows}

-- a row where its label is one of the list
abbrev pub form_seen : List Label → Form → Option PlainForm
form_seen labels Document = Some a_document
form_seen labels (Element number attributes) = option_map (λ l. an_element l.name l.kind attributes) (slice_get labels number)
form_seen labels (Attribute number value) = option_map (λ l. an_attribute (record { name = l.name; kind = l.kind; value = value })) (slice_get labels number)
form_seen labels (Text t) = Some (a_text t)

abbrev pub row_seen : List Label → Row → Option PlainRow
row_seen labels r = option_map (λ form. record { form = form; up = r.up; below = r.below }) (form_seen labels r.form)

-- rows of nodes that stand behind their parent
abbrev pub row_of_attribute : (up : ℕ) → AttributeNode → PlainRow
row_of_attribute up a = record { form = an_attribute a; up = up; below = 0 }

abbrev pub attribute_rows : (position : ℕ) → List AttributeNode → List PlainRow
attribute_rows position list = map row_of (attribute_entries 0 [] position list)

abbrev pub child_rows : (up : ℕ) → PlainTrees → List PlainRow
child_rows up ts = map row_of (child_entries 0 [] 0 up ts)

-- rows were added that stand for these, whatever labels come yet
pub record Adds (labels : List Label) (before now : List Row) (plain : List PlainRow) : Type 0 where
  pub more : List Row
  pub is : now ≡ before ++ more
  pub seen : (later : List Label) → Grows labels later → map (row_seen later) more ≡ map Some plain

-- all rows behind a row are below it
abbrev pub closed_at : ℕ → List Row → List Row
closed_at at [] = []
closed_at zero (r ∷ rows) = record { form = r.form; up = r.up; below = length rows } ∷ rows
closed_at (suc at) (r ∷ rows) = r ∷ closed_at at rows
