-- The forest of a store, and what is read of a node in it.
use Rattle.std.specs.Prelude.{◌≡◌, ℕ, ◌<◌, List, [], ◌∷◌, ◌++◌, map, length, Option, None, Some}
use Rattle.std.specs.List.{slice_get}
use Rattle.std.specs.Option.{option_map}
use Rattle.gx_base.specs.declared.name.Name.{Name}
use Rattle.gx_base.specs.declared.type_name.TypeName.{TypeName}
use Rattle.gx_tree.specs.PlainTree.{PlainTree, document, element, attribute, text}
use Rattle.gx_model.specs.Forest.{Forest, own_attributes}
use Rattle.gx_nodes.specs.Entries.{count_below, count_in, entry_in}
use Rattle.gx_nodes.specs.Rows.{rows_of, forest_of}
use Rattle.gx_store.specs.declared.labels.Label.{Label}
use Rattle.gx_store.specs.declared.number.NodeId.{NodeId}
use Rattle.gx_store.specs.declared.row.Form.{Form}
use Rattle.gx_store.specs.declared.row.Form.TheVariants as forms
use Rattle.gx_store.specs.declared.row.Row.{Row}
use Rattle.gx_store.specs.RowView.{row_seen}

abbrev pub known_of : {A : Type 0} → List (Option A) → List A
known_of [] = []
known_of (None ∷ os) = known_of os
known_of (Some x ∷ os) = x ∷ known_of os

abbrev pub forest_seen : List Label → List Row → Forest
forest_seen labels rows = forest_of (known_of (map (row_seen labels) rows))

-- the rows are those of a forest
abbrev pub IsStored : List Label → List Row → Type 0
IsStored labels rows = map (row_seen labels) rows ≡ map (λ r. Some r) (rows_of (forest_seen labels rows))

-- how many nodes are below the node of a number, and how many attributes it has
abbrev pub below_in : Forest → ℕ → ℕ
below_in forest n = count_below (entry_in forest n).tree

abbrev pub attributes_at : Forest → ℕ → ℕ
attributes_at forest n = length (own_attributes (entry_in forest n).tree)

-- what a node is called

abbrev pub label_of : PlainTree → Option Label
label_of (document ts) = None
label_of (element name kind attributes ts) = Some (record { name = name; kind = kind })
label_of (attribute a) = Some (record { name = a.name; kind = a.kind })
label_of (text t) = None

abbrev pub name_of_tree : PlainTree → Option Name
name_of_tree t = option_map (λ l. l.name) (label_of t)

abbrev pub kind_of : PlainTree → Option TypeName
kind_of t = option_map (λ l. l.kind) (label_of t)

abbrev pub label_in : Forest → ℕ → Option Label
label_in forest n = label_of (entry_in forest n).tree

-- a form is that of a node, apart from its label
abbrev pub FitsForm : Form → PlainTree → Type 0
FitsForm forms.Document (document ts) = Unit {0}
FitsForm (forms.Element label attributes) (element name kind list ts) = attributes ≡ length list
FitsForm (forms.Attribute label value) (attribute a) = value ≡ a.value
FitsForm (forms.Text t) (text u) = t ≡ u
FitsForm _ _ = ⊥

abbrev pub attributes_in_form : Form → ℕ
attributes_in_form (forms.Element label attributes) = attributes
attributes_in_form _ = 0

abbrev pub label_of_form : List Label → Form → Option Label
label_of_form labels (forms.Element label attributes) = slice_get labels label
label_of_form labels (forms.Attribute label value) = slice_get labels label
label_of_form labels _ = None

-- the text of a text node, and the value of an attribute

abbrev pub own_text : PlainTree → List ℕ
own_text (document ts) = []
own_text (element name kind attributes ts) = []
own_text (attribute a) = a.value
own_text (text t) = t

abbrev pub text_of_form : Form → List ℕ
text_of_form (forms.Attribute label value) = value
text_of_form (forms.Text t) = t
text_of_form _ = []

abbrev pub own_text_in : Forest → ℕ → List ℕ
own_text_in forest n = own_text (entry_in forest n).tree

abbrev pub own_texts_in : Forest → List NodeId → List ℕ
own_texts_in forest [] = []
own_texts_in forest (m ∷ ms) = own_text_in forest m.number ++ own_texts_in forest ms

-- a row is that of the node of a number
pub record IsRowOf (forest : Forest) (n : ℕ) (r : Row) : Type 0 where
  pub within : n < count_in forest
  pub form : FitsForm r.form (entry_in forest n).tree
  pub up : r.up ≡ (entry_in forest n).up
  pub below : r.below ≡ below_in forest n
