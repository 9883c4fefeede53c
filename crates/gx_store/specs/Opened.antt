-- Rows of a tree of which a part is not put down yet.
use Rattle.std.specs.Prelude.{◌≡◌, ℕ, zero, suc, ◌+◌, ◌*◌, ◌-◌, ◌<◌, List, [], ◌∷◌, ◌++◌, map, length, Some}
use Rattle.gx_base.specs.declared.name.Name.{Name}
use Rattle.gx_base.specs.declared.type_name.TypeName.{TypeName}
use Rattle.gx_tree.specs.declared.attribute.Attribute.{Attribute as AttributeNode}
use Rattle.gx_tree.specs.PlainTree.{trees_of, trees_size}
use Rattle.gx_nodes.specs.Rows.{PlainRow, an_element}
use Rattle.gx_store.specs.declared.labels.Label.{Label}
use Rattle.gx_store.specs.declared.load.Opened.{Opened}
use Rattle.gx_store.specs.declared.row.Row.{Row}
use Rattle.gx_store.specs.Grown.{Grows}
use Rattle.gx_store.specs.RowView.{row_seen, attribute_rows, child_rows}

-- rows stand for these, whatever labels come yet
abbrev pub Stand : List Label → List Row → List PlainRow → Type 0
Stand labels rows plain = (later : List Label) → Grows labels later → map (row_seen later) rows ≡ map (λ r. Some r) plain

-- an element and its attributes, with nothing below counted
abbrev pub opening_rows : (up : ℕ) → Name → TypeName → List AttributeNode → List PlainRow
opening_rows up name kind list = record { form = an_element name kind (length list); up = up; below = 0 } ∷ attribute_rows 0 list

-- all rows behind a row are below it
abbrev pub plain_closed_at : ℕ → List PlainRow → List PlainRow
plain_closed_at at [] = []
plain_closed_at zero (r ∷ rows) = record { form = r.form; up = r.up; below = length rows } ∷ rows
plain_closed_at (suc at) (r ∷ rows) = r ∷ plain_closed_at at rows

-- the rows that there are in the end: behind those that are put down come the children of the innermost node, and it is closed
abbrev pub rows_to_come : List PlainRow → List Opened → List PlainRow
rows_to_come rows [] = rows
rows_to_come rows (o ∷ outer) = rows_to_come (plain_closed_at o.at (rows ++ child_rows (length rows - o.at) (trees_of o.left.now))) outer

-- the rows of all opened nodes are put down
abbrev pub AreWithin : ℕ → List Opened → Type 0
AreWithin count [] = Unit {0}
AreWithin count (o ∷ outer) = (o.at < count) × AreWithin count outer

pub record WillBe (labels : List Label) (rows : List Row) (opened : List Opened) (wanted : List PlainRow) : Type 0 where
  pub plain : List PlainRow
  pub stands : Stand labels rows plain
  pub within : AreWithin (length rows) opened
  pub whole : rows_to_come plain opened ≡ wanted

-- how much is left to do
abbrev pub size_left : List Opened → ℕ
size_left [] = 0
size_left (o ∷ outer) = suc (2 * trees_size (trees_of o.left.now) + size_left outer)
