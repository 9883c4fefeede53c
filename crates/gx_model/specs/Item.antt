-- Items and values (XQuery 1.0 and XPath 2.0 Data Model, section 2).
use Rattle.std.specs.Prelude.{List, map}
use Rattle.gx_facets.specs.declared.Atomic.{Atomic}
use Rattle.gx_model.specs.Forest.{PlainNode}

pub data Item : Type 0 where
  atom : (value : Atomic) → Item
  node : (place : PlainNode) → Item

abbrev pub Items : Type 0
Items = List Item

-- a value of atomic values alone
abbrev pub atoms : List Atomic → Items
atoms = map atom
