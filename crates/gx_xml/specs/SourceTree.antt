-- The tree of a document as it is written, as the definitions see it.
use Rattle.std.specs.Prelude.{ℕ, ◌+◌, List}
use Rattle.gx_base.specs.declared.name.Name.{Name}
use Rattle.gx_xml.specs.declared.source.Declaration.{Declaration}
use Rattle.gx_xml.specs.declared.source.SourceAttribute.{SourceAttribute}

-- an element, and what stands between its tags: elements and texts in their order
mutual
  pub data SourceTree : Type 0 where
    source : (name : Name) (declarations : List Declaration) (attributes : List SourceAttribute) (children : SourceContents) → SourceTree

  pub data SourceContents : Type 0 where
    no_content : SourceContents
    a_child : (first : SourceTree) (others : SourceContents) → SourceContents
    a_text : (first : List ℕ) (others : SourceContents) → SourceContents

-- how large they are: an element counts two, and a text one
abbrev mutual
  pub source_size : SourceTree → ℕ
  source_size (source name declarations attributes cs) = 2 + contents_size cs

  pub contents_size : SourceContents → ℕ
  contents_size no_content = 0
  contents_size (a_child t cs) = source_size t + contents_size cs
  contents_size (a_text x cs) = 1 + contents_size cs

-- the name of an element
abbrev pub tree_name : SourceTree → Name
tree_name (source name declarations attributes cs) = name
