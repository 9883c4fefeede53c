-- The numbers of elements and of anonymous types, in document order. Annotations and what stands in them are not counted.
use Rattle.std.specs.Prelude.{ℕ, ◌+◌, Bool, not, ◌&&◌, ◌||◌, List, codes, if◌then◌else◌}
use Rattle.gx_base.specs.declared.name.Name.{Name}
use Rattle.gx_xml.specs.declared.source.SourceAttribute.{SourceAttribute}
use Rattle.gx_xml.specs.SourceTree.{SourceTree, SourceContents, source, no_content, a_child, a_text}
use Rattle.gx_schema_syntax.specs.declared.numbers.Numbers.{Numbers}
use Rattle.gx_schema_syntax.specs.Contents.{is_given}
use Rattle.gx_schema_syntax.specs.Words.{is_schema_element, is_annotation}

-- before the first file
abbrev pub first_numbers : Numbers
first_numbers = record { element = 1; anonymous = 1 }

-- a type without a name is anonymous
abbrev pub is_anonymous_type : Name → List SourceAttribute → Bool
is_anonymous_type name attributes = (is_schema_element (codes "complexType") name || is_schema_element (codes "simpleType") name) && not (is_given (codes "name") attributes)

-- the numbers of the first part of an element
abbrev pub numbers_inside : Numbers → SourceTree → Numbers
numbers_inside at (source name declarations attributes cs) =
    record { element = at.element + 1; anonymous = if is_anonymous_type name attributes then at.anonymous + 1 else at.anonymous }

-- the numbers behind an element and all that stands in it
abbrev mutual
  pub numbers_behind : Numbers → SourceTree → Numbers
  numbers_behind at (source name declarations attributes cs) =
      if is_annotation name then at else numbers_behind_all (numbers_inside at (source name declarations attributes cs)) cs

  pub numbers_behind_all : Numbers → SourceContents → Numbers
  numbers_behind_all at no_content = at
  numbers_behind_all at (a_text x cs) = numbers_behind_all at cs
  numbers_behind_all at (a_child t cs) = numbers_behind_all (numbers_behind at t) cs
