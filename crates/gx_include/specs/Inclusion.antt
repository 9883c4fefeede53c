-- When a type is included in another one.
use Rattle.std.specs.Prelude.{List}
use Rattle.gx_types.specs.declared.shape.Shape.{Shape}
use Rattle.gx_types.specs.SchemaSet.{SchemaSet}
use Rattle.gx_types.specs.SequenceType.{SequenceType}
use Rattle.gx_types.specs.Takes.{Takes, EachShape}
use Rattle.gx_include_letters.specs.WellFormed.{IsWellFormedShape}

-- every list of well-formed shapes that the left type takes is taken by the right type
abbrev pub IsIncluded : SchemaSet → (a b : SequenceType) → Type 0
IsIncluded schemas a b = (list : List Shape) → EachShape (IsWellFormedShape schemas) list → Takes schemas a list → Takes schemas b list
