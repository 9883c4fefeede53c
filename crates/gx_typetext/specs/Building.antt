-- How the type of pieces is built from the front.
use Rattle.std.specs.Prelude.{List, [], ◌∷◌, ◌++◌, fold, Some}
use Rattle.gx_types.specs.SchemaSet.{SchemaSet}
use Rattle.gx_types.specs.SequenceType.{SequenceType, nothing}
use Rattle.gx_types.specs.TypeRules.{joined_types}
use Rattle.gx_typetext.specs.declared.written.Piece.{Piece}
use Rattle.gx_typetext.specs.declared.written.Piece.TheVariants as piece
use Rattle.gx_typetext.specs.KnownNames.{written_operand_type}
use Rattle.gx_typetext.specs.WrittenTypes.{choice_of_units, with_indicator}

-- what was read between parentheses: the sequence in front of the last choice, the members of that choice in front of the last
-- unit, and that unit
pub record BuiltPart : Type 0 where
  pub sequence : SequenceType
  pub members : List SequenceType
  pub unit : SequenceType

-- the part that the last piece belongs to, and those round it, the innermost first
pub record BuiltParts : Type 0 where
  pub inner : BuiltPart
  pub outer : List BuiltPart

abbrev pub no_part_yet : BuiltPart
no_part_yet = record { sequence = nothing; members = []; unit = nothing }

abbrev pub nothing_built : BuiltParts
nothing_built = record { inner = no_part_yet; outer = [] }

abbrev pub built_members : BuiltPart → List SequenceType
built_members part = part.members ++ part.unit ∷ []

-- the type of a part
abbrev pub built_type : BuiltPart → SequenceType
built_type part = joined_types part.sequence (choice_of_units (built_members part))

-- a part whose last unit is this type
abbrev pub ending_with : BuiltPart → SequenceType → BuiltPart
ending_with part t = record { sequence = part.sequence; members = part.members; unit = t }

-- a `)` makes a part the last unit of the one round it
abbrev pub unit_closed : List BuiltPart → SequenceType → BuiltParts
unit_closed [] t = record { inner = ending_with no_part_yet t; outer = [] }
unit_closed (part ∷ outer) t = record { inner = ending_with part t; outer = outer }

-- a `(` begins a part
abbrev pub part_opened : BuiltParts → BuiltParts
part_opened parts = record { inner = no_part_yet; outer = parts.inner ∷ parts.outer }

abbrev pub part_closed : BuiltParts → BuiltParts
part_closed parts = unit_closed parts.outer (built_type parts.inner)

-- a `,` begins a choice
abbrev pub choice_begun : BuiltParts → BuiltParts
choice_begun parts = record { inner = record { sequence = built_type parts.inner; members = []; unit = nothing }; outer = parts.outer }

-- a `|` begins a unit
abbrev pub unit_begun : BuiltParts → BuiltParts
unit_begun parts = record { inner = record { sequence = parts.inner.sequence; members = built_members parts.inner; unit = nothing }; outer = parts.outer }

abbrev pub unit_is : BuiltParts → SequenceType → BuiltParts
unit_is parts t = record { inner = ending_with parts.inner t; outer = parts.outer }

abbrev pub built_with : SchemaSet → BuiltParts → Piece → BuiltParts
built_with schemas parts piece.Opening = part_opened parts
built_with schemas parts piece.Closing = part_closed parts
built_with schemas parts piece.Comma = choice_begun parts
built_with schemas parts piece.Bar = unit_begun parts
built_with schemas parts (piece.Indicated i) = unit_is parts (with_indicator (Some i) parts.inner.unit)
built_with schemas parts (piece.Operand operand) = unit_is parts (written_operand_type schemas operand)

-- the type of all pieces
abbrev pub type_of_pieces : SchemaSet → List Piece → SequenceType
type_of_pieces schemas ps = built_type (fold (built_with schemas) nothing_built ps).inner
