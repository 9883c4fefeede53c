-- The laws of type texts as trees.
use Rattle.std.specs.Prelude.{◌≡◌, ◌≢◌, ℕ, List}
use Rattle.gx_types.specs.SchemaSet.{SchemaSet}
use Rattle.gx_types.specs.SequenceType.{SequenceType}
use Rattle.gx_typetext.specs.declared.written.Piece.{Piece}
use Rattle.gx_typetext.specs.Reading.{HasPieces}
use Rattle.gx_typetext.specs.TypeReading.{IsTypeText, IsTypeRefused}
use Rattle.gx_typetext.specs.declared.read.TypeRead.{TypeRead}
use Rattle.gx_typetext.specs.declared.read.TypeRead.TheVariants.{Memory}
use Rattle.gx_typetext.specs.WrittenTypes.{WrittenType, type_pieces, written_type}

-- the pieces of a type text are those of a tree
abbrev pub TypeTextsAreTrees : Type 0
TypeTextsAreTrees = (text : List ℕ) (ps : List Piece) → HasPieces text ps → (written : WrittenType) × (type_pieces written ≡ ps)

-- trees of the same pieces stand for the same type
abbrev pub PiecesHaveOneType : Type 0
PiecesHaveOneType = (schemas : SchemaSet) (a b : WrittenType) → type_pieces a ≡ type_pieces b → written_type schemas a ≡ written_type schemas b

-- a type text stands for one type
abbrev pub TypeTextsHaveOneType : Type 0
TypeTextsHaveOneType = (schemas : SchemaSet) (text : List ℕ) (t u : SequenceType) → IsTypeText schemas text t → IsTypeText schemas text u → t ≡ u

-- a text that is refused, but for want of memory, stands for no type
abbrev pub RefusedTextsHaveNoType : Type 0
RefusedTextsHaveNoType = (schemas : SchemaSet) (text : List ℕ) (error : TypeRead) (t : SequenceType) → IsTypeRefused schemas text error → error ≢ Memory → IsTypeText schemas text t → ⊥
