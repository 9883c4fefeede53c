-- What the reading of a type says.
use Rattle.std.specs.Prelude.{◌≡◌, ℕ, List, Option, None, Some, Result, MatchResult}
use Rattle.gx_base.specs.declared.name.Name.{Name}
use Rattle.gx_types.specs.SchemaSet.{SchemaSet}
use Rattle.gx_types.specs.SequenceType.{SequenceType}
use Rattle.gx_typetext.specs.declared.read.TypeRead.{TypeRead}
use Rattle.gx_typetext.specs.declared.read.TypeRead.TheVariants.{BadType, UnknownName, Memory}
use Rattle.gx_typetext.specs.declared.read.WrittenError.TheVariants as refused
use Rattle.gx_typetext.specs.KnownNames.{first_unknown}
use Rattle.gx_typetext.specs.NameText.{name_text}
use Rattle.gx_typetext.specs.Reading.{HasPieces, IsRefusedAt}
use Rattle.gx_typetext.specs.WrittenTypes.{WrittenType, type_pieces, written_type}

-- the answer on an unknown name; want of memory says nothing
abbrev pub IsUnknownName : TypeRead → Option Name → Type 0
IsUnknownName (UnknownName text) None = ⊥
IsUnknownName (UnknownName text) (Some name) = text ≡ name_text name
IsUnknownName (BadType place) unknown = ⊥
IsUnknownName Memory unknown = Unit {0}

-- this type, where no name is unknown, and else the answer on the one that is
abbrev pub ReadAs : Result SequenceType TypeRead → Option Name → SequenceType → Type 0
ReadAs result unknown t = MatchResult result (λ made. (unknown ≡ None) × (made ≡ t)) (λ e. IsUnknownName e unknown)

-- the text is a type text in which no name is unknown, and stands for the type
pub record IsTypeText (schemas : SchemaSet) (text : List ℕ) (t : SequenceType) : Type 0 where
  pub written : WrittenType
  pub has : HasPieces text (type_pieces written)
  pub known : first_unknown schemas (type_pieces written) ≡ None
  pub stands_for : t ≡ written_type schemas written

-- The text is no type text, and the place is the end of its longest front that begins one; or it is one whose first unknown name is
-- written so. Want of memory says nothing.
abbrev pub IsTypeRefused : SchemaSet → List ℕ → TypeRead → Type 0
IsTypeRefused schemas text (BadType place) = IsRefusedAt text (refused.BadType place)
IsTypeRefused schemas text (UnknownName name) =
    (written : WrittenType) × HasPieces text (type_pieces written) × IsUnknownName (UnknownName name) (first_unknown schemas (type_pieces written))
IsTypeRefused schemas text Memory = Unit {0}
