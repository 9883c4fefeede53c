-- Type texts as trees: what pieces they are written with, and what types they stand for.
--   Type ::= Choice ("," Choice)*
--   Choice ::= Unit ("|" Unit)*
--   Unit ::= (Item | "(" Type ")") ("?" | "*" | "+")?
use Rattle.std.specs.Prelude.{List, [], ◌∷◌, ◌++◌, Option, None, Some}
use Rattle.gx_types.specs.Choice.{choice_among}
use Rattle.gx_types.specs.Indicator.{optional_of, star_of, plus_of}
use Rattle.gx_types.specs.SchemaSet.{SchemaSet}
use Rattle.gx_types.specs.SequenceType.{SequenceType, never}
use Rattle.gx_types.specs.TypeRules.{joined_types}
use Rattle.gx_typetext.specs.declared.written.Indicator.{Indicator}
use Rattle.gx_typetext.specs.declared.written.Indicator.TheVariants as indicator
use Rattle.gx_typetext.specs.declared.written.Operand.{Operand}
use Rattle.gx_typetext.specs.declared.written.Piece.{Piece}
use Rattle.gx_typetext.specs.declared.written.Piece.TheVariants as piece
use Rattle.gx_typetext.specs.KnownNames.{written_operand_type}

mutual
  pub data WrittenType : Type 0 where
    only_choice : (choice : WrittenChoice) → WrittenType
    then_choice : (front : WrittenType) → (choice : WrittenChoice) → WrittenType

  pub data WrittenChoice : Type 0 where
    only_unit : (unit : WrittenUnit) → WrittenChoice
    or_unit : (front : WrittenChoice) → (unit : WrittenUnit) → WrittenChoice

  pub data WrittenUnit : Type 0 where
    single : (operand : Operand) → (indicator : Option Indicator) → WrittenUnit
    in_parentheses : (inner : WrittenType) → (indicator : Option Indicator) → WrittenUnit

-- what it is written with

abbrev pub indicator_pieces : Option Indicator → List Piece
indicator_pieces None = []
indicator_pieces (Some i) = piece.Indicated i ∷ []

abbrev mutual
  pub type_pieces : WrittenType → List Piece
  type_pieces (only_choice choice) = choice_pieces choice
  type_pieces (then_choice front choice) = type_pieces front ++ piece.Comma ∷ choice_pieces choice

  pub choice_pieces : WrittenChoice → List Piece
  choice_pieces (only_unit unit) = unit_pieces unit
  choice_pieces (or_unit front unit) = choice_pieces front ++ piece.Bar ∷ unit_pieces unit

  pub unit_pieces : WrittenUnit → List Piece
  unit_pieces (single operand i) = piece.Operand operand ∷ indicator_pieces i
  unit_pieces (in_parentheses inner i) = (piece.Opening ∷ type_pieces inner) ++ piece.Closing ∷ indicator_pieces i

-- what it stands for

abbrev pub with_indicator : Option Indicator → SequenceType → SequenceType
with_indicator None t = t
with_indicator (Some indicator.Optional) t = optional_of t
with_indicator (Some indicator.Star) t = star_of t
with_indicator (Some indicator.Plus) t = plus_of t

-- a choice of one type is that type, and one of more is made at once
abbrev pub choice_of_units : List SequenceType → SequenceType
choice_of_units [] = never
choice_of_units (t ∷ []) = t
choice_of_units (t ∷ u ∷ types) = choice_among (t ∷ u ∷ types)

abbrev mutual
  pub written_type : SchemaSet → WrittenType → SequenceType
  written_type schemas (only_choice choice) = choice_of_units (choice_members schemas choice)
  written_type schemas (then_choice front choice) = joined_types (written_type schemas front) (choice_of_units (choice_members schemas choice))

  pub choice_members : SchemaSet → WrittenChoice → List SequenceType
  choice_members schemas (only_unit unit) = unit_type schemas unit ∷ []
  choice_members schemas (or_unit front unit) = choice_members schemas front ++ unit_type schemas unit ∷ []

  pub unit_type : SchemaSet → WrittenUnit → SequenceType
  unit_type schemas (single operand i) = with_indicator i (written_operand_type schemas operand)
  unit_type schemas (in_parentheses inner i) = with_indicator i (written_type schemas inner)
