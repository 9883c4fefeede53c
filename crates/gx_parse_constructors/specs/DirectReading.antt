-- How direct constructors are read.
use Rattle.std.specs.Prelude.{◌≡◌, ◌⊎◌, List, [], ◌∷◌, ◌++◌, Bool, true, false}
use Rattle.gx_ast.specs.declared.expression.DirectAttribute.{DirectAttribute}
use Rattle.gx_ast.specs.declared.expression.Part.{Part}
use Rattle.gx_ast.specs.SyntaxView.{attribute_parts_of}
use Rattle.gx_grammar.specs.Value.{node}
use Rattle.gx_grammar.specs.Ran.{Standing, Loses}
use Rattle.gx_parse_grammar.specs.declared.pieces.Piece.{Piece}
use Rattle.gx_parse_grammar.specs.declared.pieces.Piece.TheVariants.{Literal, Kept, Element, Enclosed}
use Rattle.gx_parse_grammar.specs.Nodes.{Made, AttributeIs}
use Rattle.gx_parse_grammar.specs.Pieces.{content_of_pieces}

abbrev pub attribute_made : DirectAttribute → Made
attribute_made a = node (AttributeIs a.name (attribute_parts_of a.value.items))

-- This was made, or memory did not suffice for it.
abbrev pub MadeOrLost : {A : Type 0} → A → A → Standing → Standing → Type 0
MadeOrLost made wanted before after = ((made ≡ wanted) × (after ≡ before)) ⊎ Loses before after

-- an element or an enclosed expression, in front of which text ends
abbrev pub ends_text : Piece → Bool
ends_text (Literal cs) = false
ends_text (Kept cs) = false
ends_text (Element t) = true
ends_text (Enclosed t) = true

-- These parts, and the pieces behind them, stand for all of these pieces: with whatever stands behind, both come to one content.
abbrev pub StandsFor : List Part × List Piece → List Piece → Type 0
StandsFor read all = (others : List Piece) → read.0 ++ content_of_pieces (read.1 ++ others) ≡ content_of_pieces (all ++ others)

-- A piece was added to what was read, or memory did not suffice.
abbrev pub OnePiece : List Part × List Piece → Piece → List Part × List Piece → Standing → Standing → Type 0
OnePiece read p more before after = (((all : List Piece) → StandsFor read all → StandsFor more (all ++ p ∷ [])) × (after ≡ before)) ⊎ Loses before after
