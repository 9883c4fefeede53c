-- What the reader of pieces reads in all.
use Rattle.std.specs.Prelude.{◌≡◌, ℕ, List, ◌++◌, Option, Some, None, Result, Ok, Err}
use Rattle.gx_grammar.specs.Value.{nothing, pair}
use Rattle.gx_grammar.specs.Reading.{read_with, reads, Unfit}
use Rattle.gx_grammar.specs.Ran.{Standing, Ran}
use Rattle.gx_grammar.specs.Text.{IsVerdict}
use Rattle.gx_typetext.specs.declared.written.Piece.{Piece}
use Rattle.gx_typetext.specs.declared.written.Indicator.{Indicator}
use Rattle.gx_typetext.specs.declared.steps.Stage.{Stage}
use Rattle.gx_typetext.specs.declared.reader.End.{End}
use Rattle.gx_typetext.specs.declared.reader.End.TheVariants as ended
use Rattle.gx_typetext.specs.declared.pieces.PiecesError.{PiecesError}
use Rattle.gx_typetext.specs.declared.pieces.PiecesError.TheVariants as error
use Rattle.gx_typetext.specs.Nodes.{pieces}
use Rattle.gx_typetext.specs.Grammar.{Production, operand, rules, type_phrase, type_texts}
use Rattle.gx_typetext.specs.Standings.{Calls}
use Rattle.gx_typetext.specs.Steps.{production_of, marks, Marked}

-- At a production these pieces were read, behind which the stage is as given; or they are the last ones.
abbrev pub Continued : List Piece → Option Stage → Production → Standing → Standing → Type 0
Continued xs None p before here = (call : Calls) → Ran (pieces xs) before here (read_with type_texts call (rules p))
Continued xs (Some next) p before here = (call : Calls) (qs : List Piece) (after : Standing) → Ran (pieces qs) here after (call (production_of next)) → Ran (pieces (xs ++ qs)) before after (read_with type_texts call (rules p))

-- They were added to those that were read before.
pub record Extended (front items : List Piece) (next : Option Stage) (p : Production) (before here : Standing) : Type 0 where
  pub added : List Piece
  pub are : items ≡ front ++ added
  pub read : Continued added next p before here

-- An indicator was read, if one stood there, and added.
pub record MarkedOn (front items : List Piece) (before here : Standing) : Type 0 where
  pub mark : Option Indicator
  pub are : items ≡ front ++ marks mark
  pub read : (depth room : ℕ) → Marked mark depth room before here

-- The pieces were read from the first operand on, and the production is due.
abbrev pub Started : List Piece → Production → Standing → Standing → Type 0
Started items p before here = (k : ℕ) → (m : ℕ) × ((qs : List Piece) (after : Standing) → Ran (pieces qs) here after (reads type_texts k p) → Ran (pieces (items ++ qs)) before after (reads type_texts m (operand 0 1024)))

-- These are all pieces.
abbrev pub Finished : List Piece → Standing → Standing → Type 0
Finished items before here = (m : ℕ) × Ran (pieces items) before here (reads type_texts m (operand 0 1024))

-- why there are no pieces, by how reading ended
abbrev pub error_of : End → PiecesError
error_of (ended.Unfit far) = error.Unfit far
error_of ended.Lost = error.Memory

-- The text is a type text of these pieces, exactly where it is one; or else the longest front of it that opens a type text
-- ends where so many characters are left. Want of memory says nothing.
abbrev pub PiecesAre : List ℕ → Result (List Piece) PiecesError → Type 0
PiecesAre text (Ok ps) = IsVerdict type_texts type_phrase text (Ok (pair nothing (pieces ps)))
PiecesAre text (Err (error.Unfit far)) = IsVerdict type_texts type_phrase text (Err (Unfit far))
PiecesAre text (Err error.Memory) = Unit {0}
