-- What the reader of pieces reads in one step.
use Rattle.std.specs.Prelude.{ℕ, List, [], ◌∷◌, ◌++◌, false, Option, Some, None, if◌then◌else◌}
use Rattle.gx_grammar.specs.Grammar.{made, keyed}
use Rattle.gx_grammar.specs.Reading.{read_with}
use Rattle.gx_grammar.specs.Ran.{Standing, Ran}
use Rattle.gx_typetext.specs.declared.written.Piece.{Piece}
use Rattle.gx_typetext.specs.declared.written.Piece.TheVariants as piece
use Rattle.gx_typetext.specs.declared.written.Indicator.{Indicator}
use Rattle.gx_typetext.specs.declared.written.Operand.{Operand}
use Rattle.gx_typetext.specs.declared.written.Operand.TheVariants as operand_is
use Rattle.gx_typetext.specs.declared.written.WrittenItem.TheVariants as item_is
use Rattle.gx_typetext.specs.declared.written.WrittenName.{WrittenName}
use Rattle.gx_typetext.specs.declared.steps.Stage.{Stage}
use Rattle.gx_typetext.specs.Tokens.{local}
use Rattle.gx_typetext.specs.Nodes.{pieces, put_word, name_word}
use Rattle.gx_typetext.specs.Grammar.{Production, operand, behind, TypePhrase, separated, indicated, behind_word, type_texts}
use Rattle.gx_typetext.specs.Standings.{Calls}

-- what is due at a stage
abbrev pub production_of : Stage → Production
production_of s = if s.is_due then (operand s.depth s.room) else (behind s.depth s.room)

-- A piece was read, behind which the stage is as given; or no further piece, and there are none.
abbrev pub Stepped : Option (Piece × Stage) → TypePhrase → Standing → Standing → Type 0
Stepped None A before here = (call : Calls) → Ran (pieces []) before here (read_with type_texts call A)
Stepped (Some r) A before here = (call : Calls) (qs : List Piece) (after : Standing) → Ran (pieces qs) here after (call (production_of r.1)) → Ran (pieces (r.0 ∷ qs)) before after (read_with type_texts call A)

-- the piece of an indicator
abbrev pub marks : Option Indicator → List Piece
marks None = []
marks (Some i) = piece.Indicated i ∷ []

-- An indicator was read, if one stood there.
abbrev pub Marked : Option Indicator → (depth room : ℕ) → Standing → Standing → Type 0
Marked i depth room before here = (call : Calls) (qs : List Piece) (after : Standing) → Ran (pieces qs) here after (read_with type_texts call (separated depth room)) → Ran (pieces (marks i ++ qs)) before after (read_with type_texts call (indicated depth room))

-- an item type that begins with a word, or `none` or `empty-sequence()`
abbrev pub word_phrase : (depth room : ℕ) → TypePhrase
word_phrase depth room = made (λ left v. put_word v) (keyed local (λ v. behind_word (name_word v) depth room))

-- an operand with the stage behind it
abbrev pub operand_then : Operand → (depth room : ℕ) → Option (Piece × Stage)
operand_then o depth room = Some (piece.Operand o, record { is_due = false; depth = depth; room = room })

-- an atomic type with the stage behind it
abbrev pub named_step : Option WrittenName → (depth room : ℕ) → Option (Piece × Stage)
named_step None depth room = None
named_step (Some n) depth room = operand_then (operand_is.Item (item_is.Atomic n)) depth room
