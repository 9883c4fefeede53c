-- What the reading of a type text says.
use Rattle.std.specs.Prelude.{◌≡◌, ℕ, List, ◌-◌, length}
use Rattle.gx_grammar.specs.Value.{nothing, pair}
use Rattle.gx_grammar.specs.Places.{place_at}
use Rattle.gx_grammar.specs.Text.{HasValue, IsUnfit}
use Rattle.gx_typetext.specs.declared.written.Piece.{Piece}
use Rattle.gx_typetext.specs.declared.read.WrittenError.{WrittenError}
use Rattle.gx_typetext.specs.declared.read.WrittenError.TheVariants.{BadType, Memory}
use Rattle.gx_typetext.specs.Nodes.{pieces}
use Rattle.gx_typetext.specs.Grammar.{type_phrase, type_texts}

-- the text is a type text of these pieces, and of no others
abbrev pub HasPieces : List ℕ → List Piece → Type 0
HasPieces text ps = HasValue type_texts type_phrase text (pair nothing (pieces ps))

-- It is no type text, and the place is the end of the longest front of it that opens one. Want of memory says nothing.
abbrev pub IsRefusedAt : List ℕ → WrittenError → Type 0
IsRefusedAt text (BadType place) = (far : ℕ) × IsUnfit type_texts type_phrase text far × (place ≡ place_at text (length text - far))
IsRefusedAt text Memory = Unit {0}
