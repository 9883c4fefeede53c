-- The indicators that the reader reads.
use Rattle.std.specs.Prelude.{Option, Some, None}
use Rattle.gx_grammar.specs.Value.{nothing, node}
use Rattle.gx_parse_grammar.specs.declared.word.Word.{Word}
use Rattle.gx_parse_grammar.specs.Nodes.{Made, Found}

-- a word that was found, or nothing
abbrev pub found_made : Option Word → Made
found_made None = nothing
found_made (Some w) = node (Found w)
