use Rattle.gx_grammar.specs.Value.{node}
use Rattle.gx_parse_grammar.specs.Nodes.{Found}
use Rattle.gx_parse_grammar.specs.Tokens.{one_of}
use Rattle.gx_parse_parts.proofs.Phrases.{lexeme_reads}
use Rattle.gx_parse_parts.proofs.parts.lexeme.Goals as goal

pub returns : goal.returns
returns c = λ text n. lexeme_reads text n (one_of c.args.set) (node (Found c.word-word.result)) c.args.reader.now c.word-word.new.self c.gap.new.self c.word-word.ensures c.gap.ensures
