use Rattle.gx_grammar.specs.Value.{node}
use Rattle.gx_parse_grammar.specs.Nodes.{Found}
use Rattle.gx_parse_parts.proofs.Phrases.{keyword_reads}
use Rattle.gx_parse_parts.proofs.parts.keyword.Goals as goal

pub returns : goal.returns
returns c = λ text n. keyword_reads text n c.args.word (node (Found c.word.result)) c.args.reader.now c.word.new.self c.word_end.new.self c.gap.new.self c.word.ensures c.word_end.ensures c.gap.ensures
