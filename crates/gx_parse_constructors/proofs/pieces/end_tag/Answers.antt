use Rattle.std.proofs.Common.{◌∙◌}
use Rattle.gx_grammar.specs.Value.{nothing, node, pair}
use Rattle.gx_parse_tokens.specs.Names.{name_made}
use Rattle.gx_parse_grammar.specs.Nodes.{Found}
use Rattle.gx_parse_constructors.proofs.DirectPhrases.{end_tag_lost, end_tag_read}
use Rattle.gx_parse_constructors.proofs.pieces.end_tag.Goals as goal

pub returns-in_default : goal.returns-in_default
returns-in_default c = λ n. (nothing, end_tag_lost c.args.source.now n (node (Found c.word.result)) nothing (name_made c.args.name.now) c.args.reader.now c.word.new.self c.lose.new.self c.word.ensures c.lose.ensures)

pub returns : goal.returns
returns c = λ n. (
  pair (node (Found c.word.result)) (pair nothing (pair nothing (node (Found c.word-2.result)))),
  end_tag_read c.args.source.now n (node (Found c.word.result)) (node (Found c.word-2.result)) (name_made c.args.name.now) c.as_slice.result.now c.args.reader.now c.word.new.self c.tag_name.new.self c.blank.new.self c.word-2.new.self
      (c.as_slice.ensures.value ∙ c.in-Ok.ensures) c.word.ensures c.tag_name.ensures c.blank.ensures c.word-2.ensures,
)
