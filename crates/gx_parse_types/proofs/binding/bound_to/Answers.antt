use Rattle.gx_grammar.specs.Value.{node}
use Rattle.gx_parse_grammar.specs.Nodes.{Found}
use Rattle.gx_parse_types.proofs.BindingPhrases.{bound_to_read}
use Rattle.gx_parse_types.proofs.binding.bound_to.Goals as goal

pub returns : goal.returns
returns c = λ text n.
    bound_to_read text n c.args.levels c.args.binder c.word-word.result c.leads_single.result (node (Found c.word.result)) c.args.reader.now c.word.new.self c.word_end.new.self c.gap.new.self c.word-word.ensures c.leads_single.ensures c.word.ensures c.word_end.ensures c.gap.ensures
