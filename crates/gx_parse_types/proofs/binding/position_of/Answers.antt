use Rattle.gx_parse_grammar.specs.Bound.{position_made}
use Rattle.gx_parse_types.proofs.BindingPhrases.{for_position, let_position, quantifier_position}
use Rattle.gx_parse_types.proofs.binding.position_of.Goals as goal

pub returns-in-For : goal.returns-in-For
returns-in-For c = λ n. for_position c.args.source.now n c.args.binder (position_made c.for_position.result) c.args.reader.now c.for_position.new.reader c.in-For.is (c.for_position.ensures n)

pub returns-in-Let : goal.returns-in-Let
returns-in-Let c = λ n. let_position c.args.source.now n c.args.binder c.args.reader.now c.in-Let.is

pub returns-in-Quantifier : goal.returns-in-Quantifier
returns-in-Quantifier c = λ n. quantifier_position c.args.source.now n c.args.binder c.args.reader.now c.in-Quantifier.is
