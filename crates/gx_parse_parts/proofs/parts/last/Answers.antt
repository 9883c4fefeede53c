use Rattle.std.proofs.Common.{sym, ◌∙◌}
use Rattle.gx_grammar.specs.Value.{node}
use Rattle.gx_parse_grammar.specs.Nodes.{Operator}
use Rattle.gx_parse_parts.proofs.Phrases.{last_of_pair, last_not_there, last_there}
use Rattle.gx_parse_parts.proofs.parts.last.Goals as goal

pub returns-then-is_pair : goal.returns-then-is_pair
returns-then-is_pair c = λ n. last_of_pair c.args.source.now n c.args.members c.args.reader.now (sym c.is_pair.ensures ∙ c.if-is_pair.true)

pub returns-then-looks_at : goal.returns-then-looks_at
returns-then-looks_at c = λ n.
    last_there c.args.source.now n c.args.members c.set-set.result c.set-set.ensures (node (Operator c.operator.result.0 c.operator.result.1)) c.barrier.result c.looks_at.result c.args.reader.now c.looks_at.new.self c.operator.new.reader c.barrier-then-looks_at.new.self
    (sym c.is_pair.ensures ∙ c.if-is_pair.false) c.barrier.ensures c.if-looks_at.true c.looks_at.ensures (c.operator.ensures n) c.barrier-then-looks_at.ensures.read c.barrier-then-looks_at.ensures.ended

pub returns-else-looks_at : goal.returns-else-looks_at
returns-else-looks_at c = λ n.
    last_not_there c.args.source.now n c.args.members c.set-set.result c.set-set.ensures c.looks_at.result c.args.reader.now c.looks_at.new.self (sym c.is_pair.ensures ∙ c.if-is_pair.false) c.if-looks_at.false c.looks_at.ensures
