use Rattle.std.proofs.Common.{subst, sym}
use Rattle.gx_grammar.specs.Ran.{Ran}
use Rattle.gx_parse_grammar.specs.Grammar.{place_in}
use Rattle.gx_parse_tokens.specs.Reading.{read_in}
use Rattle.gx_parse_grammar.specs.Bound.{direction_made, extreme_made, is_descending, key_order, order_made}
use Rattle.gx_parse_types.proofs.BoundPhrases.{order_read}
use Rattle.gx_parse_types.proofs.bound.key_order.Goals as goal

pub returns : goal.returns
returns c = λ n.
    subst (λ d. Ran (order_made (record { descending = d; empty = c.empty_of.result })) c.args.reader.now c.extreme-extreme.new.reader (read_in c.args.source.now n (key_order (place_in c.args.source.now)))) (sym c.is_descending.ensures)
    (subst (λ e. Ran (order_made (record { descending = is_descending (direction_made c.direction-direction.result); empty = e })) c.args.reader.now c.extreme-extreme.new.reader (read_in c.args.source.now n (key_order (place_in c.args.source.now)))) (sym c.empty_of.ensures)
    (order_read c.args.source.now n (direction_made c.direction-direction.result) (extreme_made c.extreme-extreme.result) c.args.reader.now c.direction-direction.new.reader c.extreme-extreme.new.reader (c.direction-direction.ensures n) (c.extreme-extreme.ensures n)))
