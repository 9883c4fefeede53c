use Rattle.std.proofs.Common.{◌∙◌, ◌-◌, ◌∷◌, ◌++◌, [], ap, if◌then◌else◌}
use Rattle.gx_grammar.specs.Value.{nothing, characters}
use Rattle.gx_parse_tokens.specs.Reading.{read_in}
use Rattle.gx_parse_prolog.proofs.PrologPhrases.{locations_read, locations_full, locations_stop}
use Rattle.gx_parse_grammar.specs.Prolog.{text_literal}
use Rattle.gx_parse_parts.proofs.Phrases.{loses_done, ran_loses}
use Rattle.gx_parse_prolog.proofs.prolog.locations.Goals as goal

pub returns-in_default-clause-read : goal.returns-in_default-clause-read
returns-in_default-clause-read c = λ n.
    let done = rw c.in_default.is at (c.text_literal.ensures n) in
    locations_stop c.args.source.now n c.args.reader.now c.text_literal.new.reader done.0 (done.1 nothing)

pub returns-then-is_err-clause-read : goal.returns-then-is_err-clause-read
returns-then-is_err-clause-read c = λ n.
    locations_stop c.args.source.now n c.args.reader.now c.lose.new.self (loses_done c.text_literal.new.reader c.lose.new.self c.lose.ensures) (ran_loses (characters c.in-Some.first) nothing c.args.reader.now c.text_literal.new.reader c.lose.new.self (read_in c.args.source.now n text_literal) (c.in-Some.ensures n) c.lose.ensures)

pub returns-clause-read : goal.returns-clause-read
returns-clause-read c = λ n.
    locations_read c.args.source.now n c.in-Some.first (c.push.new.self).items c.more_locations.result.items c.args.reader.now c.text_literal.new.reader c.more_locations.new.reader (c.in-Some.ensures n)
    (c.push.ensures.items ∙ ap (λ b. if b then (c.new-list.result.items ++ c.in-Some.first ∷ []) else c.new-list.result.items) c.if-is_err.ensures.negation ∙ ap (λ us. us ++ c.in-Some.first ∷ []) c.new-list.ensures.items) (c.more_locations.ensures n)

pub returns-clause-full : goal.returns-clause-full
returns-clause-full c =
    locations_full c.args.source.now 0 c.in-Some.first (c.push.new.self).items c.more_locations.result.items
    (c.push.ensures.items ∙ ap (λ b. if b then (c.new-list.result.items ++ c.in-Some.first ∷ []) else c.new-list.result.items) c.if-is_err.ensures.negation ∙ ap (λ us. us ++ c.in-Some.first ∷ []) c.new-list.ensures.items) (c.more_locations.ensures 0)
