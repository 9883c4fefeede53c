use Rattle.std.proofs.Common.{ap, subst, sym, ◌∙◌}
use Rattle.gx_grammar.specs.Value.{nothing}
use Rattle.gx_parse_tokens.specs.Names.{name_made}
use Rattle.gx_parse_grammar.specs.Nodes.{name_at}
use Rattle.gx_parse_grammar.specs.Grammar.{place_in}
use Rattle.gx_parse_tokens.specs.Reading.{read_in, read_one}
use Rattle.gx_parse_grammar.specs.Tokens.{gap}
use Rattle.gx_grammar.proofs.PublicLaws.{ran_idle}
use Rattle.gx_parse_grammar.specs.Types.{named, written_name}
use Rattle.gx_parse_types.proofs.TypesPhrases.{written_read}
use Rattle.gx_grammar.specs.Ran.{Ran}
use Rattle.gx_parse_types.proofs.types.written_name.Goals as goal
use Rattle.gx_parse_parts.proofs.Phrases.{gave_none, loses_done, ran_loses}

pub returns-in_default : goal.returns-in_default
returns-in_default c = λ n.
    let done = rw c.in_default.is at c.name.ensures.read in
    gave_none named (named (name_at c.place-place.result nothing)) c.args.reader.now c.name.new.self (read_in c.args.source.now n (written_name (place_in c.args.source.now))) done.0
    (written_read c.args.source.now n c.place-place.result nothing c.args.reader.now c.name.new.self c.name.new.self (c.place-place.ensures ∙ ap (place_in c.args.source.now) c.left.ensures) (done.1 nothing) (ran_idle nothing c.name.new.self (read_one gap) done.0))

pub returns-in-Ok : goal.returns-in-Ok
returns-in-Ok c = λ n.
    subst (λ q. Ran (named q) c.args.reader.now c.gap.new.self (read_in c.args.source.now n (written_name (place_in c.args.source.now)))) (sym c.in-Ok.ensures)
    (written_read c.args.source.now n c.place-place.result (name_made c.in-Some.name) c.args.reader.now c.name.new.self c.gap.new.self (c.place-place.ensures ∙ ap (place_in c.args.source.now) c.left.ensures) c.in-Some.ensures.read c.gap.ensures)

pub returns-in-Err : goal.returns-in-Err
returns-in-Err c = λ n.
    gave_none named (named (name_at c.place-place.result nothing)) c.args.reader.now c.lose.new.self (read_in c.args.source.now n (written_name (place_in c.args.source.now))) (loses_done c.gap.new.self c.lose.new.self c.lose.ensures)
    (ran_loses (named (name_at c.place-place.result (name_made c.in-Some.name))) (named (name_at c.place-place.result nothing)) c.args.reader.now c.gap.new.self c.lose.new.self (read_in c.args.source.now n (written_name (place_in c.args.source.now)))
    (written_read c.args.source.now n c.place-place.result (name_made c.in-Some.name) c.args.reader.now c.name.new.self c.gap.new.self (c.place-place.ensures ∙ ap (place_in c.args.source.now) c.left.ensures) c.in-Some.ensures.read c.gap.ensures) c.lose.ensures)
