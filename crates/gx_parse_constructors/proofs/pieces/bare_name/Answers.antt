use Rattle.std.proofs.Common.{ap, subst, sym, ◌∙◌}
use Rattle.gx_grammar.specs.Value.{nothing}
use Rattle.gx_grammar.specs.Ran.{Ran}
use Rattle.gx_parse_tokens.specs.Names.{name_made}
use Rattle.gx_parse_grammar.specs.Nodes.{name_at}
use Rattle.gx_parse_grammar.specs.Basics.{name}
use Rattle.gx_parse_grammar.specs.Grammar.{place_in}
use Rattle.gx_parse_tokens.specs.Reading.{read_in}
use Rattle.gx_parse_grammar.specs.Types.{named}
use Rattle.gx_parse_constructors.proofs.DirectPhrases.{bare_name_read}
use Rattle.gx_parse_constructors.proofs.pieces.bare_name.Goals as goal
use Rattle.gx_parse_parts.proofs.Phrases.{gave_none, loses_done, ran_loses}

pub returns-in_default : goal.returns-in_default
returns-in_default c = λ n.
    let done = rw c.in_default.is at c.name.ensures.read in
    gave_none named (named (name_at c.place-place.result nothing)) c.args.reader.now c.name.new.self (read_in c.args.source.now n (name (place_in c.args.source.now))) done.0
    (bare_name_read c.args.source.now n c.place-place.result nothing c.args.reader.now c.name.new.self (c.place-place.ensures ∙ ap (place_in c.args.source.now) c.left.ensures) (done.1 nothing))

pub returns-in-Ok : goal.returns-in-Ok
returns-in-Ok c = λ n.
    subst (λ q. Ran (named q) c.args.reader.now c.name.new.self (read_in c.args.source.now n (name (place_in c.args.source.now)))) (sym c.in-Ok.ensures)
    (bare_name_read c.args.source.now n c.place-place.result (name_made c.in-Some.name) c.args.reader.now c.name.new.self (c.place-place.ensures ∙ ap (place_in c.args.source.now) c.left.ensures) c.in-Some.ensures.read)

pub returns-in-Err : goal.returns-in-Err
returns-in-Err c = λ n.
    gave_none named (named (name_at c.place-place.result nothing)) c.args.reader.now c.lose.new.self (read_in c.args.source.now n (name (place_in c.args.source.now))) (loses_done c.name.new.self c.lose.new.self c.lose.ensures)
    (ran_loses (named (name_at c.place-place.result (name_made c.in-Some.name))) (named (name_at c.place-place.result nothing)) c.args.reader.now c.name.new.self c.lose.new.self (read_in c.args.source.now n (name (place_in c.args.source.now)))
    (bare_name_read c.args.source.now n c.place-place.result (name_made c.in-Some.name) c.args.reader.now c.name.new.self (c.place-place.ensures ∙ ap (place_in c.args.source.now) c.left.ensures) c.in-Some.ensures.read) c.lose.ensures)
