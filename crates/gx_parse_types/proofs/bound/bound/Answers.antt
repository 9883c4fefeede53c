use Rattle.std.proofs.Common.{ap, ◌∙◌}
use Rattle.gx_grammar.specs.Value.{nothing}
use Rattle.gx_parse_grammar.specs.Grammar.{place_in}
use Rattle.gx_parse_tokens.specs.Reading.{read_in}
use Rattle.gx_parse_grammar.specs.Types.{named}
use Rattle.gx_parse_grammar.specs.Bound.{bound, bound_made}
use Rattle.gx_parse_types.proofs.BoundPhrases.{bound_read}
use Rattle.gx_parse_types.proofs.bound.bound.Goals as goal
use Rattle.gx_parse_parts.proofs.Phrases.{gave_none}

pub returns-in_default : goal.returns-in_default
returns-in_default c = λ n.
    let done = rw c.in_default.is at (c.written_name.ensures n) in
    gave_none bound_made _ c.args.reader.now c.written_name.new.reader (read_in c.args.source.now n (bound (place_in c.args.source.now))) done.0
    (bound_read c.args.source.now n c.place-place.result _ nothing c.args.reader.now c.lexeme.new.reader c.written_name.new.reader (c.place-place.ensures ∙ ap (place_in c.args.source.now) c.left.ensures) (c.lexeme.ensures c.args.source.now n) (done.1 nothing))

pub returns : goal.returns
returns c = λ n. bound_read c.args.source.now n c.place-place.result _ (named c.in-Some.name) c.args.reader.now c.lexeme.new.reader c.written_name.new.reader (c.place-place.ensures ∙ ap (place_in c.args.source.now) c.left.ensures) (c.lexeme.ensures c.args.source.now n) (c.in-Some.ensures n)
