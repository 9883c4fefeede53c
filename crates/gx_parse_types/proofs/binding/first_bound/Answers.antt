use Rattle.std.proofs.Common.{ap, ◌∙◌, ◌+◌}
use Rattle.gx_grammar.specs.Value.{nothing}
use Rattle.gx_parse_grammar.specs.Grammar.{place_in}
use Rattle.gx_parse_tokens.specs.Reading.{read_in}
use Rattle.gx_parse_grammar.specs.Types.{named}
use Rattle.gx_parse_grammar.specs.Binding.{first_bound}
use Rattle.gx_parse_grammar.specs.Bound.{bound_made}
use Rattle.gx_parse_types.proofs.BindingPhrases.{first_bound_read}
use Rattle.gx_parse_types.proofs.binding.first_bound.Goals as goal
use Rattle.gx_parse_parts.proofs.Phrases.{gave_none}

pub returns-in_default : goal.returns-in_default
returns-in_default c = λ n.
    let done = rw c.in_default.is at (c.written_name.ensures n) in
    gave_none bound_made _ c.args.reader.now c.written_name.new.reader (read_in c.args.source.now n (first_bound (place_in c.args.source.now))) done.0
    (first_bound_read c.args.source.now n c.place_before-place.result nothing c.args.reader.now c.gap.new.self c.written_name.new.reader (c.place_before-place.ensures ∙ ap (λ left. place_in c.args.source.now (left + 1)) c.left.ensures) c.gap.ensures (done.1 nothing))

pub returns : goal.returns
returns c = λ n. first_bound_read c.args.source.now n c.place_before-place.result (named c.in-Some.name) c.args.reader.now c.gap.new.self c.written_name.new.reader (c.place_before-place.ensures ∙ ap (λ left. place_in c.args.source.now (left + 1)) c.left.ensures) c.gap.ensures (c.in-Some.ensures n)
