use Rattle.std.proofs.Common.{◌∙◌, ◌-◌, ap}
use Rattle.gx_grammar.specs.Value.{nothing, node}
use Rattle.gx_parse_grammar.specs.Grammar.{place_in}
use Rattle.gx_parse_tokens.specs.Reading.{read_in}
use Rattle.gx_parse_prolog.proofs.PrologPhrases.{defined_read}
use Rattle.gx_parse_grammar.specs.Prolog.{definition}
use Rattle.gx_parse_prolog.specs.PrologParts.{definition_made, gives_made}
use Rattle.gx_parse.proofs.definitions.definition.Goals as goal
use Rattle.gx_parse_parts.proofs.Phrases.{gave_none}

pub returns-in_default : goal.returns-in_default
returns-in_default c =
    let done = rw c.in_default.is at c.definer.ensures in
    gave_none definition_made _ c.args.reader.now c.definer.new.reader (read_in c.args.source.now 40 (definition (place_in c.args.source.now))) done.0
    (defined_read c.args.source.now 40 c.place-place.result c.leading-word.result c.of.result nothing c.args.reader.now c.leading-word.new.self c.gap.new.self c.definer.new.reader (c.place-place.ensures ∙ ap (place_in c.args.source.now) c.left.ensures) c.of.ensures c.leading-word.ensures c.gap.ensures (done.1 nothing))

pub returns : goal.returns
returns c =
    defined_read c.args.source.now 40 c.place-place.result c.leading-word.result c.of.result (gives_made c.in-Some.node) c.args.reader.now c.leading-word.new.self c.gap.new.self c.definer.new.reader (c.place-place.ensures ∙ ap (place_in c.args.source.now) c.left.ensures) c.of.ensures c.leading-word.ensures c.gap.ensures c.in-Some.ensures
