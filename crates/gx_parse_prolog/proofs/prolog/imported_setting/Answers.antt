use Rattle.std.proofs.Common.{◌∙◌, ◌-◌, ap}
use Rattle.gx_grammar.specs.Value.{nothing, node}
use Rattle.gx_parse_grammar.specs.Grammar.{place_in}
use Rattle.gx_parse_tokens.specs.Reading.{read_in}
use Rattle.gx_parse_grammar.specs.Nodes.{Found}
use Rattle.gx_parse_prolog.proofs.PrologPhrases.{imported_read}
use Rattle.gx_parse_prolog.specs.PrologParts.{imported_setting, says_made, setting_made}
use Rattle.gx_parse_prolog.proofs.prolog.imported_setting.Goals as goal
use Rattle.gx_parse_parts.proofs.Phrases.{gave_none}

pub returns-in_default : goal.returns-in_default
returns-in_default c = λ n.
    let done = rw c.in_default.is at (c.schema_import.ensures n) in
    gave_none setting_made _ c.args.reader.now c.schema_import.new.reader (read_in c.args.source.now n (imported_setting (place_in c.args.source.now))) done.0
    (imported_read c.args.source.now n c.place-place.result (node (Found c.leading.result)) nothing c.args.reader.now c.leading.new.self c.gap.new.self c.schema_import.new.reader (c.place-place.ensures ∙ ap (place_in c.args.source.now) c.left.ensures) c.leading.ensures c.gap.ensures (done.1 nothing))

pub returns : goal.returns
returns c = λ n.
    imported_read c.args.source.now n c.place-place.result (node (Found c.leading.result)) (says_made c.in-Some.node) c.args.reader.now c.leading.new.self c.gap.new.self c.schema_import.new.reader (c.place-place.ensures ∙ ap (place_in c.args.source.now) c.left.ensures) c.leading.ensures c.gap.ensures (c.in-Some.ensures n)
