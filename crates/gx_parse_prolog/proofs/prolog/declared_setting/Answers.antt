use Rattle.std.proofs.Common.{◌∙◌, ◌-◌, ap}
use Rattle.gx_grammar.specs.Value.{nothing, node}
use Rattle.gx_parse_grammar.specs.Grammar.{place_in}
use Rattle.gx_parse_tokens.specs.Reading.{read_in}
use Rattle.gx_parse_prolog.proofs.PrologPhrases.{declared_read}
use Rattle.gx_parse_prolog.specs.PrologParts.{declared_setting, says_made, setting_made}
use Rattle.gx_parse_prolog.proofs.prolog.declared_setting.Goals as goal
use Rattle.gx_parse_parts.proofs.Phrases.{gave_none}

pub returns-in_default : goal.returns-in_default
returns-in_default c = λ n.
    let done = rw c.in_default.is at (c.setter.ensures n) in
    gave_none setting_made _ c.args.reader.now c.setter.new.reader (read_in c.args.source.now n (declared_setting (place_in c.args.source.now))) done.0
    (declared_read c.args.source.now n c.place-place.result c.leading-word.result c.of.result nothing c.args.reader.now c.leading-word.new.self c.gap.new.self c.setter.new.reader (c.place-place.ensures ∙ ap (place_in c.args.source.now) c.left.ensures) c.of.ensures c.leading-word.ensures c.gap.ensures (done.1 nothing))

pub returns : goal.returns
returns c = λ n.
    declared_read c.args.source.now n c.place-place.result c.leading-word.result c.of.result (says_made c.in-Some.node) c.args.reader.now c.leading-word.new.self c.gap.new.self c.setter.new.reader (c.place-place.ensures ∙ ap (place_in c.args.source.now) c.left.ensures) c.of.ensures c.leading-word.ensures c.gap.ensures (c.in-Some.ensures n)
