use Rattle.std.proofs.Common.{◌-◌}
use Rattle.gx_parse_grammar.specs.Grammar.{place_in}
use Rattle.gx_parse_tokens.specs.Reading.{read_in}
use Rattle.gx_parse_prolog.proofs.PrologPhrases.{setting_declared, setting_imported}
use Rattle.gx_parse_grammar.specs.Prolog.{setting}
use Rattle.gx_parse_prolog.specs.PrologParts.{declared_setting, imported_setting, setting_made}
use Rattle.gx_parse_prolog.proofs.prolog.setting.Goals as goal
use Rattle.gx_parse_parts.proofs.Phrases.{gave_same}

pub returns-then-looks_at_leading : goal.returns-then-looks_at_leading
returns-then-looks_at_leading c = λ n. gave_same setting_made c.declared_setting.result c.args.reader.now c.looks_at_leading.new.self c.declared_setting.new.reader (read_in c.args.source.now n (declared_setting (place_in c.args.source.now))) (read_in c.args.source.now n (setting (place_in c.args.source.now)))
    (setting_declared c.args.source.now n c.looks_at_leading.result c.args.reader.now c.looks_at_leading.new.self c.declared_setting.new.reader c.if-looks_at_leading.true c.looks_at_leading.ensures) (c.declared_setting.ensures n)

pub returns : goal.returns
returns c = λ n. gave_same setting_made c.imported_setting.result c.args.reader.now c.looks_at_leading.new.self c.imported_setting.new.reader (read_in c.args.source.now n (imported_setting (place_in c.args.source.now))) (read_in c.args.source.now n (setting (place_in c.args.source.now)))
    (setting_imported c.args.source.now n c.looks_at_leading.result c.args.reader.now c.looks_at_leading.new.self c.imported_setting.new.reader c.if-looks_at_leading.false c.looks_at_leading.ensures) (c.imported_setting.ensures n)
