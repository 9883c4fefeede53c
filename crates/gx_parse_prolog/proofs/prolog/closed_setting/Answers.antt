use Rattle.std.proofs.Common.{◌-◌}
use Rattle.gx_grammar.specs.Value.{nothing}
use Rattle.gx_parse_grammar.specs.Grammar.{place_in, lexeme, word_of}
use Rattle.gx_parse_tokens.specs.Reading.{read_in}
use Rattle.gx_parse_grammar.specs.declared.word.Word.TheVariants as word
use Rattle.gx_parse_prolog.proofs.PrologPhrases.{closed_setting_read, still}
use Rattle.gx_parse_prolog.specs.PrologParts.{closed_setting, setting_item, setting_made, gapped}
use Rattle.gx_parse_prolog.proofs.prolog.closed_setting.Goals as goal
use Rattle.gx_parse_parts.proofs.Lists.{one_grown, none_grown}

pub returns-in_default : goal.returns-in_default
returns-in_default c = λ n.
    let done = rw c.in_default.is at (c.setting.ensures n) in
    none_grown setting_item c.args.settings.items _ c.args.reader.now c.setting.new.reader (read_in c.args.source.now n (closed_setting (place_in c.args.source.now))) done.0
    (closed_setting_read c.args.source.now n nothing c.args.reader.now c.setting.new.reader c.setting.new.reader (done.1 nothing) (still c.args.source.now n (lexeme (word_of word.Semicolon)) (gapped word.Semicolon) c.setting.new.reader done.0))

pub returns : goal.returns
returns c = λ n.
    one_grown setting_item c.args.settings.items (c.with_item.result).items c.in-Some.next c.args.reader.now c.symbol.new.reader c.with_item.new.reader (read_in c.args.source.now n (closed_setting (place_in c.args.source.now)))
    (closed_setting_read c.args.source.now n (setting_made c.in-Some.next) c.args.reader.now c.setting.new.reader c.symbol.new.reader (c.in-Some.ensures n) (c.symbol.ensures c.args.source.now n)) c.with_item.ensures
