use Rattle.std.proofs.Common.{◌-◌, ◌∷◌, [], sym, subst, arith}
use Rattle.gx_grammar.specs.Value.{no_item}
use Rattle.gx_parse_grammar.specs.Grammar.{place_in, at_tokens}
use Rattle.gx_parse_prolog.proofs.PrologPhrases.{settings_are}
use Rattle.gx_parse_parts.proofs.Repeated.{Begun, all_listed, many_begin, many_full, many_more, many_end}
use Rattle.gx_parse_parts.specs.Repeated.{listed_before}
use Rattle.gx_parse_prolog.specs.PrologParts.{closed_setting, setting_item}
use Rattle.gx_parse_grammar.specs.Tokens.{setter_words, import_words}
use Rattle.gx_parse_prolog.proofs.prolog.settings.Goals as goal

pub loop-reader-init : goal.loop-reader-init
loop-reader-init c = λ n. subst (λ us. Begun c.args.source.now n (at_tokens (setter_words ∷ import_words ∷ [])) (closed_setting (place_in c.args.source.now)) setting_item [] us c.left-left.result c.args.reader.now c.args.reader.now) (sym c.new-list.ensures.items) (many_begin c.args.source.now n (at_tokens (setter_words ∷ import_words ∷ [])) (closed_setting (place_in c.args.source.now)) setting_item [] c.left-left.result c.args.reader.now c.left-left.ensures)

pub returns-then-left-eq0 : goal.returns-then-left-eq0
returns-then-left-eq0 c = λ n. settings_are c.args.source.now n (listed_before setting_item c.closed_setting-list.result.items no_item) c.args.reader.now c.closed_setting-list.new.reader (all_listed c.args.source.now n (at_tokens (setter_words ∷ import_words ∷ [])) (closed_setting (place_in c.args.source.now)) setting_item c.closed_setting-list.result.items c.args.reader.now c.closed_setting-list.new.reader (many_full c.args.source.now n (at_tokens (setter_words ∷ import_words ∷ [])) (closed_setting (place_in c.args.source.now)) setting_item [] c.loop-reader.list.items c.closed_setting-list.result.items c.loop-reader.left c.looks_at_setting.result c.args.reader.now c.loop-reader.reader c.looks_at_setting.new.self c.closed_setting-list.new.reader (c.loop-reader.invariant n) c.if-left-eq0.true c.loop-reader-test.true c.looks_at_setting.ensures (c.closed_setting-list.ensures n)))

pub loop-reader-preserved : goal.loop-reader-preserved
loop-reader-preserved c = λ n.
    many_more c.args.source.now n (at_tokens (setter_words ∷ import_words ∷ [])) (closed_setting (place_in c.args.source.now)) setting_item [] c.loop-reader.list.items c.closed_setting-list.result.items c.loop-reader.left (c.loop-reader.left - 1) c.looks_at_setting.result c.args.reader.now c.loop-reader.reader c.looks_at_setting.new.self c.closed_setting-list.new.reader (c.loop-reader.invariant n) (omega (arith, c.if-left-eq0.false)) c.loop-reader-test.true c.looks_at_setting.ensures (c.closed_setting-list.ensures n)

pub returns : goal.returns
returns c = λ n. settings_are c.args.source.now n (listed_before setting_item c.loop-reader.list.items no_item) c.args.reader.now c.looks_at_setting.new.self (all_listed c.args.source.now n (at_tokens (setter_words ∷ import_words ∷ [])) (closed_setting (place_in c.args.source.now)) setting_item c.loop-reader.list.items c.args.reader.now c.looks_at_setting.new.self (many_end c.args.source.now n (at_tokens (setter_words ∷ import_words ∷ [])) (closed_setting (place_in c.args.source.now)) setting_item [] c.loop-reader.list.items c.loop-reader.left c.looks_at_setting.result c.args.reader.now c.loop-reader.reader c.looks_at_setting.new.self (c.loop-reader.invariant n) c.loop-reader-test.false c.looks_at_setting.ensures))
