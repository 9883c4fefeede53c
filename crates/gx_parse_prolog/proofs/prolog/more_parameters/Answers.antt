use Rattle.std.proofs.Common.{◌-◌, ◌∷◌, [], arith}
use Rattle.gx_grammar.specs.Value.{no_item}
use Rattle.gx_parse_grammar.specs.Grammar.{place_in, word_of, at_tokens}
use Rattle.gx_parse_grammar.specs.declared.word.Word.TheVariants as word
use Rattle.gx_parse_prolog.proofs.PrologPhrases.{more_parameters_are}
use Rattle.gx_parse_parts.proofs.Repeated.{many_begin, many_full, many_more, many_end}
use Rattle.gx_parse_parts.specs.Repeated.{listed_before}
use Rattle.gx_parse_prolog.specs.PrologParts.{further_parameter, parameter_item}
use Rattle.gx_parse_prolog.proofs.prolog.more_parameters.Goals as goal

pub loop-reader-init : goal.loop-reader-init
loop-reader-init c = λ n. many_begin c.args.source.now n (at_tokens (word_of word.Comma ∷ [])) (further_parameter (place_in c.args.source.now)) parameter_item c.args.parameters.items c.left-left.result c.args.reader.now c.left-left.ensures

pub returns-then-left-eq0 : goal.returns-then-left-eq0
returns-then-left-eq0 c = λ n.
    let m = many_full c.args.source.now n (at_tokens (word_of word.Comma ∷ [])) (further_parameter (place_in c.args.source.now)) parameter_item c.args.parameters.items c.loop-reader.list.items c.further_parameter-list.result.items c.loop-reader.left c.looks_at.result c.args.reader.now c.loop-reader.reader c.looks_at.new.self c.further_parameter-list.new.reader (c.loop-reader.invariant n) c.if-left-eq0.true c.loop-reader-test.true c.looks_at.ensures (c.further_parameter-list.ensures n) in
    record { others = m.others; is = m.is; holds = more_parameters_are c.args.source.now n (listed_before parameter_item m.others no_item) c.args.reader.now c.further_parameter-list.new.reader m.holds }

pub loop-reader-preserved : goal.loop-reader-preserved
loop-reader-preserved c = λ n.
    many_more c.args.source.now n (at_tokens (word_of word.Comma ∷ [])) (further_parameter (place_in c.args.source.now)) parameter_item c.args.parameters.items c.loop-reader.list.items c.further_parameter-list.result.items c.loop-reader.left (c.loop-reader.left - 1) c.looks_at.result c.args.reader.now c.loop-reader.reader c.looks_at.new.self c.further_parameter-list.new.reader (c.loop-reader.invariant n) (omega (arith, c.if-left-eq0.false)) c.loop-reader-test.true c.looks_at.ensures (c.further_parameter-list.ensures n)

pub returns : goal.returns
returns c = λ n.
    let m = many_end c.args.source.now n (at_tokens (word_of word.Comma ∷ [])) (further_parameter (place_in c.args.source.now)) parameter_item c.args.parameters.items c.loop-reader.list.items c.loop-reader.left c.looks_at.result c.args.reader.now c.loop-reader.reader c.looks_at.new.self (c.loop-reader.invariant n) c.loop-reader-test.false c.looks_at.ensures in
    record { others = m.others; is = m.is; holds = more_parameters_are c.args.source.now n (listed_before parameter_item m.others no_item) c.args.reader.now c.looks_at.new.self m.holds }
