use Rattle.std.proofs.Common.{◌-◌, arith}
use Rattle.gx_parse_constructors.proofs.StringsPhrases.{parts_begin, parts_end, parts_more, parts_full}
use Rattle.gx_parse_constructors.proofs.strings.parts.Goals as goal

pub loop-quote-init : goal.loop-quote-init
loop-quote-init c = parts_begin c.args.quote c.args.text.now c.args.reader.now c.left-left.result c.left-left.ensures

pub returns-then-left-eq0 : goal.returns-then-left-eq0
returns-then-left-eq0 c =
    parts_full c.args.quote c.args.text.now c.loop-quote.text c.part.new.text c.loop-quote.left c.looks_at_part.result c.args.reader.now c.loop-quote.reader c.looks_at_part.new.self c.part.new.reader
    c.loop-quote.invariant c.if-left-eq0.true c.loop-quote-test.true c.looks_at_part.ensures c.part.ensures

pub loop-quote-preserved : goal.loop-quote-preserved
loop-quote-preserved c =
    parts_more c.args.quote c.args.text.now c.loop-quote.text c.part.new.text c.loop-quote.left (c.loop-quote.left - 1) c.looks_at_part.result c.args.reader.now c.loop-quote.reader c.looks_at_part.new.self c.part.new.reader
    c.loop-quote.invariant (omega (arith, c.if-left-eq0.false)) c.loop-quote-test.true c.looks_at_part.ensures c.part.ensures

pub returns : goal.returns
returns c =
    parts_end c.args.quote c.args.text.now c.loop-quote.text c.loop-quote.left c.looks_at_part.result c.args.reader.now c.loop-quote.reader c.looks_at_part.new.self
    c.loop-quote.invariant c.loop-quote-test.false c.looks_at_part.ensures
