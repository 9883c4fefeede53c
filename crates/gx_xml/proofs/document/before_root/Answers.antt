use Rattle.std.proofs.Common.{sym, ◌∙◌}
use Rattle.gx_xml.proofs.DocumentLemmas.{prolog_ends, prolog_stops, prolog_goes_on}
use Rattle.gx_xml.proofs.document.before_root.Goals as goal

pub loop-mark-init : goal.loop-mark-init
loop-mark-init c = λ w after h. h

pub returns-then-has_ended : goal.returns-then-has_ended
returns-then-has_ended c = prolog_stops c.prolog_mark-mark.result c.space.result c.args.reader.now c.loop-mark.reader c.space.new.reader c.prolog_mark-mark.new.self c.loop-mark.invariant c.space.ensures.read c.prolog_mark-mark.ensures.read (c.has_ended.ensures.0 c.if-has_ended.true)

pub returns-then-not-is_misc : goal.returns-then-not-is_misc
returns-then-not-is_misc c = prolog_ends c.prolog_mark-mark.result c.space.result c.args.reader.now c.loop-mark.reader c.space.new.reader c.prolog_mark-mark.new.self c.loop-mark.invariant c.space.ensures.read c.prolog_mark-mark.ensures.read (sym c.is_misc.ensures ∙ c.if-not-is_misc.true)

pub loop-mark-preserved : goal.loop-mark-preserved
loop-mark-preserved c = prolog_goes_on c.prolog_mark-mark.result c.space.result c.args.reader.now c.loop-mark.reader c.space.new.reader c.prolog_mark-mark.new.self c.loop-mark.invariant c.space.ensures.read c.prolog_mark-mark.ensures.read c.misc.new.reader (sym c.is_misc.ensures ∙ c.if-not-is_misc.false) c.misc.ensures.read
