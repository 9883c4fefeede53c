use Rattle.std.proofs.Common.{sym, ◌∙◌}
use Rattle.gx_xml.proofs.DocumentLemmas.{epilog_ends, epilog_goes_on}
use Rattle.gx_xml.proofs.document.behind_root.Goals as goal

pub loop-mark-init : goal.loop-mark-init
loop-mark-init c = λ w after h. h

pub returns-then-not-is_misc : goal.returns-then-not-is_misc
returns-then-not-is_misc c = epilog_ends c.maybe_choice-mark.result c.space.result c.args.reader.now c.loop-mark.reader c.space.new.reader c.maybe_choice-mark.new.self c.loop-mark.invariant c.space.ensures.read c.maybe_choice-mark.ensures.read (sym c.is_misc.ensures ∙ c.if-not-is_misc.true)

pub loop-mark-preserved : goal.loop-mark-preserved
loop-mark-preserved c = epilog_goes_on c.maybe_choice-mark.result c.space.result c.args.reader.now c.loop-mark.reader c.space.new.reader c.maybe_choice-mark.new.self c.loop-mark.invariant c.space.ensures.read c.maybe_choice-mark.ensures.read c.misc.new.reader (sym c.is_misc.ensures ∙ c.if-not-is_misc.false) c.misc.ensures.read
