use Rattle.std.proofs.Common.{◌<◌, refl, ◌∙◌, length, arith}
use Rattle.std.proofs.lemmas.List.{get_or_default}
use Rattle.gx_include_takes.proofs.WordSets.{none_met, one_met, all_met}
use Rattle.gx_include_takes.proofs.bits.intersect.Goals as goal

pub loop-word-init : goal.loop-word-init
loop-word-init c = none_met c.args.set.now.items c.args.other.now

pub loop-word-preserved : goal.loop-word-preserved
loop-word-preserved c =
    let within : c.loop-word.word < length c.loop-word.set.items = omega (arith, c.loop-word-test.true, c.len-word-end.ensures, c.loop-word.invariant.room) in
    one_met c.args.set.now.items c.args.other.now c.loop-word.set.items _ c.loop-word.word c.index.result.now c.word_at.result within
    (c.index.ensures ∙ get_or_default c.loop-word.set.items c.loop-word.word _ 0 within) c.word_at.ensures refl c.loop-word.invariant

pub returns : goal.returns
returns c = all_met c.args.set.now.items c.args.other.now c.loop-word.set.items c.loop-word.word (omega (arith, c.loop-word-test.false, c.len-word-end.ensures)) c.loop-word.invariant
