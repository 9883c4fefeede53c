use Rattle.std.proofs.Common.{◌<◌, refl, ◌∙◌, length, arith}
use Rattle.std.proofs.lemmas.List.{get_or_default}
use Rattle.gx_include_takes.proofs.WordSets.{one_united}
use Rattle.gx_include_takes.proofs.bits.unite.Goals as goal

pub loop-word-preserved : goal.loop-word-preserved
loop-word-preserved c =
    let within : c.loop-word.word < length c.loop-word.set.items = omega (arith, c.loop-word-test.true, c.min-count.ensures, c.len.ensures, c.loop-word.invariant.room) in
    one_united c.args.set.now.items c.args.other.now c.loop-word.set.items _ c.loop-word.word c.index.result.now _ within
    (c.index.ensures ∙ get_or_default c.loop-word.set.items c.loop-word.word _ 0 within) refl refl c.loop-word.invariant
