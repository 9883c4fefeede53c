use Rattle.std.proofs.Common.{refl}
use Rattle.gx_include_letters.proofs.Columns.{letters_more, letters_end}
use Rattle.gx_include_letters.proofs.alphabet.add_letters.Goals as goal

pub loop-place-preserved : goal.loop-place-preserved
loop-place-preserved c =
    letters_more c.args.shape.now c.args.taking.now c.args.takers.now c.members-place-items.result.now c.loop-place.place-index _ c.args.columns.now.items c.loop-place.columns.items
    c.add_letter.new.columns.items c.members-place-items.ensures c.loop-place-test.true refl c.loop-place.invariant c.in_ok-add_letter.ensures

pub returns : goal.returns
returns c =
    letters_end c.args.shape.now c.args.taking.now c.args.takers.now c.members-place-items.result.now c.loop-place.place-index c.args.columns.now.items c.loop-place.columns.items c.members-place-items.ensures
    c.loop-place-test.false c.loop-place.invariant
