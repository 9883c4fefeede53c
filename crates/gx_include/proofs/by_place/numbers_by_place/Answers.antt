use Rattle.gx_include.proofs.PlacedLetters.{by_place_more, all_by_place}
use Rattle.gx_include.proofs.by_place.numbers_by_place.Goals as goal

pub loop-number-preserved : goal.loop-number-preserved
loop-number-preserved c =
    by_place_more c.args.letters.now c.loop-number.numbers.items c.add_number.new.table.items c.loop-number.number c.index-letters-number.result c.index-letters-number.is c.loop-number.invariant
    c.in_ok-add_number.ensures

pub returns : goal.returns
returns c = all_by_place c.args.letters.now c.loop-number.numbers.items c.loop-number.number c.loop-number-test.false c.loop-number.invariant
