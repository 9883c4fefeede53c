use Rattle.std.proofs.Common.{rules, ◌+◌, ◌/◌, refl, length}
use Rattle.gx_include_takes.proofs.WordSets.{none_packed, one_packed, all_packed}
use Rattle.gx_include_takes.proofs.bits.packed.Goals as goal

pub loop-number-init : goal.loop-number-init
loop-number-init c = none_packed c.args.flags.now c.in_ok-set.set.items (length c.args.flags.now / 64 + 1) (search rules) refl

pub loop-number-preserved : goal.loop-number-preserved
loop-number-preserved c = one_packed c.args.flags.now c.loop-number.set.items _ c.loop-number.number _ refl c.insert_if.ensures.room c.insert_if.ensures.bits c.loop-number.invariant

pub returns : goal.returns
returns c = all_packed c.args.flags.now c.loop-number.set.items c.loop-number.number c.loop-number-test.false c.loop-number.invariant
