use Rattle.std.proofs.Common.{◌+◌, refl, drop, get_or}
use Rattle.gx_include_followers.specs.NumberSet.{flagged}
use Rattle.gx_include.proofs.Looking.{look_by, look_ends, number_within, next_number, no_number}
use Rattle.gx_include.proofs.walk.look.Goals as goal

pub follow-requires : goal.follow-requires
follow-requires c =
    number_within c.args.numbers.now c.args.letters.now c.members-number-items.result.now c.loop-number.number-index c.members-number-items.ensures c.requires.count c.loop-number-test.true

pub loop-number-preserved : goal.loop-number-preserved
loop-number-preserved c = λ a b old begun.
    look_by a b c.args.letters.now old c.args.at c.args.left.now c.args.right.now c.args.numbers.now c.requires.has c.requires.count c.loop-number.pairs.keys c.loop-number.origins.items
    (drop c.loop-number.number-index (flagged c.args.numbers.now)) (c.loop-number.invariant a b old begun) (get_or c.members-number-items.result.now c.loop-number.number-index 0)
    (drop (c.loop-number.number-index + 1) (flagged c.args.numbers.now)) (record { from = c.args.at; letter = get_or c.members-number-items.result.now c.loop-number.number-index 0 }) c.follow.new.pairs.keys
    c.follow.new.origins.items (next_number c.members-number-items.result.now (flagged c.args.numbers.now) c.loop-number.number-index c.members-number-items.ensures c.loop-number-test.true) refl refl
    c.in_ok-follow.ensures

pub returns : goal.returns
returns c = λ a b old begun.
    look_ends a b c.args.letters.now old c.args.at c.args.left.now c.args.right.now c.args.numbers.now c.requires.has c.requires.count c.loop-number.pairs.keys c.loop-number.origins.items
    (drop c.loop-number.number-index (flagged c.args.numbers.now)) (c.loop-number.invariant a b old begun)
    (no_number c.members-number-items.result.now (flagged c.args.numbers.now) c.loop-number.number-index c.members-number-items.ensures c.loop-number-test.false)
