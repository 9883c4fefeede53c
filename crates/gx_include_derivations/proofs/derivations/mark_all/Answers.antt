use Rattle.std.proofs.Common.{true, false, refl, sym, ◌∙◌, get_or, arith}
use Rattle.gx_include_derivations.proofs.Asked.{none_marked, one_marked, or_true}
use Rattle.gx_include_derivations.proofs.derivations.mark_all.Goals as goal

pub loop-number-init : goal.loop-number-init
loop-number-init c = none_marked c.args.flags.now.items (λ n. true)

pub loop-number-preserved : goal.loop-number-preserved
loop-number-preserved c =
    one_marked c.args.flags.now.items c.loop-number.flags.items _ (λ n. true) c.loop-number.number true (omega (arith, c.len-number-end.ensures, c.loop-number.invariant.count_is))
    (or_true (get_or c.loop-number.flags.items c.loop-number.number false)) refl c.loop-number.invariant

pub returns-clause-flags : goal.returns-clause-flags
returns-clause-flags c = λ n h. c.loop-number.invariant.done n (omega (arith, h, c.len-number-end.ensures)) ∙ sym (or_true (get_or c.args.flags.now.items n false))
