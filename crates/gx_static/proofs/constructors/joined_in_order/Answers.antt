use Rattle.std.proofs.Common.{List, sym, ap, ◌∙◌}
use Rattle.gx_types.specs.SequenceType.{SequenceType}
use Rattle.gx_static.proofs.ConstructorLemmas.{joined_before, all_joined_before, last_joined}
use Rattle.gx_static.proofs.constructors.joined_in_order.Goals as goal

pub loop-last-init : goal.loop-last-init
loop-last-init c = ap (joined_before c.args.parts.now) c.empty-joined.ensures ∙ all_joined_before c.args.parts.now

pub loop-last-preserved : goal.loop-last-preserved
loop-last-preserved c =
    ap (joined_before c.in-Some.front.now) c.in_ok-joined.ensures
    ∙ sym (last_joined c.in-Some.front.now c.in-Some.last.now c.loop-last.joined)
    ∙ ap (λ (ts : List SequenceType). joined_before ts c.loop-last.joined) (sym c.in-Some.ensures.cases.0)
    ∙ c.loop-last.invariant
