use Rattle.std.proofs.Common.{false, ◌||◌, refl, ◌∙◌, ap, get_or, arith}
use Rattle.std.proofs.lemmas.List.{get_or_default}
use Rattle.gx_include_derivations.specs.Derivations.{is_derived_at}
use Rattle.gx_include_derivations.proofs.Asked.{none_marked, one_marked}
use Rattle.gx_include_derivations.proofs.derivations.Derivations.mark_derived.Goals as goal

pub loop-number-init : goal.loop-number-init
loop-number-init c = none_marked c.args.flags.now.items (λ n. is_derived_at c.args.self.now c.args.kind.now n)

pub loop-number-preserved : goal.loop-number-preserved
loop-number-preserved c =
    one_marked c.args.flags.now.items c.loop-number.flags.items _ (λ n. is_derived_at c.args.self.now c.args.kind.now n) c.loop-number.number _
    (omega (arith, c.len-number-end.ensures, c.loop-number.invariant.count_is))
    (ap (λ b. b || c.is_derived_at.result) (c.index.ensures ∙ get_or_default c.loop-number.flags.items c.loop-number.number _ false (omega (arith, c.len-number-end.ensures, c.loop-number.invariant.count_is)))
    ∙ ap (λ b. get_or c.loop-number.flags.items c.loop-number.number false || b) c.is_derived_at.ensures)
    refl c.loop-number.invariant

pub returns-clause-flags : goal.returns-clause-flags
returns-clause-flags c = λ n h. c.loop-number.invariant.done n (omega (arith, h, c.len-number-end.ensures))
