use Rattle.std.proofs.Common.{◌≡◌, Some, Result, Ok, Err, Bool, IfErr, sym, ◌∙◌}
use Rattle.gx_atomic.proofs.FailingComparisons.{fails_in_one_way}
use Rattle.gx_atomic.specs.declared.casting.CastError.{CastError}
use Rattle.gx_atomic.specs.declared.casting.CastError.TheVariants.{FORG0001}
use Rattle.gx_atomic.specs.Comparison.{general_comparison}
use Rattle.gx_atomic.proofs.comparison.compare_any.Goals as goal

pub returns-clause-fault : goal.returns-clause-fault
returns-clause-fault c = on_error c.in-Some.decision (sym c.try_compare_any.ensures ∙ c.in-Some.is)
  where
    on_error : (decision : Result Bool CastError) → general_comparison c.args.op c.args.a.now c.args.b.now ≡ Some decision → IfErr decision (λ error. error ≡ FORG0001)
    on_error (Ok truth) e = tt
    on_error (Err error) e = fails_in_one_way c.args.op c.args.a.now c.args.b.now error e
