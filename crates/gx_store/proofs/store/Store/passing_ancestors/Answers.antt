use Rattle.std.proofs.Common.{filter, ap, ◌∙◌}
use Rattle.gx_store.specs.Places.{passes_on}
use Rattle.gx_store.proofs.store.Store.passing_ancestors.Goals as goal

pub returns : goal.returns
returns c later x = c.keep_passing.ensures later x ∙ ap (filter (passes_on c.args.schemas.now c.args.self.now c.args.axis c.args.test.now)) (c.in_ok-found.ensures later x)
