use Rattle.std.proofs.Common.{length, drop, ◌∙◌, ap}
use Rattle.gx_normal.specs.Clauses.{Numbers}
use Rattle.gx_normal.proofs.ParameterScopes.{behind_parameters}
use Rattle.gx_normal.proofs.normalise.declare_function.Goals as goal

pub returns-clause-numbers : goal.returns-clause-numbers
returns-clause-numbers c =
    let parameters = c.as_slice-parameters.result.now in
    c.in_ok-outside.ensures
    ∙ ap (λ (l : Numbers). drop (length parameters) l) (c.in_ok-body.ensures.numbers ∙ c.in_ok-binders.ensures.numbers)
    ∙ behind_parameters parameters c.args.free c.args.numbers
