use Rattle.gx_rule_laws.proofs.QuietExpressions.{quiet_expressions_have_values}
use Rattle.gx_rule_laws.proofs.laws.quiet_expressions_have_values.Goals as goal

pub returns : goal.returns
returns c = quiet_expressions_have_values
