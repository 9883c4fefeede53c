use Rattle.std.proofs.Common.{refl, arith}
use Rattle.gx_grammar.specs.Sums.{sums, sum_text, sum_fronts}
use Rattle.gx_grammar.proofs.Text.{exact_text}
use Rattle.gx_grammar.proofs.Levels.{never_too_deep}
use Rattle.gx_grammar.proofs.Sums.{sums_readable, sums_levelled}
use Rattle.gx_grammar.proofs.examples.sums_are_read.Goals as goal

pub returns-clause-verdict : goal.returns-clause-verdict
returns-clause-verdict c = λ levels text h. exact_text sums sums_readable.tokens sums_readable.productions sum_text sums_readable.top levels text
    (never_too_deep sums sum_text sums_readable sum_fronts.takings sums_levelled 1 (tt, omega arith) levels text h)

pub returns-clause-cut_word : goal.returns-clause-cut_word
returns-clause-cut_word c = refl

pub returns-clause-other_word : goal.returns-clause-other_word
returns-clause-other_word c = refl

pub returns-clause-run_on : goal.returns-clause-run_on
returns-clause-run_on c = refl

pub returns-clause-no_operand : goal.returns-clause-no_operand
returns-clause-no_operand c = refl

pub returns-clause-open_comment : goal.returns-clause-open_comment
returns-clause-open_comment c = refl

pub returns-clause-parenthesis : goal.returns-clause-parenthesis
returns-clause-parenthesis c = refl
