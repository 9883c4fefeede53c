use Rattle.std.proofs.Common.{refl, arith}
use Rattle.gx_grammar.specs.Limited.{limited, limited_text, limited_fronts}
use Rattle.gx_grammar.proofs.Text.{exact_text}
use Rattle.gx_grammar.proofs.Levels.{never_too_deep}
use Rattle.gx_grammar.proofs.Limited.{limited_readable, limited_levelled}
use Rattle.gx_grammar.proofs.examples.limits_are_met.Goals as goal

pub returns-clause-verdict : goal.returns-clause-verdict
returns-clause-verdict c = λ levels text h. exact_text limited limited_readable.tokens limited_readable.productions limited_text limited_readable.top levels text
    (never_too_deep limited limited_text limited_readable limited_fronts.takings limited_levelled 4 (tt, omega arith) levels text h)

pub returns-clause-too_deep : goal.returns-clause-too_deep
returns-clause-too_deep c = refl

pub returns-clause-too_many : goal.returns-clause-too_many
returns-clause-too_many c = refl

pub returns-clause-too_large : goal.returns-clause-too_large
returns-clause-too_large c = refl

pub returns-clause-not_reached : goal.returns-clause-not_reached
returns-clause-not_reached c = refl

pub returns-clause-nothing_begins : goal.returns-clause-nothing_begins
returns-clause-nothing_begins c = refl

pub returns-clause-no_member : goal.returns-clause-no_member
returns-clause-no_member c = refl
