use Rattle.std.proofs.Common.{sym, ◌∙◌}
use Rattle.gx_num.proofs.DecimalForms.{form_parts}
use Rattle.gx_num.proofs.laws.readings_are_unique.Goals as goal

pub returns-clause-decimal : goal.returns-clause-decimal
returns-clause-decimal c = λ text s t v w f g first second.
    let one = form_parts text s v f first in
    let other = form_parts text t w g second in
    (sym one.0 ∙ other.0, sym one.1 ∙ other.1)
