use Rattle.std.proofs.Common.{ap, ◌∙◌, arith}
use Rattle.std.specs.Str.{chars}
use Rattle.std.proofs.lemmas.Result.{IfOk-weaker}
use Rattle.gx_serial.proofs.BindingLemmas.{chars-numbered_prefix}
use Rattle.gx_serial.proofs.prefix.numbered_prefix.Goals as goal

pub returns : goal.returns
returns c =
    IfOk-weaker c.from_str.result _ _
    (λ t e. e ∙ ap chars (cc (c.as_str.ensures.value, c.in_ok-text.ensures.ok)) ∙ chars-numbered_prefix c.args.number (omega arith))
    c.from_str.ensures
