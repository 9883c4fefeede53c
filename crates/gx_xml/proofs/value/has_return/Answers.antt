use Rattle.std.proofs.Common.{sym, ◌∙◌}
use Rattle.gx_xml.proofs.ReturnLemmas.{normal_without_return}
use Rattle.gx_xml.proofs.value.has_return.Goals as goal

pub returns : goal.returns
returns c = λ free. normal_without_return c.args.text.now c.as_bytes.result.now c.utf8.text c.as_bytes.ensures.value (sym c.contains.ensures.value ∙ free)
