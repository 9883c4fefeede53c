use Rattle.std.proofs.Common.{sym, ◌∙◌}
use Rattle.gx_xml.proofs.ReturnLemmas.{normal_without_space}
use Rattle.gx_xml.proofs.value.has_other_space.Goals as goal

pub returns : goal.returns
returns c = λ free.
    normal_without_space c.args.text.now c.as_bytes-bytes.result.now c.utf8.text c.as_bytes-bytes.ensures.value (sym c.contains.ensures.value ∙ c.if-contains.false) (sym c.contains-2.ensures.value ∙ c.if-contains-2.false)
    (sym c.contains-3.ensures.value ∙ free)
