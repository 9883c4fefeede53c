use Rattle.std.proofs.Common.{ap, ◌∙◌, nat_eq, length}
use Rattle.gx_base.proofs.TextLemmas.{empty_string}
use Rattle.gx_xml.proofs.children.is_empty.Goals as goal

pub returns : goal.returns
returns c = empty_string c.args.text.now c.is_empty.result (c.is_empty.ensures ∙ ap (λ bs. nat_eq (length bs) 0) c.as_str.ensures.value)
