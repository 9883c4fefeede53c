use Rattle.std.proofs.Common.{arith}
use Rattle.gx_store.proofs.LoadLemmas.{element_added}
use Rattle.gx_store.proofs.OpenedLemmas.{on_ok}
use Rattle.gx_store.proofs.load.push_element.Goals as goal

pub returns-clause-added : goal.returns-clause-added
returns-clause-added c =
    on_ok c.push_attributes.result (λ x. element_added c.number_of.new.self.labels.keys c.push_attributes.new.labels.labels.keys c.args.rows.now.items c.push_row.new.rows.items c.push_attributes.new.rows.items c.args.up c.in_ok-label.label
    c.in_ok-attributes.attributes c.args.name.now c.args.kind.now c.args.list.now.items c.in_ok-label.ensures.number c.push_attributes.ensures.grows (omega (arith, c.in_ok-attributes.ensures, c.len.ensures)) c.in_ok-push_row.ensures x)
    c.push_attributes.ensures.added
