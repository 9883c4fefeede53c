use Rattle.std.proofs.Common.{subst}
use Rattle.gx_nodes.specs.Entries.{entry_in}
use Rattle.gx_store.specs.declared.row.Form.{Form}
use Rattle.gx_store.specs.Stored.{FitsForm}
use Rattle.gx_store.proofs.CopyLemmas.{all_copied, document_done, element_done, attribute_done}
use Rattle.gx_store.proofs.store.Store.end.Goals as goal

pub returns-in-Document : goal.returns-in-Document
returns-in-Document c =
    let here = c.args.here in
    let tree = (entry_in c.args.self.now here.node.number).tree in
    document_done c.args.annotations tree here.copied.items (subst (λ (form : Form). FitsForm form tree) c.in-Document.is c.form.ensures) (all_copied c.args.annotations c.args.self.now here c.requires.copying c.requires.all)

pub returns-in_ok-own_attributes-in-Element : goal.returns-in_ok-own_attributes-in-Element
returns-in_ok-own_attributes-in-Element c =
    let here = c.args.here in
    let tree = (entry_in c.args.self.now here.node.number).tree in
    element_done c.args.annotations c.in-Element.label c.in-Element.attributes c.label_of-label.result.now tree c.in_ok-clone-in-Element.field-0 c.in_ok-kind_of_copy-in-Element.field-0 c.in_ok-own_attributes-in-Element.field-0.items
    here.copied.items (subst (λ (form : Form). FitsForm form tree) c.in-Element.is c.form.ensures) c.label_of-label.ensures c.in_ok-clone-in-Element.ensures.cases c.in_ok-kind_of_copy-in-Element.ensures
    c.in_ok-own_attributes-in-Element.ensures (all_copied c.args.annotations c.args.self.now here c.requires.copying c.requires.all)

pub returns-in_ok-attribute-in-Attribute : goal.returns-in_ok-attribute-in-Attribute
returns-in_ok-attribute-in-Attribute c =
    let tree = (entry_in c.args.self.now c.args.here.node.number).tree in
    attribute_done c.args.annotations c.in-Attribute.label c.in-Attribute.value c.label_of.result.now tree c.in_ok-attribute-in-Attribute.field-0 (subst (λ (form : Form). FitsForm form tree) c.in-Attribute.is c.form.ensures)
    c.label_of.ensures c.in_ok-attribute-in-Attribute.ensures
