use Rattle.std.proofs.Common.{List, [], ◌∷◌, ◌++◌, ap, ◌∙◌, subst}
use Rattle.gx_tree.specs.declared.attribute.Attribute.{Attribute}
use Rattle.gx_nodes.specs.Entries.{entry_in}
use Rattle.gx_store.specs.declared.row.Form.{Form}
use Rattle.gx_store.specs.Stored.{FitsForm}
use Rattle.gx_store.proofs.CopyLemmas.{attribute_among}
use Rattle.gx_store.proofs.store.Store.push_attribute.Goals as goal

pub returns-in_ok-push : goal.returns-in_ok-push
returns-in_ok-push c =
    let tree = (entry_in c.args.self.now c.args.node.number).tree in
    c.in_ok-push.ensures.items
    ∙ ap (λ (l : List Attribute). l ++ c.in_ok-attribute.field-0 ∷ []) c.make_room.ensures
    ∙ ap (λ (l : List Attribute). c.args.list.now.items ++ l)
    (attribute_among c.args.annotations c.in-Attribute.label c.in-Attribute.value c.label_of.result.now tree c.in_ok-attribute.field-0 (subst (λ (form : Form). FitsForm form tree) c.in-Attribute.is c.in-Some.ensures.form) c.label_of.ensures
    c.in_ok-attribute.ensures)
