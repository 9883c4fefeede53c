use Rattle.std.proofs.Common.{◌≡◌, List, sym, ◌∙◌, ap, subst}
use Rattle.indexmap.specs.IndexSet.{insert_all, insert_key}
use Rattle.gx_base.specs.declared.type_name.TypeName.{TypeName}
use Rattle.gx_types.specs.declared.item_type.ItemType.{ItemType}
use Rattle.gx_types.specs.Prime.{items_of}
use Rattle.gx_types.specs.SameItemType.{same_item_type, same_type_name}
use Rattle.gx_types.specs.SchemaSet.{SchemaSet}
use Rattle.gx_steptype.specs.Descent.{ArePut}
use Rattle.gx_steptype.specs.StepType.{child_content}
use Rattle.gx_steptype.proofs.AskedTypes.{asked_before, one_more_asked, member_as_asked, put_as_asked}
use Rattle.gx_steptype.proofs.relatives.add_children.Goals as goal

pub returns-then-contains-clause-added : goal.returns-then-contains-clause-added
returns-then-contains-clause-added c =
    subst (λ (s : SchemaSet). c.args.found.now.keys ≡ insert_all same_item_type c.args.found.now.keys (items_of (child_content s c.args.kind.now))) c.schemas.ensures
    (asked_before c.schemas.result.now c.types-types.ensures.invariant c.args.known.now.keys c.args.found.now.keys c.args.kind.now
    (subst (λ (s : SchemaSet). ArePut s c.args.known.now.keys c.args.found.now.keys) (sym c.schemas.ensures) c.requires) (sym (member_as_asked c.args.known.now.keys c.args.kind.now) ∙ sym c.contains.ensures ∙ c.if-contains.true))

pub returns-clause-put : goal.returns-clause-put
returns-clause-put c =
    let s = c.args.derived.now in
    let asked = c.args.known.now.keys in
    let found = c.args.found.now.keys in
    let kind = c.args.kind.now in
    let put : c.add_items.new.found.keys ≡ insert_all same_item_type found (items_of (child_content s kind)) =
    c.in_ok-add_items.ensures ∙ ap (λ t. insert_all same_item_type found (items_of t)) c.in_ok-content.ensures.content in
    let key : c.insert.new.self.keys ≡ insert_key same_type_name asked kind = c.in_ok-insert.ensures.keys ∙ put_as_asked asked c.in_ok-clone.field-0 ∙ ap (insert_key same_type_name asked) c.in_ok-clone.ensures.cases in
    subst (λ (ks : List TypeName). ArePut s ks c.add_items.new.found.keys) (sym key)
    (subst (λ (fs : List ItemType). ArePut s (insert_key same_type_name asked kind) fs) (sym put) (one_more_asked s asked found kind c.requires))
