use Rattle.std.proofs.Common.{◌≡◌, List, [], ◌∙◌, ap, subst}
use Rattle.indexmap.specs.IndexSet.{insert_all}
use Rattle.gx_types.specs.declared.item_type.ItemType.{ItemType}
use Rattle.gx_types.specs.Prime.{items_of}
use Rattle.gx_types.specs.SameItemType.{same_item_type}
use Rattle.gx_types.specs.SchemaSet.{SchemaSet}
use Rattle.gx_types.specs.SequenceType.{SequenceType}
use Rattle.gx_closure.specs.Closure.{IsGrown}
use Rattle.gx_steptype.specs.StepType.{child_type, grandchild_kinds}
use Rattle.gx_steptype.proofs.DescendantKinds.{grown_are_descendants}
use Rattle.gx_steptype.proofs.relatives.descendant_kinds.Goals as goal

pub returns : goal.returns
returns c =
    let s = c.args.schemas.now in
    let item = c.args.item.now in
    let children : c.in_ok-children.children ≡ child_type s item = c.in_ok-children.ensures.children ∙ ap (λ (schemas : SchemaSet). child_type schemas item) c.in_ok-derived.ensures in
    let same : c.child_type.new.derived ≡ s = c.in_ok-children.ensures.same ∙ c.in_ok-derived.ensures in
    grown_are_descendants s item c.close-closed.new.found.keys
    (subst (λ (start : List ItemType). IsGrown same_item_type (grandchild_kinds s) start c.close-closed.new.found.keys)
    (c.in_ok-add_items.ensures ∙ ap (λ (kinds : List ItemType). insert_all same_item_type kinds (items_of c.in_ok-children.children)) c.new-found.ensures.empty
    ∙ ap (λ (t : SequenceType). insert_all same_item_type [] (items_of t)) children)
    (subst (λ (schemas : SchemaSet). IsGrown same_item_type (grandchild_kinds schemas) c.add_items.new.found.keys c.close-closed.new.found.keys) same c.in_ok-closed.ensures))
