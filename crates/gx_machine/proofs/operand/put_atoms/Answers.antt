use Rattle.std.proofs.Common.{◌≡◌, ◌++◌, ◌∷◌, [], List, get_or, take, ap, sym, ◌∙◌, append_assoc}
use Rattle.std.proofs.lemmas.List.{take_all, map_more}
use Rattle.gx_facets.specs.declared.Atomic.{Atomic}
use Rattle.gx_model.specs.Item.{Items, atom, atoms}
use Rattle.gx_store.specs.Items.{items_in}
use Rattle.gx_machine.proofs.operand.put_atoms.Goals as goal

pub loop-value-preserved : goal.loop-value-preserved
loop-value-preserved c = λ later.
    let added : List Atomic = c.args.added.now in
    let i = c.loop-value.value-index in
    let before : Items = items_in later c.args.values.now.items in
    let value : Atomic = c.in_ok-clone.field-0 in
    let is : value ≡ get_or added i c.value-item.result = c.in_ok-clone.ensures.cases ∙ c.value-item.is in
    c.in_ok-push_atom.ensures later
    ∙ ap (λ (xs : Items). xs ++ atom value ∷ []) (c.loop-value.invariant later)
    ∙ append_assoc before (atoms (take i added)) (atom value ∷ [])
    ∙ ap (λ (a : Atomic). before ++ (atoms (take i added) ++ atom a ∷ [])) is
    ∙ ap (λ (xs : Items). before ++ xs) (sym (map_more atom added i c.value-item.result c.loop-value-test.true))

pub returns : goal.returns
returns c = λ later.
    c.loop-value.invariant later ∙ ap (λ (values : List Atomic). items_in later c.args.values.now.items ++ atoms values) (take_all c.loop-value.value-index c.args.added.now c.loop-value-test.false)
