use Rattle.std.proofs.Common.{◌≡◌, List, ℕ, ◌++◌, sym, ap, ◌∙◌, subst, append_assoc}
use Rattle.std.specs.Prelude.{IfOk}
use Rattle.gx_model.proofs.ListLemmas.{append_none}
use Rattle.gx_store.specs.declared.number.NodeId.{NodeId}
use Rattle.gx_store.specs.Stored.{own_text_in, own_texts_in}
use Rattle.gx_store.proofs.TextLemmas.{texts_all, string_later}
use Rattle.gx_store.proofs.store.Store.string_value.Goals as goal

pub loop-below-init : goal.loop-below-init
loop-below-init c =
    let f = c.args.self.now in
    let n = c.args.node.number in
    ap (λ (v : List ℕ). v ++ own_texts_in f c.into_iter-below-iterator.result) (c.in_ok-push_own_text.ensures ∙ ap (λ (z : List ℕ). z ++ own_text_in f n) c.new-value.ensures)
    ∙ ap (λ (ms : List NodeId). own_text_in f n ++ own_texts_in f ms) (c.into_iter-below-iterator.ensures.into_iter_gives ∙ c.descendants_of-below-items.ensures)
    ∙ texts_all f n

pub loop-below-preserved : goal.loop-below-preserved
loop-below-preserved c =
    let f = c.args.self.now in
    ap (λ (v : List ℕ). v ++ own_texts_in f c.next.new.self) c.in_ok-push_own_text-2.ensures
    ∙ append_assoc c.loop-below.value (own_text_in f c.in-Some.below.number) (own_texts_in f c.next.new.self)
    ∙ ap (λ (ms : List NodeId). c.loop-below.value ++ own_texts_in f ms) (sym c.in-Some.ensures.steps)
    ∙ c.loop-below.invariant

pub returns : goal.returns
returns c later x =
    let f = c.args.self.now in
    let whole = sym (append_none c.loop-below.value) ∙ ap (λ (ms : List NodeId). c.loop-below.value ++ own_texts_in f ms) (sym c.in-None.ensures.steps.0) ∙ c.loop-below.invariant
    ∙ string_later f later c.args.node.number x in
    subst (λ (z : List ℕ). IfOk c.finish.result (λ t. t ≡ z)) whole c.finish.ensures
