use Rattle.std.proofs.Common.{◌≡◌, ap, sym, ◌∙◌}
use Rattle.std.proofs.lemmas.Result.{err_from_is_err_and}
use Rattle.gx_model.specs.Item.{Items}
use Rattle.gx_core.specs.declared.expression.BinaryClass.{BinaryClass}
use Rattle.gx_core.specs.Outcome.{gives}
use Rattle.gx_core.specs.Meaning.{Context, Bindings, binary_meaning}
use Rattle.gx_joins.specs.JoinedMeaning.{joined_meaning as joined}
use Rattle.gx_store.specs.Items.{items_in}
use Rattle.gx_machine.specs.BoundItems.{hand_items}
use Rattle.gx_machine.specs.Resume.{context_with, items_of}
use Rattle.gx_machine.proofs.Resuming.{both_are, fails_also}
use Rattle.gx_machine.proofs.evaluation.Evaluation.both_at_hand.Goals as goal

pub returns-in_err-of_two-in-Some-2-clause-failed : goal.returns-in_err-of_two-in-Some-2-clause-failed
returns-in_err-of_two-in-Some-2-clause-failed c = λ calls later x.
    let k : Context = context_with c.args.schemas.now calls in
    let forest = c.args.store.now in
    let bindings : Bindings = items_of later c.args.self.now.scope in
    let xs : Items = items_in later c.as_slice.result.now in
    let ys : Items = items_in later c.as_slice-in-Some-2.result.now in
    let e : joined k c.args.left.now bindings forest ≡ gives (hand_items later c.in-Some.first) forest = rw c.in-Some.is at (c.in_ok-first.ensures calls later x) in
    let h : joined k c.args.right.now bindings forest ≡ gives (hand_items later c.in-Some-2.second) forest = rw c.in-Some-2.is at (c.in_ok-second.ensures calls later x) in
    let p = err_from_is_err_and c.from_residual-in_err-of_two-in-Some-2.result c.from_residual-in_err-of_two-in-Some-2.ensures.1 in
    rw (p.1, p.2)
    (fails_also _ _ _
    (both_are k forest c.args.operator (joined k c.args.left.now) (joined k c.args.right.now) xs ys bindings (e ∙ ap (λ (v : Items). gives v forest) (sym (c.as_slice.ensures later))) (h ∙ ap (λ (v : Items). gives v forest) (sym (c.as_slice-in-Some-2.ensures later)))
    ∙ ap (λ (class : BinaryClass). binary_meaning class xs ys forest) (sym c.class.ensures))
    (c.in_err-of_two-in-Some-2.ensures.failed later x))

pub returns-in-Some-2-clause-value : goal.returns-in-Some-2-clause-value
returns-in-Some-2-clause-value c = λ calls later x.
    let k : Context = context_with c.args.schemas.now calls in
    let forest = c.args.store.now in
    let bindings : Bindings = items_of later c.args.self.now.scope in
    let xs : Items = items_in later c.as_slice.result.now in
    let ys : Items = items_in later c.as_slice-in-Some-2.result.now in
    let e : joined k c.args.left.now bindings forest ≡ gives (hand_items later c.in-Some.first) forest = rw c.in-Some.is at (c.in_ok-first.ensures calls later x) in
    let h : joined k c.args.right.now bindings forest ≡ gives (hand_items later c.in-Some-2.second) forest = rw c.in-Some-2.is at (c.in_ok-second.ensures calls later x) in
    both_are k forest c.args.operator (joined k c.args.left.now) (joined k c.args.right.now) xs ys bindings (e ∙ ap (λ (v : Items). gives v forest) (sym (c.as_slice.ensures later))) (h ∙ ap (λ (v : Items). gives v forest) (sym (c.as_slice-in-Some-2.ensures later)))
    ∙ ap (λ (class : BinaryClass). binary_meaning class xs ys forest) (sym c.class.ensures)
    ∙ c.in_ok-of_two-in-Some-2.ensures.value later x
