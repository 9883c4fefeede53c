use Rattle.std.proofs.Common.{◌≡◌, ◌++◌, Option, Some, map, ap, ◌∙◌}
use Rattle.std.proofs.lemmas.Result.{err_from_is_err_and}
use Rattle.gx_model.specs.Item.{Items, node}
use Rattle.gx_core.specs.Bindings.{look_up}
use Rattle.gx_core.specs.Meaning.{Context, Bindings}
use Rattle.gx_core.specs.Outcome.{after, given}
use Rattle.gx_core.specs.Paths.{stepped}
use Rattle.gx_store.specs.Items.{items_in}
use Rattle.gx_store.specs.Places.{node_places}
use Rattle.gx_machine.specs.Resume.{Stacks, context_with, resume, items_of, stacks_of}
use Rattle.gx_machine.proofs.LaterItems.{found_items, no_items}
use Rattle.gx_machine.proofs.Resuming.{answer_behind, fails_also, fails_through}
use Rattle.gx_machine.proofs.evaluation.Evaluation.append_step.Goals as goal

pub returns-in_err-found-clause-failed : goal.returns-in_err-found-clause-failed
returns-in_err-found-clause-failed c = λ calls later x.
    let s = c.args.schemas.now in
    let forest = c.args.store.now in
    let xs : Items = items_in later c.as_slice.result.now in
    let bindings : Bindings = items_of later c.args.self.now.scope in
    let found : look_up bindings c.args.number ≡ Some xs = found_items later c.args.self.now.scope c.args.number c.in-Some.bound.now xs c.in-Some.ensures (c.as_slice.ensures later) in
    let p = err_from_is_err_and c.from_residual.result c.from_residual.ensures.1 in
    rw (p.1, p.2)
    (fails_through (given (look_up bindings c.args.number) (λ ys. stepped s c.args.axis c.args.test.now ys forest)) (λ more left. resume (context_with s calls) c.args.self.now.work (items_in later c.args.self.now.values.items ++ more) (stacks_of later c.args.self.now) bindings left) _
    (fails_also _ _ _ (ap (λ (o : Option Items). given o (λ ys. stepped s c.args.axis c.args.test.now ys forest)) found) (c.in_err-found.ensures.failed later x)))

pub returns-clause-value : goal.returns-clause-value
returns-clause-value c = λ calls later x.
    let s = c.args.schemas.now in
    let k : Context = context_with s calls in
    let forest = c.args.store.now in
    let xs : Items = items_in later c.as_slice.result.now in
    let values : Items = items_in later c.args.self.now.values.items in
    let answer : Items = map node (node_places later c.in_ok-found.found.items) in
    let stacks : Stacks = stacks_of later c.args.self.now in
    let bindings : Bindings = items_of later c.args.self.now.scope in
    let found : look_up bindings c.args.number ≡ Some xs = found_items later c.args.self.now.scope c.args.number c.in-Some.bound.now xs c.in-Some.ensures (c.as_slice.ensures later) in
    ap (λ (v : Items). resume k c.args.self.now.work v stacks bindings forest)
    (c.in_ok-append_nodes.ensures later ∙ ap (λ ns. values ++ map node (node_places later ns)) c.as_slice-2.ensures.value)
    ∙ answer_behind (given (look_up bindings c.args.number) (λ ys. stepped s c.args.axis c.args.test.now ys forest)) forest values answer (λ vs left. resume k c.args.self.now.work vs stacks bindings left)
    (ap (λ (o : Option Items). given o (λ ys. stepped s c.args.axis c.args.test.now ys forest)) found ∙ c.in_ok-found.ensures.value later x)

pub returns-in_default-clause-failed : goal.returns-in_default-clause-failed
returns-in_default-clause-failed c = λ calls later x.
    let s = c.args.schemas.now in
    ap (λ (o : Option Items). after (given o (λ ys. stepped s c.args.axis c.args.test.now ys c.args.store.now))
    (λ more left. resume (context_with s calls) c.args.self.now.work (items_in later c.args.self.now.values.items ++ more) (stacks_of later c.args.self.now) (items_of later c.args.self.now.scope) left))
    (no_items later c.args.self.now.scope c.args.number c.in_default.ensures)
