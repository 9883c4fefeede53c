use Rattle.std.proofs.Common.{◌≡◌, Option, Some, ap, ◌∙◌}
use Rattle.gx_model.specs.Item.{Items}
use Rattle.gx_core.specs.Bindings.{look_up}
use Rattle.gx_core.specs.Meaning.{Bindings}
use Rattle.gx_core.specs.Outcome.{gives, given}
use Rattle.gx_store.specs.Items.{items_in}
use Rattle.gx_machine.specs.Resume.{Stacks, resume, items_of, stacks_of}
use Rattle.gx_machine.proofs.LaterItems.{found_items, no_items}
use Rattle.gx_machine.proofs.Resuming.{answer_behind, none_is_bound}
use Rattle.gx_machine.proofs.evaluation.Evaluation.append_variable.Goals as goal

pub returns-in_ok-append_all-in-Some-clause-value : goal.returns-in_ok-append_all-in-Some-clause-value
returns-in_ok-append_all-in-Some-clause-value c = λ k forest later.
    let xs : Items = items_in later c.as_slice.result.now in
    let stacks : Stacks = stacks_of later c.args.self.now in
    let bindings : Bindings = items_of later c.args.self.now.scope in
    let found : look_up bindings c.args.number ≡ Some xs = found_items later c.args.self.now.scope c.args.number c.in-Some.bound.now xs c.in-Some.ensures (c.as_slice.ensures later) in
    ap (λ (v : Items). resume k c.args.self.now.work v stacks bindings forest) (c.in_ok-append_all-in-Some.ensures later)
    ∙ answer_behind (given (look_up bindings c.args.number) (λ ys. gives ys forest)) forest (items_in later c.args.self.now.values.items) xs
    (λ vs left. resume k c.args.self.now.work vs stacks bindings left) (ap (λ (o : Option Items). given o (λ ys. gives ys forest)) found)

pub returns-in-None-clause-failed : goal.returns-in-None-clause-failed
returns-in-None-clause-failed c = λ k forest later.
    none_is_bound (look_up (items_of later c.args.self.now.scope) c.args.number) forest _ (no_items later c.args.self.now.scope c.args.number c.in-None.ensures)
