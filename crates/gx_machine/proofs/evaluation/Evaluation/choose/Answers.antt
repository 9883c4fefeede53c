use Rattle.std.proofs.Common.{◌≡◌, ◌∷◌, Bool, true, false, List, Some, drop, ap, sym, ◌∙◌}
use Rattle.gx_model.specs.Item.{Items}
use Rattle.gx_core.specs.Comparing.{condition_of}
use Rattle.gx_core.specs.Meaning.{Bindings}
use Rattle.gx_joins.specs.JoinedMeaning.{joined_meaning as joined}
use Rattle.gx_store.specs.Items.{items_in}
use Rattle.gx_machine.specs.declared.evaluation.Pending.{Pending}
use Rattle.gx_machine.specs.declared.evaluation.Pending.TheVariants.{Evaluate}
use Rattle.gx_machine.specs.Resume.{Stacks, resume, items_of, stacks_of}
use Rattle.gx_machine.proofs.Resuming.{none_is_chosen, chosen_is}
use Rattle.gx_machine.proofs.evaluation.Evaluation.choose.Goals as goal

pub returns-in_default-clause-failed : goal.returns-in_default-clause-failed
returns-in_default-clause-failed c = λ k forest later.
    none_is_chosen (items_in later c.args.self.now.values.items) c.args.first _ (ap condition_of (sym (c.values_from-condition.ensures later)) ∙ sym (c.condition_of.ensures later) ∙ c.in_default.is)

pub returns-in_ok-push-clause-value : goal.returns-in_ok-push-clause-value
returns-in_ok-push-clause-value c = λ k forest later.
    let values : Items = items_in later c.args.self.now.values.items in
    let stacks : Stacks = stacks_of later c.args.self.now in
    let bindings : Bindings = items_of later c.args.self.now.scope in
    let truth : condition_of (drop c.args.first values) ≡ Some true =
    ap condition_of (sym (c.values_from-condition.ensures later)) ∙ sym (c.condition_of.ensures later) ∙ c.in-Some.is ∙ ap (λ (b : Bool). Some b) c.if-truth.true in
    ap (λ (work : List Pending). resume k work (items_in later c.cut_off.new.values.items) stacks bindings forest) c.in_ok-push.ensures.ok
    ∙ ap (λ (v : Items). resume k (Evaluate c.args.chosen ∷ c.args.self.now.work) v stacks bindings forest) (c.cut_off.ensures later)
    ∙ chosen_is k forest (joined k c.args.chosen.now) (joined k c.args.otherwise.now) c.args.self.now.work values c.args.first stacks bindings true truth

pub returns-in_ok-push-2-clause-value : goal.returns-in_ok-push-2-clause-value
returns-in_ok-push-2-clause-value c = λ k forest later.
    let values : Items = items_in later c.args.self.now.values.items in
    let stacks : Stacks = stacks_of later c.args.self.now in
    let bindings : Bindings = items_of later c.args.self.now.scope in
    let truth : condition_of (drop c.args.first values) ≡ Some false =
    ap condition_of (sym (c.values_from-condition.ensures later)) ∙ sym (c.condition_of.ensures later) ∙ c.in-Some.is ∙ ap (λ (b : Bool). Some b) c.if-truth.false in
    ap (λ (work : List Pending). resume k work (items_in later c.cut_off.new.values.items) stacks bindings forest) c.in_ok-push-2.ensures.ok
    ∙ ap (λ (v : Items). resume k (Evaluate c.args.otherwise ∷ c.args.self.now.work) v stacks bindings forest) (c.cut_off.ensures later)
    ∙ chosen_is k forest (joined k c.args.chosen.now) (joined k c.args.otherwise.now) c.args.self.now.work values c.args.first stacks bindings false truth
