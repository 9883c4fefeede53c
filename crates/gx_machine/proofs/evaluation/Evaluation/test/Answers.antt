use Rattle.std.proofs.Common.{◌≡◌, ◌∷◌, true, false, List, Some, take, drop, ap, sym, ◌∙◌}
use Rattle.gx_model.specs.Item.{Items}
use Rattle.gx_core.specs.Comparing.{condition_of}
use Rattle.gx_core.specs.Meaning.{Bindings}
use Rattle.gx_store.specs.Items.{items_in}
use Rattle.gx_machine.specs.declared.blocks.BlockWork.TheVariants.{Walk}
use Rattle.gx_machine.specs.declared.evaluation.Pending.{Pending}
use Rattle.gx_machine.specs.declared.evaluation.Pending.TheVariants.{Block}
use Rattle.gx_machine.specs.FoundTuples.{walked}
use Rattle.gx_machine.specs.Resume.{Stacks, resume, items_of, stacks_of}
use Rattle.gx_machine.proofs.Resuming.{none_is_chosen}
use Rattle.gx_machine.proofs.BlockResuming.{with_more, condition_holds, condition_fails}
use Rattle.gx_machine.proofs.evaluation.Evaluation.test.Goals as goal

pub returns-in_default-clause-failed : goal.returns-in_default-clause-failed
returns-in_default-clause-failed c = λ k forest later.
    none_is_chosen (items_in later c.args.self.now.values.items) c.args.first _ (ap condition_of (sym (c.values_from-condition.ensures later)) ∙ sym (c.condition_of.ensures later) ∙ c.in_default.is)

pub returns-in_ok-push-clause-value : goal.returns-in_ok-push-clause-value
returns-in_ok-push-clause-value c = λ k forest later.
    let values : Items = items_in later c.args.self.now.values.items in
    let stacks : Stacks = stacks_of later c.args.self.now in
    let bindings : Bindings = items_of later c.args.self.now.scope in
    let work : List Pending = c.args.self.now.work in
    let holds : condition_of (drop c.args.first values) ≡ Some true = ap condition_of (sym (c.values_from-condition.ensures later)) ∙ sym (c.condition_of.ensures later) ∙ c.in-Some.is ∙ ap (λ t. Some t) c.if-truth.true in
    ap (λ (w : List Pending). resume k w (items_in later c.cut_off.new.values.items) stacks bindings forest) c.in_ok-push.ensures.ok
    ∙ ap (λ (v : Items). resume k (Block Walk c.args.rest ∷ work) v stacks bindings forest) (c.cut_off.ensures later)
    ∙ condition_holds (condition_of (drop c.args.first values)) true (λ now. walked k c.args.rest bindings now) forest (with_more (λ vs beside left. resume k work vs beside bindings left) (take c.args.first values) stacks) holds

pub returns-else-truth-clause-value : goal.returns-else-truth-clause-value
returns-else-truth-clause-value c = λ k forest later.
    let values : Items = items_in later c.args.self.now.values.items in
    let stacks : Stacks = stacks_of later c.args.self.now in
    let bindings : Bindings = items_of later c.args.self.now.scope in
    let work : List Pending = c.args.self.now.work in
    let fails : condition_of (drop c.args.first values) ≡ Some false = ap condition_of (sym (c.values_from-condition.ensures later)) ∙ sym (c.condition_of.ensures later) ∙ c.in-Some.is ∙ ap (λ t. Some t) c.if-truth.false in
    ap (λ (v : Items). resume k work v stacks bindings forest) (c.cut_off.ensures later)
    ∙ condition_fails (condition_of (drop c.args.first values)) (λ now. walked k c.args.rest bindings now) (take c.args.first values) stacks forest (λ vs beside left. resume k work vs beside bindings left) fails
