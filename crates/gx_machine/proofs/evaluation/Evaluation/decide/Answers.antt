use Rattle.std.proofs.Common.{◌≡◌, [], ◌∷◌, ◌++◌, true, false, List, Some, take, drop, ap, sym, ◌∙◌}
use Rattle.gx_facets.specs.declared.Atomic.{Atomic}
use Rattle.gx_model.specs.Item.{Items, atom}
use Rattle.gx_core.specs.Comparing.{truth_value, condition_of}
use Rattle.gx_core.specs.Meaning.{Bindings, any_decides, decides}
use Rattle.gx_joins.specs.JoinedMeaning.{joined_meaning as joined}
use Rattle.gx_core.specs.Outcome.{Outcome}
use Rattle.gx_store.specs.Items.{items_in}
use Rattle.gx_machine.specs.declared.evaluation.Pending.{Pending}
use Rattle.gx_machine.specs.declared.evaluation.Pending.TheVariants.{Each}
use Rattle.gx_machine.specs.declared.looping.Loop.TheVariants.{Search}
use Rattle.gx_machine.specs.Resume.{Stacks, with_sources, resume, items_of, stacks_of, item_tested}
use Rattle.gx_machine.proofs.Resuming.{none_is_chosen, decided_is, undecided_is}
use Rattle.gx_machine.proofs.evaluation.Evaluation.decide.Goals as goal

pub returns-in_default-clause-failed : goal.returns-in_default-clause-failed
returns-in_default-clause-failed c = λ k forest later.
    none_is_chosen (items_in later c.args.self.now.values.items) c.args.decision.first _ (ap condition_of (sym (c.values_from-tested.ensures later)) ∙ sym (c.condition_of.ensures later) ∙ c.in_default.is)

pub returns-then-decides-clause-value : goal.returns-then-decides-clause-value
returns-then-decides-clause-value c = λ k forest later.
    let values : Items = items_in later c.args.self.now.values.items in
    let stacks : Stacks = stacks_of later c.args.self.now in
    let bindings : Bindings = items_of later c.args.self.now.scope in
    let work : List Pending = c.args.self.now.work in
    let others : Outcome Items = any_decides c.args.decision.decisive (item_tested (joined k c.args.decision.test.now) c.args.decision.variable bindings) (drop c.args.decision.next stacks.sources) forest in
    let truth : condition_of (drop c.args.decision.first values) ≡ Some c.in-Some.truth = ap condition_of (sym (c.values_from-tested.ensures later)) ∙ sym (c.condition_of.ensures later) ∙ c.in-Some.is in
    let ends : decides c.args.decision.decisive c.in-Some.truth ≡ true = sym c.decides.ensures ∙ c.if-decides.true in
    let put : items_in later c.push_atom.new.values.items ≡ take c.args.decision.first values ++ truth_value c.args.decision.decisive =
    c.in_ok-push_atom.ensures later ∙ ap (λ (v : Items). v ++ atom c.truth_atom.result ∷ []) (c.cut_off.ensures later) ∙ ap (λ (a : Atomic). take c.args.decision.first values ++ atom a ∷ []) c.truth_atom.ensures in
    ap (λ (v : Items). resume k work v (with_sources stacks (items_in later c.cut_off-then-decides.new.values.items)) bindings forest) put
    ∙ ap (λ (s : Items). resume k work (take c.args.decision.first values ++ truth_value c.args.decision.decisive) (with_sources stacks s) bindings forest) (c.cut_off-then-decides.ensures later)
    ∙ decided_is values c.args.decision.first c.args.decision.decisive c.in-Some.truth others forest (λ vs left. resume k work vs (with_sources stacks (take c.args.decision.start stacks.sources)) bindings left) truth ends

pub returns-clause-value : goal.returns-clause-value
returns-clause-value c = λ k forest later.
    let values : Items = items_in later c.args.self.now.values.items in
    let stacks : Stacks = stacks_of later c.args.self.now in
    let bindings : Bindings = items_of later c.args.self.now.scope in
    let work : List Pending = c.args.self.now.work in
    let others : Outcome Items = any_decides c.args.decision.decisive (item_tested (joined k c.args.decision.test.now) c.args.decision.variable bindings) (drop c.args.decision.next stacks.sources) forest in
    let truth : condition_of (drop c.args.decision.first values) ≡ Some c.in-Some.truth = ap condition_of (sym (c.values_from-tested.ensures later)) ∙ sym (c.condition_of.ensures later) ∙ c.in-Some.is in
    let goes_on : decides c.args.decision.decisive c.in-Some.truth ≡ false = sym c.decides.ensures ∙ c.if-decides.false in
    ap (λ (w : List Pending). resume k w (items_in later c.cut_off.new.values.items) stacks bindings forest) c.in_ok-push.ensures.ok
    ∙ ap (λ (v : Items). resume k (Each (Search c.args.decision.variable c.args.decision.decisive) c.args.decision.next c.args.decision.start c.args.decision.test ∷ work) v stacks bindings forest) (c.cut_off.ensures later)
    ∙ undecided_is values c.args.decision.first c.args.decision.decisive c.in-Some.truth others forest (λ vs left. resume k work vs (with_sources stacks (take c.args.decision.start stacks.sources)) bindings left) truth goes_on
