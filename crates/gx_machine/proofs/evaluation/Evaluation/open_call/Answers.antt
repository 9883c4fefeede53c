use Rattle.std.proofs.Common.{◌≡◌, ◌++◌, [], List, length, map, arith, ap, sym, subst, ◌∙◌}
use Rattle.std.specs.Prelude.{OnOk, IfErr}
use Rattle.std.proofs.lemmas.List.{nil_from_length}
use Rattle.gx_model.specs.Item.{Items}
use Rattle.gx_core.specs.declared.operator.Operator.TheVariants as operators
use Rattle.gx_core.specs.Meaning.{Context, Bindings, denoted}
use Rattle.gx_joins.specs.JoinedMeaning.{joined_meaning as joined}
use Rattle.gx_core.specs.Outcome.{after}
use Rattle.gx_plan.specs.Plan.{PlanExpression}
use Rattle.gx_store.specs.Items.{items_in}
use Rattle.gx_machine.specs.Answering.{answer_items}
use Rattle.gx_machine.specs.Failing.{FailsSo}
use Rattle.gx_machine.specs.Resume.{Stacks, context_with, outcome_of, outcome_behind, resume, items_of, stacks_of}
use Rattle.gx_machine.proofs.Operands.{the_single}
use Rattle.gx_machine.proofs.Resuming.{none_applies}
use Rattle.gx_machine.proofs.evaluation.Evaluation.open_call.Goals as goal

pub returns-in-len1-clause-value : goal.returns-in-len1-clause-value
returns-in-len1-clause-value c = λ calls later x.
    let k : Context = context_with c.args.schemas.now calls in
    let l : length c.args.arguments.now ≡ 1 = omega arith in
    subst (λ (es : List PlanExpression). OnOk c.open_single.result (outcome_of k c.args.store.now later c.open_single.new.self ≡ outcome_behind k later (denoted k (operators.Call c.args.function) (map (joined k) es) (items_of later c.args.self.now.scope) c.args.store.now) c.args.self.now))
    (sym (the_single c.args.arguments.now c.argument-item.result l c.argument-item.is)) (c.open_single.ensures.value calls later x)

pub returns-in-len1-clause-failed : goal.returns-in-len1-clause-failed
returns-in-len1-clause-failed c = λ calls later x.
    let k : Context = context_with c.args.schemas.now calls in
    let l : length c.args.arguments.now ≡ 1 = omega arith in
    subst (λ (es : List PlanExpression). IfErr c.open_single.result (λ e. FailsSo e (outcome_behind k later (denoted k (operators.Call c.args.function) (map (joined k) es) (items_of later c.args.self.now.scope) c.args.store.now) c.args.self.now)))
    (sym (the_single c.args.arguments.now c.argument-item.result l c.argument-item.is)) (c.open_single.ensures.failed calls later x)

pub returns-in_ok-put-in-empty-clause-value : goal.returns-in_ok-put-in-empty-clause-value
returns-in_ok-put-in-empty-clause-value c = λ calls later x.
    let k : Context = context_with c.args.schemas.now calls in
    let forest = c.args.store.now in
    let values : Items = items_in later c.args.self.now.values.items in
    let stacks : Stacks = stacks_of later c.args.self.now in
    let bindings : Bindings = items_of later c.args.self.now.scope in
    let none : c.args.arguments.now ≡ [] = nil_from_length c.args.arguments.now (omega arith) in
    ap (λ (v : Items). resume k c.args.self.now.work v stacks bindings forest) (c.in_ok-put-in-empty.ensures later)
    ∙ none_applies k forest c.args.function c.args.self.now.work values (answer_items later c.in_ok-answer-in-empty.answer) stacks bindings (c.in_ok-answer-in-empty.ensures.value c.args.schemas.now forest later)
    ∙ ap (λ (es : List PlanExpression). after (denoted k (operators.Call c.args.function) (map (joined k) es) bindings forest) (λ more left. resume k c.args.self.now.work (values ++ more) stacks bindings left)) (sym none)
