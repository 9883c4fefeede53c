use Rattle.std.proofs.Common.{◌≡◌, ◌∷◌, [], ◌++◌, List, length, map, sym, subst, ap, ◌∙◌}
use Rattle.gx_facets.specs.declared.Atomic.{Atomic}
use Rattle.gx_model.specs.Item.{Items, atom}
use Rattle.std.specs.Prelude.{OnOk, IfErr}
use Rattle.gx_plan.specs.declared.plan.Carried.{Carried}
use Rattle.gx_core.specs.declared.operator.Operator.TheVariants as operators
use Rattle.gx_core.specs.declared.cases.TypeCase.{TypeCase}
use Rattle.gx_core.specs.declared.expression.Clause.{Clause}
use Rattle.gx_core.specs.declared.expression.SortKey.{SortKey}
use Rattle.gx_plan.specs.Plan.{PlanExpression}
use Rattle.gx_core.specs.Meaning.{Context, Denotation, denoted}
use Rattle.gx_joins.specs.JoinedMeaning.{joined_meaning as joined}
use Rattle.gx_core.specs.ExpressionView.{kind_of_clause, order_of_key, parts_of_block}
use Rattle.gx_store.specs.Items.{items_in}
use Rattle.gx_core.specs.Outcome.{Outcome}
use Rattle.gx_machine.specs.Failing.{FailsSo}
use Rattle.gx_machine.specs.Joining.{loop_meant}
use Rattle.gx_machine.specs.Resume.{context_with, outcome_of, outcome_behind, items_of, stacks_of, resume}
use Rattle.gx_machine.proofs.Resuming.{each_argument}
use Rattle.gx_machine.proofs.evaluation.Evaluation.open.Goals as goal

pub returns-in-Var-clause-value : goal.returns-in-Var-clause-value
returns-in-Var-clause-value c = λ calls later x. rw (← c.expression.view_is, c.in-Var.is) (c.append_variable.ensures.value (context_with c.args.schemas.now calls) c.args.store.now later)

pub returns-in-Var-clause-failed : goal.returns-in-Var-clause-failed
returns-in-Var-clause-failed c = λ calls later x. rw (← c.expression.view_is, c.in-Var.is) (c.append_variable.ensures.failed (context_with c.args.schemas.now calls) c.args.store.now later)

pub returns-in-Cast-clause-value : goal.returns-in-Cast-clause-value
returns-in-Cast-clause-value c = λ calls later x. rw (← c.expression.view_is, c.in-Cast.is, ← c.deref-in-Cast.ensures) (c.open_single.ensures.value calls later x)

pub returns-in-Cast-clause-failed : goal.returns-in-Cast-clause-failed
returns-in-Cast-clause-failed c = λ calls later x. rw (← c.expression.view_is, c.in-Cast.is, ← c.deref-in-Cast.ensures) (c.open_single.ensures.failed calls later x)

pub returns-in-Castable-clause-value : goal.returns-in-Castable-clause-value
returns-in-Castable-clause-value c = λ calls later x. rw (← c.expression.view_is, c.in-Castable.is, ← c.deref-in-Castable.ensures) (c.open_single-in-Castable.ensures.value calls later x)

pub returns-in-Castable-clause-failed : goal.returns-in-Castable-clause-failed
returns-in-Castable-clause-failed c = λ calls later x. rw (← c.expression.view_is, c.in-Castable.is, ← c.deref-in-Castable.ensures) (c.open_single-in-Castable.ensures.failed calls later x)

pub returns-in-Neg-clause-value : goal.returns-in-Neg-clause-value
returns-in-Neg-clause-value c = λ calls later x. rw (← c.expression.view_is, c.in-Neg.is, ← c.deref-in-Neg.ensures) (c.open_single-in-Neg.ensures.value calls later x)

pub returns-in-Neg-clause-failed : goal.returns-in-Neg-clause-failed
returns-in-Neg-clause-failed c = λ calls later x. rw (← c.expression.view_is, c.in-Neg.is, ← c.deref-in-Neg.ensures) (c.open_single-in-Neg.ensures.failed calls later x)

pub returns-in-Call-clause-value : goal.returns-in-Call-clause-value
returns-in-Call-clause-value c = λ calls later x.
    let k : Context = context_with c.args.schemas.now calls in
    rw (← c.expression.view_is, c.in-Call.is, ← c.as_slice.ensures.value)
    (subst (λ (parts : List Denotation). OnOk c.open_call.result (outcome_of k c.args.store.now later c.open_call.new.self
    ≡ outcome_behind k later (denoted k (operators.Call c.in-Call.function) parts (items_of later c.args.self.now.scope) c.args.store.now) c.args.self.now)) (sym (each_argument k c.as_slice.result.now)) (c.open_call.ensures.value calls later x))

pub returns-in-Call-clause-failed : goal.returns-in-Call-clause-failed
returns-in-Call-clause-failed c = λ calls later x.
    let k : Context = context_with c.args.schemas.now calls in
    rw (← c.expression.view_is, c.in-Call.is, ← c.as_slice.ensures.value)
    (subst (λ (parts : List Denotation). IfErr c.open_call.result (λ e. FailsSo e
    (outcome_behind k later (denoted k (operators.Call c.in-Call.function) parts (items_of later c.args.self.now.scope) c.args.store.now) c.args.self.now))) (sym (each_argument k c.as_slice.result.now)) (c.open_call.ensures.failed calls later x))

pub returns-in_ok-open_construct-in-Construct-clause-value : goal.returns-in_ok-open_construct-in-Construct-clause-value
returns-in_ok-open_construct-in-Construct-clause-value c = λ calls later x.
    let k : Context = context_with c.args.schemas.now calls in
    let parts : List PlanExpression = c.as_slice-in-Construct.result.now in
    rw (← c.expression.view_is, c.in-Construct.is, ← c.as_slice-in-Construct.ensures.value)
    (subst (λ (means : List Denotation). outcome_of k c.args.store.now later c.open_construct.new.self
    ≡ outcome_behind k later (denoted k (operators.Construct c.in-Construct.constructor (length parts)) means (items_of later c.args.self.now.scope) c.args.store.now) c.args.self.now) (sym (each_argument k parts)) (c.in_ok-open_construct-in-Construct.ensures k c.args.store.now later))

pub returns-in_ok-open_user_call-in-User-clause-value : goal.returns-in_ok-open_user_call-in-User-clause-value
returns-in_ok-open_user_call-in-User-clause-value c = λ calls later x.
    let k : Context = context_with c.args.schemas.now calls in
    let parts : List PlanExpression = c.as_slice-in-User.result.now in
    rw (← c.expression.view_is, c.in-User.is, ← c.as_slice-in-User.ensures.value)
    (subst (λ (means : List Denotation). outcome_of k c.args.store.now later c.open_user_call.new.self
    ≡ outcome_behind k later (denoted k (operators.User c.in-User.signature (length parts)) means (items_of later c.args.self.now.scope) c.args.store.now) c.args.self.now) (sym (each_argument k parts)) (c.in_ok-open_user_call-in-User.ensures k c.args.store.now later))

pub returns-in_ok-open_for-in-For-clause-value : goal.returns-in_ok-open_for-in-For-clause-value
returns-in_ok-open_for-in-For-clause-value c = λ calls later x.
    let k : Context = context_with c.args.schemas.now calls in
    let role = c.expression.inside.kind.role in
    let meant : (source body : PlanExpression) → Outcome Items = λ source body.
    outcome_behind k later (loop_meant k role c.in-For.binder c.in-For.position source body (items_of later c.args.self.now.scope) c.args.store.now) c.args.self.now in
    rw (← c.expression.view_is, c.in-For.is)
    (c.in_ok-open_for-in-For.ensures k c.args.store.now later
    ∙ ap (λ (source : PlanExpression). meant source c.deref-in-For-2.result.now) c.deref-in-For.ensures ∙ ap (meant c.in-For.source.value) c.deref-in-For-2.ensures)

pub returns-in-Binary-clause-value : goal.returns-in-Binary-clause-value
returns-in-Binary-clause-value c = λ calls later x. rw (← c.expression.view_is, c.in-Binary.is, ← c.deref-in-Binary.ensures, ← c.deref-in-Binary-2.ensures) (c.open_binary.ensures.value calls later x)

pub returns-in-Binary-clause-failed : goal.returns-in-Binary-clause-failed
returns-in-Binary-clause-failed c = λ calls later x. rw (← c.expression.view_is, c.in-Binary.is, ← c.deref-in-Binary.ensures, ← c.deref-in-Binary-2.ensures) (c.open_binary.ensures.failed calls later x)

pub returns-in_ok-push_atom-in-Lit-clause-value : goal.returns-in_ok-push_atom-in-Lit-clause-value
returns-in_ok-push_atom-in-Lit-clause-value c = λ calls later x.
    let values : Items = items_in later c.args.self.now.values.items in
    rw (← c.expression.view_is, c.in-Lit.is)
    (ap (λ (v : Items). resume (context_with c.args.schemas.now calls) c.args.self.now.work v (stacks_of later c.args.self.now) (items_of later c.args.self.now.scope) c.args.store.now)
    (c.in_ok-push_atom-in-Lit.ensures later ∙ ap (λ (a : Atomic). values ++ atom a ∷ []) c.in_ok-clone-in-Lit.ensures.cases))

pub returns-in-Step-clause-value : goal.returns-in-Step-clause-value
returns-in-Step-clause-value c = λ calls later x. rw (← c.expression.view_is, c.in-Step.is) (c.append_step.ensures.value calls later x)

pub returns-in-Step-clause-failed : goal.returns-in-Step-clause-failed
returns-in-Step-clause-failed c = λ calls later x. rw (← c.expression.view_is, c.in-Step.is) (c.append_step.ensures.failed calls later x)

pub returns-in_ok-open_block-in-Block-clause-value : goal.returns-in_ok-open_block-in-Block-clause-value
returns-in_ok-open_block-in-Block-clause-value c = λ calls later x.
    let k : Context = context_with c.args.schemas.now calls in
    let clauses : List (Clause Carried) = c.deref-in-Block.result.now in
    let keys : List (SortKey Carried) = c.deref-in-Block-2.result.now in
    rw (← c.expression.view_is, c.in-Block.is, ← c.deref-in-Block.ensures.value, ← c.deref-in-Block-2.ensures.value, ← c.deref-in-Block-3.ensures)
    (c.in_ok-open_block-in-Block.ensures k c.args.store.now later
    ∙ ap (λ (parts : List Denotation). outcome_behind k later (denoted k (operators.Block (map kind_of_clause clauses) (map order_of_key keys)) parts (items_of later c.args.self.now.scope) c.args.store.now) c.args.self.now)
    (sym (each_argument k (parts_of_block clauses keys c.deref-in-Block-3.result.now))))

pub returns-in_ok-open_let-in-Let-clause-value : goal.returns-in_ok-open_let-in-Let-clause-value
returns-in_ok-open_let-in-Let-clause-value c = λ calls later x.
    rw (← c.expression.view_is, c.in-Let.is, ← c.deref-in-Let.ensures, ← c.deref-in-Let-2.ensures) (c.in_ok-open_let-in-Let.ensures (context_with c.args.schemas.now calls) c.args.store.now later)

pub returns-in_ok-open_if-in-If-clause-value : goal.returns-in_ok-open_if-in-If-clause-value
returns-in_ok-open_if-in-If-clause-value c = λ calls later x.
    rw (← c.expression.view_is, c.in-If.is, ← c.deref-in-If.ensures, ← c.deref-in-If-2.ensures, ← c.deref-in-If-3.ensures) (c.in_ok-open_if-in-If.ensures (context_with c.args.schemas.now calls) c.args.store.now later)

pub returns-in_ok-open_search-in-SomeIn-clause-value : goal.returns-in_ok-open_search-in-SomeIn-clause-value
returns-in_ok-open_search-in-SomeIn-clause-value c = λ calls later x.
    rw (← c.expression.view_is, c.in-SomeIn.is, ← c.deref-in-SomeIn.ensures, ← c.deref-in-SomeIn-2.ensures) (c.in_ok-open_search-in-SomeIn.ensures (context_with c.args.schemas.now calls) c.args.store.now later)

pub returns-in_ok-open_search-in-EveryIn-clause-value : goal.returns-in_ok-open_search-in-EveryIn-clause-value
returns-in_ok-open_search-in-EveryIn-clause-value c = λ calls later x.
    rw (← c.expression.view_is, c.in-EveryIn.is, ← c.deref-in-EveryIn.ensures, ← c.deref-in-EveryIn-2.ensures) (c.in_ok-open_search-in-EveryIn.ensures (context_with c.args.schemas.now calls) c.args.store.now later)

pub returns-in_ok-open_switch-in-Switch-clause-value : goal.returns-in_ok-open_switch-in-Switch-clause-value
returns-in_ok-open_switch-in-Switch-clause-value c = λ calls later x.
    let k : Context = context_with c.args.schemas.now calls in
    let cases : List TypeCase = c.as_slice-in-Switch.result.now in
    let branches : List PlanExpression = c.as_slice-in-Switch-2.result.now in
    rw (← c.expression.view_is, c.in-Switch.is, ← c.deref-in-Switch.ensures, ← c.as_slice-in-Switch.ensures, ← c.as_slice-in-Switch-2.ensures.value)
    (c.in_ok-open_switch-in-Switch.ensures k c.args.store.now later
    ∙ ap (λ (parts : List Denotation). outcome_behind k later (denoted k (operators.Switch cases c.in-Switch.default) (joined k c.deref-in-Switch.result.now ∷ parts) (items_of later c.args.self.now.scope) c.args.store.now) c.args.self.now)
    (sym (each_argument k branches)))
