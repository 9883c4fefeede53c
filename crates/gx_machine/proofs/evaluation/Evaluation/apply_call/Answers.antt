use Rattle.std.proofs.Common.{◌≡◌, ◌+◌, ℕ, List, [], ap, sym, ◌∙◌, subst, rules}
use Rattle.std.specs.Global.{Global}
use Rattle.std.specs.Prelude.{Vec}
use Rattle.std.proofs.lemmas.Result.{err_from_is_err_and}
use Rattle.gx_model.specs.Item.{Items}
use Rattle.gx_core.specs.Calling.{called}
use Rattle.gx_core.specs.declared.operator.Operator.TheVariants as operators
use Rattle.gx_core.specs.Meaning.{Context, Bindings}
use Rattle.gx_core.specs.Outcome.{Outcome, gives}
use Rattle.gx_store.specs.Items.{items_in}
use Rattle.gx_store.specs.declared.item.Item.{Item}
use Rattle.gx_build.specs.Parts.{parts_in}
use Rattle.gx_machine.specs.Answering.{answer_items}
use Rattle.gx_machine.specs.Failing.{FailsSo}
use Rattle.gx_machine.specs.Resume.{Stacks, context_with, between_marks, operated, resume, with_marks, items_of, stacks_of}
use Rattle.gx_machine.proofs.Resuming.{many_apply, many_fail}
use Rattle.gx_machine.proofs.evaluation.Evaluation.apply_call.Goals as goal

pub returns-in_err-operands-clause-failed : goal.returns-in_err-operands-clause-failed
returns-in_err-operands-clause-failed c = λ calls later x.
    let k : Context = context_with c.args.schemas.now calls in
    let stacks : Stacks = stacks_of later c.args.self.now in
    let marks : List ℕ = c.args.self.now.marks in
    let values : Items = items_in later c.args.self.now.values.items in
    let next : List Items → List ℕ → Items → Outcome Items =
    λ operands below rest. operated k (operators.Call c.args.function) operands rest c.args.store.now (λ vs left. resume k c.args.self.now.work vs (with_marks stacks below) (items_of later c.args.self.now.scope) left) in
    let all : c.in-Some.count ≡ c.args.more + 2 = search rules in
    let p = err_from_is_err_and c.from_residual.result c.from_residual.ensures.1 in
    rw (p.1, p.2) (subst (λ (n : ℕ). FailsSo c.in_err-operands.field-0.0 (between_marks n marks values [] next)) all (c.in_err-operands.ensures.failed later next))

pub returns-in_err-answer-clause-failed : goal.returns-in_err-answer-clause-failed
returns-in_err-answer-clause-failed c = λ calls later x.
    let s = c.args.schemas.now in
    let k : Context = context_with s calls in
    let forest = c.args.store.now in
    let function = c.args.function in
    let error = c.in_err-answer.field-0.0 in
    let stacks : Stacks = stacks_of later c.args.self.now in
    let marks : List ℕ = c.args.self.now.marks in
    let values : Items = items_in later c.args.self.now.values.items in
    let rest : Items = items_in later c.take_operands.new.values.items in
    let operands : List Items = parts_in later c.in_ok-operands.operands.items in
    let bindings : Bindings = items_of later c.args.self.now.scope in
    let next : List Items → List ℕ → Items → Outcome Items =
    λ operands below rest. operated k (operators.Call function) operands rest forest (λ vs left. resume k c.args.self.now.work vs (with_marks stacks below) bindings left) in
    let all : c.in-Some.count ≡ c.args.more + 2 = search rules in
    let failed : FailsSo error (called s function operands forest) =
    subst (λ (taken : List (Vec Item Global)). FailsSo error (called s function (parts_in later taken) forest)) c.as_slice.ensures.value (c.in_err-answer.ensures.failed later x) in
    let p = err_from_is_err_and c.from_residual-in_err-answer.result c.from_residual-in_err-answer.ensures.1 in
    rw (p.1, p.2)
    (subst (λ (n : ℕ). FailsSo error (between_marks n marks values [] next)) all
    (subst (λ (o : Outcome Items). FailsSo error o) (sym (c.in_ok-operands.ensures.taken later next))
    (many_fail k forest function c.args.self.now.work operands rest (with_marks stacks c.take_operands.new.marks) bindings error failed)))

pub returns-clause-value : goal.returns-clause-value
returns-clause-value c = λ calls later x.
    let s = c.args.schemas.now in
    let k : Context = context_with s calls in
    let forest = c.args.store.now in
    let function = c.args.function in
    let stacks : Stacks = stacks_of later c.args.self.now in
    let marks : List ℕ = c.args.self.now.marks in
    let values : Items = items_in later c.args.self.now.values.items in
    let rest : Items = items_in later c.take_operands.new.values.items in
    let operands : List Items = parts_in later c.in_ok-operands.operands.items in
    let answer : Items = answer_items later c.in_ok-answer.answer in
    let bindings : Bindings = items_of later c.args.self.now.scope in
    let next : List Items → List ℕ → Items → Outcome Items =
    λ operands below rest. operated k (operators.Call function) operands rest forest (λ vs left. resume k c.args.self.now.work vs (with_marks stacks below) bindings left) in
    let all : c.in-Some.count ≡ c.args.more + 2 = search rules in
    let answered : called s function operands forest ≡ gives answer forest =
    ap (λ (taken : List (Vec Item Global)). called s function (parts_in later taken) forest) (sym c.as_slice.ensures.value) ∙ c.in_ok-answer.ensures.value later x in
    ap (λ (vs : Items). resume k c.args.self.now.work vs (with_marks stacks c.take_operands.new.marks) bindings forest) (c.in_ok-put.ensures later)
    ∙ many_apply k forest function c.args.self.now.work operands rest answer (with_marks stacks c.take_operands.new.marks) bindings answered
    ∙ sym (c.in_ok-operands.ensures.taken later next)
    ∙ ap (λ (n : ℕ). between_marks n marks values [] next) all
