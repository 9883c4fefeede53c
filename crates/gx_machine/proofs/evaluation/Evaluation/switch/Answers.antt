use Rattle.std.proofs.Common.{◌≡◌, ◌∷◌, ◌++◌, List, true, false, length, take, drop, rules, ap, sym, ◌∙◌}
use Rattle.std.proofs.lemmas.List.{nil_from_length}
use Rattle.gx_model.specs.Item.{Items}
use Rattle.gx_core.specs.Instances.{is_instance}
use Rattle.gx_core.specs.Meaning.{Context, Bindings}
use Rattle.gx_store.specs.Items.{items_in}
use Rattle.gx_machine.specs.declared.evaluation.Pending.{Pending}
use Rattle.gx_machine.specs.Resume.{Stacks, context_with, resume, items_of, stacks_of}
use Rattle.gx_machine.proofs.Resuming.{no_branch, no_case, first_case, later_case}
use Rattle.gx_machine.proofs.evaluation.Evaluation.switch.Goals as goal

pub returns-in_default-clause-failed : goal.returns-in_default-clause-failed
returns-in_default-clause-failed c = λ calls later x.
    let forest = c.args.store.now in
    let values : Items = items_in later c.args.self.now.values.items in
    let stacks : Stacks = stacks_of later c.args.self.now in
    let bindings : Bindings = items_of later c.args.self.now.scope in
    let k : Context = context_with c.args.schemas.now calls in
    no_branch k forest c.args.choice.default c.args.choice.cases.now c.args.choice.branches.now (drop c.args.first values) bindings (λ more left. resume k c.args.self.now.work (take c.args.first values ++ more) stacks bindings left)
    (nil_from_length c.args.choice.branches.now c.in_default.ensures.cases)

pub returns-in_default-split_first-clause-value : goal.returns-in_default-split_first-clause-value
returns-in_default-split_first-clause-value c = λ calls later x.
    let forest = c.args.store.now in
    let values : Items = items_in later c.args.self.now.values.items in
    let stacks : Stacks = stacks_of later c.args.self.now in
    let bindings : Bindings = items_of later c.args.self.now.scope in
    let k : Context = context_with c.args.schemas.now calls in
    let branches : c.args.choice.branches.now ≡ c.in-Some.branch.now ∷ c.in-Some.others.now = search rules in
    let none : length c.in-Some.others.now ≡ 0 = search rules in
    c.in_ok-choose_branch.ensures k forest later
    ∙ no_case k forest c.args.choice.default c.args.choice.cases.now c.args.choice.branches.now c.in-Some.others.now c.in-Some.branch.now (drop c.args.first values) bindings (λ more left. resume k c.args.self.now.work (take c.args.first values ++ more) stacks bindings left)
    (nil_from_length c.args.choice.cases.now c.in_default-split_first.ensures.cases) branches (nil_from_length c.in-Some.others.now none)

pub returns-then-is_instance-clause-value : goal.returns-then-is_instance-clause-value
returns-then-is_instance-clause-value c = λ calls later x.
    let forest = c.args.store.now in
    let values : Items = items_in later c.args.self.now.values.items in
    let stacks : Stacks = stacks_of later c.args.self.now in
    let bindings : Bindings = items_of later c.args.self.now.scope in
    let k : Context = context_with c.args.schemas.now calls in
    let branches : c.args.choice.branches.now ≡ c.in-Some.branch.now ∷ c.in-Some.others.now = search rules in
    let cases : c.args.choice.cases.now ≡ c.in-Some-split_first.case.now ∷ c.in-Some-split_first.rest.now = search rules in
    let holds : is_instance c.args.schemas.now forest c.in-Some-split_first.case.now.kind (drop c.args.first values) ≡ true =
    ap (λ (v : Items). is_instance c.args.schemas.now forest c.in-Some-split_first.case.now.kind v) (sym (c.values_from-values.ensures later)) ∙ sym (c.is_instance.ensures later x) ∙ c.if-is_instance.true in
    c.in_ok-choose_branch-2.ensures k forest later
    ∙ first_case k forest c.args.choice.default c.args.choice.cases.now c.in-Some-split_first.rest.now c.in-Some-split_first.case.now c.args.choice.branches.now c.in-Some.others.now c.in-Some.branch.now (drop c.args.first values) bindings
    (λ more left. resume k c.args.self.now.work (take c.args.first values ++ more) stacks bindings left) cases branches holds

pub returns-clause-value : goal.returns-clause-value
returns-clause-value c = λ calls later x.
    let forest = c.args.store.now in
    let values : Items = items_in later c.args.self.now.values.items in
    let stacks : Stacks = stacks_of later c.args.self.now in
    let bindings : Bindings = items_of later c.args.self.now.scope in
    let k : Context = context_with c.args.schemas.now calls in
    let branches : c.args.choice.branches.now ≡ c.in-Some.branch.now ∷ c.in-Some.others.now = search rules in
    let cases : c.args.choice.cases.now ≡ c.in-Some-split_first.case.now ∷ c.in-Some-split_first.rest.now = search rules in
    let fails : is_instance c.args.schemas.now forest c.in-Some-split_first.case.now.kind (drop c.args.first values) ≡ false =
    ap (λ (v : Items). is_instance c.args.schemas.now forest c.in-Some-split_first.case.now.kind v) (sym (c.values_from-values.ensures later)) ∙ sym (c.is_instance.ensures later x) ∙ c.if-is_instance.false in
    ap (λ (w : List Pending). resume k w values stacks bindings forest) c.in_ok-push.ensures.ok
    ∙ later_case k forest c.args.choice.default c.args.choice.cases.now c.in-Some-split_first.rest.now c.in-Some-split_first.case.now c.args.choice.branches.now c.in-Some.others.now c.in-Some.branch.now (drop c.args.first values) bindings
    (λ more left. resume k c.args.self.now.work (take c.args.first values ++ more) stacks bindings left) cases branches fails
