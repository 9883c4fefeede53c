use Rattle.std.proofs.Common.{◌++◌, ℕ, List, ap, sym, ◌∙◌, subst}
use Rattle.std.specs.Global.{Global}
use Rattle.std.specs.Prelude.{Vec}
use Rattle.std.proofs.lemmas.Result.{err_from_is_err_and}
use Rattle.gx_model.specs.Item.{Items}
use Rattle.gx_core.specs.Constructing.{constructor_outcome}
use Rattle.gx_core.specs.declared.operator.Operator.TheVariants as operators
use Rattle.gx_core.specs.Meaning.{Context, Bindings}
use Rattle.gx_core.specs.Outcome.{Outcome}
use Rattle.gx_store.specs.Items.{items_in}
use Rattle.gx_store.specs.declared.item.Item.{Item}
use Rattle.gx_build.specs.Parts.{parts_in}
use Rattle.gx_machine.specs.Failing.{FailsSo}
use Rattle.gx_machine.specs.MadeNodes.{node_items}
use Rattle.gx_machine.specs.Resume.{Stacks, context_with, operated, resume, with_marks, items_of, stacks_of}
use Rattle.gx_machine.proofs.MadeTrees.{operated_gives, operated_fails}
use Rattle.gx_machine.proofs.evaluation.Evaluation.construct.Goals as goal

pub returns-in_err-parts-clause-failed : goal.returns-in_err-parts-clause-failed
returns-in_err-parts-clause-failed c = λ calls later x.
    let k : Context = context_with c.args.schemas.now calls in
    let stacks : Stacks = stacks_of later c.args.self.now in
    let p = err_from_is_err_and c.from_residual.result c.from_residual.ensures.1 in
    rw (p.1, p.2)
    (c.in_err-parts.ensures.failed later (λ operands below rest. operated k (operators.Construct c.args.constructor.now c.args.count) operands rest c.args.store.now
    (λ vs left. resume k c.args.self.now.work vs (with_marks stacks below) (items_of later c.args.self.now.scope) left)))

pub returns-in_err-made-clause-failed : goal.returns-in_err-made-clause-failed
returns-in_err-made-clause-failed c = λ calls later x.
    let s = c.args.schemas.now in
    let k : Context = context_with s calls in
    let before = c.args.store.now in
    let constructor = c.args.constructor.now in
    let error = c.in_err-made.field-0.0 in
    let stacks : Stacks = stacks_of later c.args.self.now in
    let rest : Items = items_in later c.take_operands.new.values.items in
    let bindings : Bindings = items_of later c.args.self.now.scope in
    let next : List Items → List ℕ → Items → Outcome Items =
    λ operands below values. operated k (operators.Construct constructor c.args.count) operands values before (λ vs left. resume k c.args.self.now.work vs (with_marks stacks below) bindings left) in
    let failed : FailsSo error (constructor_outcome s constructor (parts_in later c.in_ok-parts.parts.items) before) =
    subst (λ (operands : List (Vec Item Global)). FailsSo error (constructor_outcome s constructor (parts_in later operands) before)) c.as_slice.ensures.value (c.in_err-made.ensures.failed later x) in
    let p = err_from_is_err_and c.from_residual-in_err-made.result c.from_residual-in_err-made.ensures.1 in
    rw (p.1, p.2)
    (subst (λ (o : Outcome Items). FailsSo error o) (sym (c.in_ok-parts.ensures.taken later next))
    (operated_fails error (constructor_outcome s constructor (parts_in later c.in_ok-parts.parts.items) before)
    (λ more left. resume k c.args.self.now.work (rest ++ more) (with_marks stacks c.take_operands.new.marks) bindings left) failed))

pub returns-clause-value : goal.returns-clause-value
returns-clause-value c = λ calls later x.
    let s = c.args.schemas.now in
    let k : Context = context_with s calls in
    let before = c.args.store.now in
    let now = c.constructed.new.store in
    let constructor = c.args.constructor.now in
    let stacks : Stacks = stacks_of later c.args.self.now in
    let marks : List ℕ = c.take_operands.new.marks in
    let rest : Items = items_in later c.take_operands.new.values.items in
    let bindings : Bindings = items_of later c.args.self.now.scope in
    let next : List Items → List ℕ → Items → Outcome Items =
    λ operands below values. operated k (operators.Construct constructor c.args.count) operands values before (λ vs left. resume k c.args.self.now.work vs (with_marks stacks below) bindings left) in
    ap (λ (values : Items). resume k c.args.self.now.work values (with_marks stacks marks) bindings now) (c.in_ok-put_node.ensures later)
    ∙ sym (operated_gives (constructor_outcome s constructor (parts_in later c.in_ok-parts.parts.items) before) (node_items later c.in_ok-made.made) rest now
    (λ vs left. resume k c.args.self.now.work vs (with_marks stacks marks) bindings left)
    (ap (λ (operands : List (Vec Item Global)). constructor_outcome s constructor (parts_in later operands) before) (sym c.as_slice.ensures.value) ∙ c.in_ok-made.ensures.value later x))
    ∙ sym (c.in_ok-parts.ensures.taken later next)
