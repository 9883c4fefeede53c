use Rattle.std.proofs.Common.{List, ap, sym, ◌∙◌}
use Rattle.std.proofs.lemmas.List.{nil_from_length}
use Rattle.std.proofs.lemmas.Result.{err_from_is_err_and}
use Rattle.gx_core.specs.Meaning.{Bindings}
use Rattle.gx_core.specs.Outcome.{Outcome, after}
use Rattle.gx_plan.specs.Plan.{DeclarationOfPlan, FunctionOfPlan}
use Rattle.gx_joins.specs.JoinedMeaning.{joined_globals}
use Rattle.gx_store.specs.Places.{node_places}
use Rattle.gx_machine.specs.Frames.{functions_in}
use Rattle.gx_machine.specs.Resume.{items_of}
use Rattle.gx_machine.proofs.MadeTrees.{grows_on, step_extends, through}
use Rattle.gx_machine.proofs.Resuming.{fails_also}
use Rattle.gx_machine.proofs.declarations.bound_globals.Goals as goal

pub loop-declaration-preserved : goal.loop-declaration-preserved
loop-declaration-preserved g c = record {
  grows = grows_on c.args.schemas.now c.args.store.now c.loop-declaration.store c.bind_global.new.store c.loop-declaration.invariant.grows c.in_ok-left.ensures.grows;
  same = λ later x.
      let s = c.args.schemas.now in
      let store = c.loop-declaration.store in
      let functions : List FunctionOfPlan = functions_in c.args.functions.now in
      sym (c.in_ok-left.ensures.value c.in-Some.others.now later x)
      ∙ ap (λ (ds : List DeclarationOfPlan). joined_globals s functions c.args.limit ds (node_places later c.loop-declaration.left.now) (items_of later c.loop-declaration.globals) store) (sym c.in-Some.ensures.cases.0)
      ∙ c.loop-declaration.invariant.same later (through store c.bind_global.new.store later (step_extends s store c.bind_global.new.store c.in_ok-left.ensures.grows) x);
}

pub returns-in_err-left-clause-grows : goal.returns-in_err-left-clause-grows
returns-in_err-left-clause-grows g c =
    grows_on c.args.schemas.now c.args.store.now c.loop-declaration.store c.bind_global.new.store c.loop-declaration.invariant.grows c.in_err-left.ensures.grows

pub returns-in_err-left-clause-failed : goal.returns-in_err-left-clause-failed
returns-in_err-left-clause-failed g c = λ later next x.
    let s = c.args.schemas.now in
    let store = c.loop-declaration.store in
    let functions : List FunctionOfPlan = functions_in c.args.functions.now in
    let y = through store c.bind_global.new.store later (step_extends s store c.bind_global.new.store c.in_err-left.ensures.grows) x in
    let p = err_from_is_err_and c.from_residual.result c.from_residual.ensures.1 in
    rw (p.1, p.2)
    (fails_also _ _ _
    (ap (λ (o : Outcome Bindings). after o next)
    (sym (c.loop-declaration.invariant.same later y)
    ∙ ap (λ (ds : List DeclarationOfPlan). joined_globals s functions c.args.limit ds (node_places later c.loop-declaration.left.now) (items_of later c.loop-declaration.globals) store) c.in-Some.ensures.cases.0))
    (c.in_err-left.ensures.failed c.in-Some.others.now later next x))

pub returns-clause-value : goal.returns-clause-value
returns-clause-value g c = λ later x.
    let s = c.args.schemas.now in
    let functions : List FunctionOfPlan = functions_in c.args.functions.now in
    sym (c.loop-declaration.invariant.same later x)
    ∙ ap (λ (ds : List DeclarationOfPlan). joined_globals s functions c.args.limit ds (node_places later c.loop-declaration.left.now) (items_of later c.loop-declaration.globals) c.loop-declaration.store)
    (nil_from_length c.loop-declaration.rest.now c.in_default.ensures.cases)
