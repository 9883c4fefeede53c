use Rattle.std.proofs.Common.{◌≡◌, ◌++◌, List, map, take, drop, ap, sym, subst, ◌∙◌}
use Rattle.std.proofs.lemmas.Result.{err_from_is_err_and}
use Rattle.gx_model.specs.Item.{Items, node}
use Rattle.gx_core.specs.Meaning.{Context}
use Rattle.gx_core.specs.Outcome.{gives}
use Rattle.gx_core.specs.PathLaws.{stepped_from_each}
use Rattle.gx_store.specs.Items.{items_in}
use Rattle.gx_store.specs.Places.{node_places}
use Rattle.gx_store.specs.declared.number.NodeId.{NodeId}
use Rattle.gx_machine.specs.Resume.{context_with, resume, items_of, stacks_of}
use Rattle.gx_machine.proofs.ManySteps.{goes_on}
use Rattle.gx_machine.proofs.Resuming.{Rest, fails_also, fails_through}
use Rattle.gx_machine.proofs.evaluation.Evaluation.apply_steps.Goals as goal

pub returns-in_err-found-clause-failed : goal.returns-in_err-found-clause-failed
returns-in_err-found-clause-failed c = λ calls later x.
    let k : Context = context_with c.args.schemas.now calls in
    let forest = c.args.store.now in
    let values : Items = items_in later c.args.self.now.values.items in
    let front : Items = take c.args.first values in
    let next : Rest = λ vs left. resume k c.args.self.now.work vs (stacks_of later c.args.self.now) (items_of later c.args.self.now.scope) left in
    let p = err_from_is_err_and c.from_residual.result c.from_residual.ensures.1 in
    rw (p.1, p.2)
    (fails_through (stepped_from_each k.schemas c.args.axis c.args.test.now front (drop c.args.first values) forest) next _
    (fails_also _ _ _ (ap (λ (v : Items). stepped_from_each k.schemas c.args.axis c.args.test.now front v forest) (sym (c.values_from-operand.ensures later))) (c.in_err-found.ensures.failed later front x)))

pub returns-clause-value : goal.returns-clause-value
returns-clause-value c = λ calls later x.
    let k : Context = context_with c.args.schemas.now calls in
    let forest = c.args.store.now in
    let values : Items = items_in later c.args.self.now.values.items in
    let front : Items = take c.args.first values in
    let more : Items = map node (node_places later c.in_ok-found.found.items) in
    let next : Rest = λ vs left. resume k c.args.self.now.work vs (stacks_of later c.args.self.now) (items_of later c.args.self.now.scope) left in
    goes_on (stepped_from_each k.schemas c.args.axis c.args.test.now front (drop c.args.first values) forest) front more (items_in later c.append_nodes.new.items.items) forest next
    (subst (λ (v : Items). stepped_from_each k.schemas c.args.axis c.args.test.now front v forest ≡ gives (front ++ more) forest) (c.values_from-operand.ensures later) (c.in_ok-found.ensures.value later front x))
    (c.in_ok-append_nodes.ensures later ∙ ap (λ (ns : List NodeId). items_in later c.cut_off.new.values.items ++ map node (node_places later ns)) c.as_slice.ensures.value ∙ ap (λ (v : Items). v ++ more) (c.cut_off.ensures later))
