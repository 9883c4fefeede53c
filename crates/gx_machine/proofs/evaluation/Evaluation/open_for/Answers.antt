use Rattle.std.proofs.Common.{◌≡◌, sym, ap, ◌∙◌}
use Rattle.std.proofs.lemmas.Result.{IfOk-equal}
use Rattle.gx_core.specs.Meaning.{Bindings, Denotation}
use Rattle.gx_core.specs.Outcome.{Outcome}
use Rattle.gx_model.specs.Item.{Items}
use Rattle.gx_joins.specs.HashJoin.{hash_join}
use Rattle.gx_machine.specs.declared.joining.Join.{Join}
use Rattle.gx_machine.specs.Joining.{join_meant, loop_meant, loop_unmarked}
use Rattle.gx_machine.specs.Resume.{outcome_of, outcome_behind, items_of}
use Rattle.gx_machine.proofs.evaluation.Evaluation.open_for.Goals as goal

pub returns-in-None : goal.returns-in-None
returns-in-None c = λ k forest later.
    let bindings : Bindings = items_of later c.args.self.now.scope in
    let behind : Denotation → Outcome Items = λ d. outcome_behind k later (d bindings forest) c.args.self.now in
    let alone : Denotation = loop_unmarked k c.args.binder.now c.args.position c.args.source.now c.args.body.now in
    let whole : Denotation = loop_meant k c.args.role c.args.binder.now c.args.position c.args.source.now c.args.body.now in
    IfOk-equal c.open_loop.result (outcome_of k forest later c.open_loop.new.self) (behind alone) (behind whole) (c.open_loop.ensures k forest later) (ap behind (sym (c.in-None.ensures k)))

pub returns-in_ok-new-in-Some : goal.returns-in_ok-new-in-Some
returns-in_ok-new-in-Some c = λ k forest later.
    let bindings : Bindings = items_of later c.args.self.now.scope in
    let behind : Denotation → Outcome Items = λ d. outcome_behind k later (d bindings forest) c.args.self.now in
    let alone : Denotation = hash_join (join_meant k c.in_ok-new-in-Some.field-0.value) in
    let whole : Denotation = loop_meant k c.args.role c.args.binder.now c.args.position c.args.source.now c.args.body.now in
    IfOk-equal c.open_join.result (outcome_of k forest later c.open_join.new.self) (behind alone) (behind whole) (c.open_join.ensures k forest later)
    (ap behind (ap (λ (join : Join). hash_join (join_meant k join)) c.in_ok-new-in-Some.ensures.ok ∙ sym (c.in-Some.ensures k)))
