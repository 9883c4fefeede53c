use Rattle.std.proofs.Common.{ap, sym, ◌∙◌}
use Rattle.gx_model.specs.Item.{Items}
use Rattle.gx_core.specs.Instances.{is_instance}
use Rattle.gx_store.specs.Items.{items_in}
use Rattle.gx_machine.specs.Resume.{context_with}
use Rattle.gx_machine.proofs.NodeOperators.{instances_stay, others_are_raised}
use Rattle.gx_machine.proofs.change.treat.Goals as goal

pub returns-then-is_instance-clause-value : goal.returns-then-is_instance-clause-value
returns-then-is_instance-clause-value c = λ calls later x.
    instances_stay (context_with c.args.schemas.now calls) c.args.kind.now c.args.first (items_in later c.args.values.now.items) c.args.store.now
    (ap (λ (v : Items). is_instance c.args.schemas.now c.args.store.now c.args.kind.now v) (sym (c.values_from-operand.ensures later)) ∙ sym (c.is_instance.ensures later x) ∙ c.if-is_instance.true)

pub returns-else-is_instance-clause-failed : goal.returns-else-is_instance-clause-failed
returns-else-is_instance-clause-failed c = λ calls later x.
    others_are_raised (context_with c.args.schemas.now calls) c.args.kind.now c.args.first (items_in later c.args.values.now.items) c.args.store.now
    (ap (λ (v : Items). is_instance c.args.schemas.now c.args.store.now c.args.kind.now v) (sym (c.values_from-operand.ensures later)) ∙ sym (c.is_instance.ensures later x) ∙ c.if-is_instance.false)
