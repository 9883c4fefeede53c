-- What is treated as a type keeps the type.
use Rattle.std.proofs.Common.{◌≡◌, Bool, true, false, refl, subst, if◌then◌else◌}
use Rattle.gx_base.specs.declared.code.Code.TheVariants.{XPDY0050}
use Rattle.gx_types.specs.SchemaSet.{SchemaSet}
use Rattle.gx_types.specs.SequenceType.{SequenceType}
use Rattle.gx_model.specs.Forest.{Forest}
use Rattle.gx_model.specs.Honest.{IsHonest}
use Rattle.gx_model.specs.Item.{Items}
use Rattle.gx_model.specs.Belongs.{Belongs}
use Rattle.gx_core.specs.declared.operator.Operator.TheVariants as operators
use Rattle.gx_core.specs.Instances.{is_instance}
use Rattle.gx_core.specs.Treating.{treated}
use Rattle.gx_core.specs.Outcome.{gives, raises}
use Rattle.gx_core.specs.Soundness.{typed_setting, IsOfType, Keeps}
use Rattle.gx_core.proofs.KeptFacts.{fact_at_once}
use Rattle.gx_static.specs.Laws.{TreatKeepsType}
use Rattle.gx_static.proofs.Keeping.{single_keeps}
use Rattle.gx_static.proofs.Switches.{instance_belongs}

treated_keeps : (s : SchemaSet) (forest : Forest) (kind a : SequenceType) (xs : Items) → IsHonest s forest → Belongs s forest xs a → Keeps (typed_setting s) forest kind (treated s kind xs forest)
treated_keeps s forest kind a xs honest b =
    elim (is_instance s forest kind xs) as (λ (holds : Bool). is_instance s forest kind xs ≡ holds → Keeps (typed_setting s) forest kind (if holds then gives xs forest else raises XPDY0050)) [
      | true ↦ λ e. fact_at_once (typed_setting s) forest (IsOfType s kind) xs honest (instance_belongs s forest kind a xs e b)
      | false ↦ λ _. tt
    ] refl

pub treat_keeps : TreatKeepsType
treat_keeps s kind = single_keeps s (operators.Treat kind) (λ a t forest xs e honest b.
    let same : kind ≡ t = cc in
    subst (λ (u : SequenceType). Keeps (typed_setting s) forest u (treated s kind xs forest)) same (treated_keeps s forest kind a xs honest b))
    (λ t e. cc) (λ a b t ps e. cc)
