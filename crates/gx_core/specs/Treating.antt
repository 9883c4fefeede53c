-- `treat as` (XQuery 1.0, section 3.12.5).
use Rattle.std.specs.Prelude.{if◌then◌else◌}
use Rattle.gx_base.specs.declared.code.Code.TheVariants.{XPDY0050}
use Rattle.gx_types.specs.SchemaSet.{SchemaSet}
use Rattle.gx_types.specs.SequenceType.{SequenceType}
use Rattle.gx_model.specs.Forest.{Forest}
use Rattle.gx_model.specs.Item.{Items}
use Rattle.gx_core.specs.Instances.{is_instance}
use Rattle.gx_core.specs.Outcome.{Outcome, gives, raises}

-- a value as it is, where it is an instance of the type, and else an error
abbrev pub treated : SchemaSet → SequenceType → Items → Forest → Outcome Items
treated schemas kind xs forest = if is_instance schemas forest kind xs then gives xs forest else raises XPDY0050
