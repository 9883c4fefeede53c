use Rattle.gx_type_laws.proofs.PublicLaws.{rules_keep_items}
use Rattle.gx_type_laws.proofs.laws.rules_keep_items.Goals as goal

pub returns : goal.returns
returns c = rules_keep_items
