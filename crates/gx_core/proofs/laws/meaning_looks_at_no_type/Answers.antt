use Rattle.gx_core.proofs.PlainMeaning.{meaning_looks_at_no_type}
use Rattle.gx_core.proofs.laws.meaning_looks_at_no_type.Goals as goal

pub returns : goal.returns
returns c = meaning_looks_at_no_type
