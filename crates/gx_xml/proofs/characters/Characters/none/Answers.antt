use Rattle.std.proofs.Common.{length, sym, ap}
use Rattle.std.proofs.lemmas.Str.{chars-nil}
use Rattle.gx_xml.proofs.characters.Characters.none.Goals as goal

pub invariant_of-result : goal.invariant_of-result
invariant_of-result c = record { counted = sym (ap length chars-nil) }

pub returns : goal.returns
returns c = chars-nil
