use Rattle.std.proofs.Common.{arith, ap, ◌∙◌, length}
use Rattle.std.specs.Str.{encode_utf8_all}
use Rattle.std.proofs.lemmas.Str.{encodes-chars}
use Rattle.gx_subtype.proofs.subtype.type_of.Goals as goal

pub read_type-requires : goal.read_type-requires
read_type-requires c = omega (arith, c.requires, ap length (ap encode_utf8_all c.in_ok-text.ensures ∙ encodes-chars c.args.text.now c.utf8.text))
