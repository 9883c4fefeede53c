use Rattle.std.proofs.Common.{ap, ◌∙◌}
use Rattle.std.specs.Str.{chars}
use Rattle.std.proofs.lemmas.Str.{chars-encodes}
use Rattle.gx_parse_tokens.proofs.names.characters_of.Goals as goal

pub returns : goal.returns
returns c = c.in_ok-list.ensures ∙ ap chars c.as_str.ensures.bytes ∙ chars-encodes c.args.text.now c.as_str.ensures.characters
