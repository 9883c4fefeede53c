use Rattle.std.proofs.Common.{refl}
use Rattle.gx_parse_tokens.proofs.MarkupScans.{both_looked}
use Rattle.gx_parse_tokens.proofs.markup.either.Goals as goal

pub returns : goal.returns
returns c = λ ts us x h k. both_looked ts us x c.args.first c.args.second _ refl c.min.ensures h k
