use Rattle.std.proofs.Common.{refl}
use Rattle.gx_parse_tokens.proofs.names.ReadName.among.Goals as goal

pub loop-word-init : goal.loop-word-init
loop-word-init g c = refl
