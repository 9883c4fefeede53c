use Rattle.gx_static.proofs.NormalTyping.{typing_gives_normal_types}
use Rattle.gx_static.proofs.laws.typing_gives_normal_types.Goals as goal

pub returns : goal.returns
returns c = typing_gives_normal_types
