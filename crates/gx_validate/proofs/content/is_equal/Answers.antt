use Rattle.gx_validate.proofs.UnequalNames.{lengths_tell}
use Rattle.gx_validate.proofs.content.is_equal.Goals as goal

pub returns-then-as_str : goal.returns-then-as_str
returns-then-as_str c = lengths_tell c.args.wanted.now c.args.name.now c.as_str.result.now c.as_str-2.result.now c.as_str.ensures.bytes c.as_str-2.ensures.bytes c.if-as_str.true
