use Rattle.std.specs.Str.{chars}
use Rattle.gx_schema_syntax.proofs.outside.any_simple_type.Goals as goal

pub returns : goal.returns
unfolding chars
returns c = c.from_str.ensures
