use Rattle.std.proofs.Common.{sym, ◌∙◌}
use Rattle.std.specs.Str.{chars}
use Rattle.gx_xml.proofs.resolve.uri_of.Goals as goal

pub returns-then-is_xml : goal.returns-then-is_xml
unfolding chars
returns-then-is_xml c = rw (sym c.is_xml.ensures ∙ c.if-is_xml.true) c.from_str.ensures
