use Rattle.std.proofs.Common.{sym, ◌∙◌}
use Rattle.gx_parse_tokens.proofs.NameScans.{one_ncname}
use Rattle.gx_parse_tokens.proofs.names.find_ncname.Goals as goal

pub returns-clause-name : goal.returns-clause-name
returns-clause-name c = (one_ncname c.args.text.now c.in_ok-name.name c.in_ok-name.behind.now (sym c.begins_name.ensures ∙ c.if-not-begins_name.false) c.in_ok-name.ensures.0 c.in_ok-name.ensures.1).0

pub returns-clause-seen : goal.returns-clause-seen
returns-clause-seen c = sym (one_ncname c.args.text.now c.in_ok-name.name c.in_ok-name.behind.now (sym c.begins_name.ensures ∙ c.if-not-begins_name.false) c.in_ok-name.ensures.0 c.in_ok-name.ensures.1).1
