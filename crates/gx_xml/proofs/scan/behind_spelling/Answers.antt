use Rattle.std.proofs.Common.{sym, ap, ◌∙◌}
use Rattle.gx_grammar.specs.Tokens.{strip, behind_common}
use Rattle.gx_xml.specs.Characters.{spelled}
use Rattle.gx_xml.proofs.RunLemmas.{strip_whole, common_whole}
use Rattle.gx_xml.proofs.scan.behind_spelling.Goals as goal

pub returns-in-Some-clause-common : goal.returns-in-Some-clause-common
returns-in-Some-clause-common c = sym (ap (behind_common (spelled c.args.letters)) c.in-Some.ensures ∙ common_whole (spelled c.args.letters) (spelled c.in-Some.behind))

pub returns-in-Some-clause-whole : goal.returns-in-Some-clause-whole
returns-in-Some-clause-whole c = ap (strip (spelled c.args.letters)) c.in-Some.ensures ∙ strip_whole (spelled c.args.letters) (spelled c.in-Some.behind)
