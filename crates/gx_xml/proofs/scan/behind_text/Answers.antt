use Rattle.gx_xml.proofs.SpelledLemmas.{behind_front}
use Rattle.gx_xml.proofs.scan.behind_text.Goals as goal

pub returns : goal.returns
returns c = behind_front c.args.front.now c.args.text.now c.strip_prefix.result c.utf8.front c.strip_prefix.ensures.cases
