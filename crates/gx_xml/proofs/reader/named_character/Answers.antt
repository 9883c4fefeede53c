use Rattle.gx_xml.proofs.CharacterLemmas.{names_none}
use Rattle.gx_xml.proofs.reader.named_character.Goals as goal

pub returns-in_err-character-clause-none : goal.returns-in_err-character-clause-none
returns-in_err-character-clause-none c = λ n. names_none c.args.expected c.args.number c.in_err-character.ensures.cases
