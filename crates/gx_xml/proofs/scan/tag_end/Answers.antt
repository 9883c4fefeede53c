use Rattle.std.proofs.Common.{◌∙◌, ap, ◌∷◌}
use Rattle.gx_xml.specs.Characters.{spelled}
use Rattle.gx_xml.specs.Marks.{choice_words}
use Rattle.gx_xml.proofs.TagWords.{end_of_tag}
use Rattle.gx_xml.proofs.scan.tag_end.Goals as goal

pub returns : goal.returns
unfolding choice_words
returns c = c.or.ensures _ (c.or-found.ensures _ c.no_word-found.ensures)

pub returns-in-Some-eq62-default : goal.returns-in-Some-eq62-default
returns-in-Some-eq62-default c = end_of_tag c.found_word.result c.in-Some-eq62-default.behind (spelled c.args.text) (c.in-Some-eq62-default.ensures.some ∙ ap (λ d. d ∷ spelled c.in-Some-eq62-default.behind) c.in-Some-eq62-default.field-0-0-test) c.found_word.ensures.word c.found_word.ensures.seen
