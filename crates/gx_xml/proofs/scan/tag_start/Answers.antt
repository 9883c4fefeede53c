use Rattle.std.proofs.Common.{◌∙◌, ap, ◌∷◌, sym}
use Rattle.gx_xml.specs.Characters.{spelled}
use Rattle.gx_xml.proofs.TagWords.{end_tag, start_tag}
use Rattle.gx_xml.proofs.scan.tag_start.Goals as goal

pub returns-then-second-eq47 : goal.returns-then-second-eq47
returns-then-second-eq47 c =
    end_tag c.found_word.result c.in_ok-second.tail (spelled c.args.text)
    (c.in_ok-first.ensures.some ∙ ap (λ d. d ∷ spelled c.in_ok-first.behind) c.if-first-ne60.false ∙ ap (λ t. 60 ∷ t) (c.in_ok-second.ensures.some ∙ ap (λ d. d ∷ spelled c.in_ok-second.tail) c.if-second-eq47.true))
    c.found_word.ensures.word c.found_word.ensures.seen

pub returns : goal.returns
returns c =
    start_tag c.found_word-2.result c.in_ok-first.behind (spelled c.args.text) (spelled c.in_ok-second.tail) c.in_ok-second.second
    (c.in_ok-first.ensures.some ∙ ap (λ d. d ∷ spelled c.in_ok-first.behind) c.if-first-ne60.false)
    c.in_ok-second.ensures.some (sym c.if-stops.ensures) c.found_word-2.ensures.word c.found_word-2.ensures.seen
