use Rattle.std.proofs.Common.{ap, ◌∙◌}
use Rattle.std.specs.Prelude.{bytes_eq}
use Rattle.gx_xml.proofs.SpelledLemmas.{text_is}
use Rattle.gx_xml.proofs.shared_texts.spells.Goals as goal

pub returns : goal.returns
returns c =
    text_is c.args.text.now c.args.characters.now c.eq.result c.as_str.ensures.characters c.utf8.characters (c.eq.ensures ∙ ap (λ x. bytes_eq x c.args.characters.now) c.as_str.ensures.bytes)
