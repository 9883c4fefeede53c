use Rattle.std.proofs.Common.{◌∙◌, refl}
use Rattle.gx_funcs.proofs.TextLemmas.{utf8_from, chars_from}
use Rattle.gx_funcs.proofs.texts.character_map.Goals as goal

pub loop-source-init : goal.loop-source-init
loop-source-init c =
    let source = c.chars-sources.ensures.rest ∙ c.as_str.ensures.bytes in
    let other = c.chars-targets.ensures.rest ∙ c.as_str-2.ensures.bytes in
    record {
      sources = utf8_from c.args.from.now _ c.as_str.ensures.characters source;
      targets = utf8_from c.args.to.now _ c.as_str-2.ensures.characters other;
      same = λ q. rw (c.new-map.ensures.empty, chars_from c.args.from.now _ c.as_str.ensures.characters source, chars_from c.args.to.now _ c.as_str-2.ensures.characters other) refl;
    }
