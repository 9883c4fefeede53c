use Rattle.std.proofs.Common.{◌∙◌, refl}
use Rattle.gx_funcs.proofs.TextLemmas.{utf8_from, chars_from}
use Rattle.gx_funcs.proofs.normal_forms.in_capitals.Goals as goal

pub loop-c-init : goal.loop-c-init
loop-c-init c =
    let bytes = c.chars-rest.ensures.rest ∙ c.as_str.ensures.bytes in
    record {
      text = utf8_from c.args.text.now _ c.as_str.ensures.characters bytes;
      same = rw (c.new-done.ensures, chars_from c.args.text.now _ c.as_str.ensures.characters bytes) refl;
    }
