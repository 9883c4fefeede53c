use Rattle.std.proofs.Common.{◌∙◌}
use Rattle.gx_facets.proofs.Texts.{text_of, chars_of}
use Rattle.gx_facets.proofs.Words.{one_pass}
use Rattle.gx_facets.proofs.white_space.collapse.Goals as goal

pub loop-c-init : goal.loop-c-init
loop-c-init c =
    let bytes = c.chars-rest.ensures.rest ∙ c.as_str.ensures.bytes in
    record {
      text = text_of c.args.text.now _ c.as_str.ensures.characters bytes;
      same = rw (c.new-done.ensures, chars_of c.args.text.now _ c.as_str.ensures.characters bytes) (one_pass c.args.text.now);
    }
