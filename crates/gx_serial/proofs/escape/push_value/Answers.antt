use Rattle.std.proofs.Common.{◌≡◌, ◌++◌, ap, ◌∙◌}
use Rattle.std.specs.Str.Iter.{chars_rest}
use Rattle.gx_serial.specs.Escape.{value_escaped}
use Rattle.gx_serial.proofs.TextLemmas.{utf8_of_text, chars_of_text}
use Rattle.gx_serial.proofs.escape.push_value.Goals as goal

pub loop-c-init : goal.loop-c-init
loop-c-init c =
    let rest : chars_rest c.chars-rest.result ≡ c.as_str.result.now = c.chars-rest.ensures.rest in
    record {
      text = utf8_of_text c.args.text.now _ c.as_str.ensures.characters (rest ∙ c.as_str.ensures.bytes);
      added = ap (λ cs. c.args.out.now ++ value_escaped cs) (chars_of_text c.args.text.now _ c.as_str.ensures.characters (rest ∙ c.as_str.ensures.bytes));
    }
