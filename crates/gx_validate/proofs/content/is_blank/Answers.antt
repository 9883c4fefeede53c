use Rattle.std.proofs.Common.{◌≡◌, ◌∙◌, ap}
use Rattle.std.specs.Str.Iter.{chars_rest}
use Rattle.gx_qnames.specs.Lexical.{is_blank}
use Rattle.gx_qnames.proofs.CharacterLemmas.{encoded_is_utf8, encoded_characters}
use Rattle.gx_validate.proofs.content.is_blank.Goals as goal

pub loop-character-init : goal.loop-character-init
loop-character-init c =
    let rest : chars_rest c.chars-rest.result ≡ c.as_str.result.now = c.chars-rest.ensures.rest in
    record {
      utf8 = encoded_is_utf8 c.args.text.now _ c.as_str.ensures.characters (rest ∙ c.as_str.ensures.bytes);
      same = ap is_blank (encoded_characters c.args.text.now _ c.as_str.ensures.characters (rest ∙ c.as_str.ensures.bytes));
    }
