use Rattle.std.proofs.Common.{◌≡◌, ◌++◌, ap, ◌∙◌}
use Rattle.std.specs.Str.Iter.{chars_rest}
use Rattle.gx_plantext.specs.LiteralText.{quotes_doubled}
use Rattle.gx_plantext.proofs.LiteralLemmas.{utf8_of_characters, characters_of_utf8}
use Rattle.gx_plantext.proofs.literals.push_doubled.Goals as goal

pub loop-character-init : goal.loop-character-init
loop-character-init c =
    let rest : chars_rest c.chars-rest.result ≡ c.as_str.result.now = c.chars-rest.ensures.rest in
    record {
      text = utf8_of_characters c.args.characters.now _ c.as_str.ensures.characters (rest ∙ c.as_str.ensures.bytes);
      added = ap (λ cs. c.args.text.now ++ quotes_doubled cs) (characters_of_utf8 c.args.characters.now _ c.as_str.ensures.characters (rest ∙ c.as_str.ensures.bytes));
    }
