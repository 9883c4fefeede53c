use Rattle.std.proofs.Common.{◌≡◌, ◌∙◌, ◌++◌, ℕ, List, ap}
use Rattle.std.specs.Str.{chars}
use Rattle.std.specs.Str.Iter.{chars_rest}
use Rattle.gx_qnames.proofs.CharacterLemmas.{encoded_is_utf8, encoded_characters}
use Rattle.gx_qnames.proofs.characters.characters.Goals as goal

pub loop-character-init : goal.loop-character-init
loop-character-init c =
    let rest : chars_rest c.chars-rest.result ≡ c.as_str.result.now = c.chars-rest.ensures.rest in
    record {
      utf8 = encoded_is_utf8 c.args.text.now _ c.as_str.ensures.characters (rest ∙ c.as_str.ensures.bytes);
      whole = ap (λ (xs : List ℕ). xs ++ chars (chars_rest c.chars-rest.result)) c.new-characters.ensures.items ∙ encoded_characters c.args.text.now _ c.as_str.ensures.characters (rest ∙ c.as_str.ensures.bytes);
    }
