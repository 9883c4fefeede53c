use Rattle.std.proofs.Common.{sym, ap, subst, ◌∙◌}
use Rattle.std.specs.Str.{chars, IsUtf8}
use Rattle.std.proofs.lemmas.Str.{chars-encodes}
use Rattle.gx_base.specs.WhiteSpace.{is_white_space}
use Rattle.gx_grammar.specs.Tokens.{all_pass}
use Rattle.gx_parse_grammar.proofs.pieces.is_blank.Goals as goal

pub loop-character-init : goal.loop-character-init
loop-character-init c = record {
  text = subst IsUtf8 (sym c.chars-rest.ensures.rest) c.as_str.utf8;
  same = ap (λ b. all_pass is_white_space (chars b)) (c.chars-rest.ensures.rest ∙ c.as_str.ensures.bytes) ∙ ap (all_pass is_white_space) (chars-encodes c.args.text.now c.as_str.ensures.characters);
}
