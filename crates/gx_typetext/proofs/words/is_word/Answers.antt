use Rattle.std.proofs.Common.{◌∙◌, ap, nat_eq}
use Rattle.std.specs.Cmp.Lexicographic.{pointwise}
use Rattle.gx_typetext.proofs.WordTests.{text_is}
use Rattle.gx_typetext.proofs.words.is_word.Goals as goal

pub returns : goal.returns
returns c = c.eq.ensures ∙ ap (λ b. pointwise nat_eq b c.args.word.now) c.as_str.ensures.bytes ∙ text_is c.args.local.now c.args.word.now c.as_str.ensures.characters c.utf8.word
