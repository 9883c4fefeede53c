use Rattle.std.proofs.Common.{[], ◌∷◌}
use Rattle.gx_parse_grammar.specs.declared.word.Word.TheVariants as word
use Rattle.gx_parse_grammar.specs.Basics.{word_of}
use Rattle.gx_parse_tokens.proofs.markup.look_at_braces.Goals as goal

pub returns : goal.returns
returns c =
    let closes = c.either.ensures (word_of word.TwoCloseBraces ∷ []) (word_of word.BraceOpen ∷ []) c.args.text.now c.look_at_word-closes.ensures c.look_at_word-encloses.ensures in
    c.either-2.ensures (word_of word.TwoOpenBraces ∷ []) (word_of word.TwoCloseBraces ∷ word_of word.BraceOpen ∷ []) c.args.text.now c.look_at_word-opens.ensures closes
