use Rattle.std.proofs.Common.{[], ◌∷◌, subst}
use Rattle.gx_parse_grammar.specs.declared.runs.Run.TheVariants as run
use Rattle.gx_parse_grammar.specs.declared.word.Word.TheVariants as word
use Rattle.gx_parse_grammar.specs.Basics.{word_of}
use Rattle.gx_parse_grammar.specs.Strings.{doubled_of}
use Rattle.gx_parse_grammar.specs.Tokens.{text_run, reference}
use Rattle.gx_parse_tokens.specs.Markup.{LooksAt}
use Rattle.gx_parse_tokens.proofs.markup.look_at_value_piece.Goals as goal

pub returns : goal.returns
returns c =
    let x = c.args.text.now in
    let doubled = subst (λ w. LooksAt (word_of w ∷ []) x c.look_at_word-doubled.result) c.doubled.ensures c.look_at_word-doubled.ensures in
    let rest = c.either.ensures (reference ∷ []) (word_of word.TwoOpenBraces ∷ word_of word.TwoCloseBraces ∷ word_of word.BraceOpen ∷ []) x c.look_at_reference-reference.ensures c.look_at_braces-braces.ensures in
    let others = c.either-2.ensures (word_of (doubled_of c.args.quote) ∷ []) (reference ∷ word_of word.TwoOpenBraces ∷ word_of word.TwoCloseBraces ∷ word_of word.BraceOpen ∷ []) x doubled rest in
    c.either-3.ensures (text_run (run.Attribute c.args.quote) ∷ []) (word_of (doubled_of c.args.quote) ∷ reference ∷ word_of word.TwoOpenBraces ∷ word_of word.TwoCloseBraces ∷ word_of word.BraceOpen ∷ []) x c.look_at_text-literal.ensures others
