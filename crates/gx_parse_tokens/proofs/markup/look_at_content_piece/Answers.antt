use Rattle.std.proofs.Common.{[], ◌∷◌, List}
use Rattle.gx_parse_grammar.specs.declared.runs.Run.TheVariants as run
use Rattle.gx_parse_grammar.specs.declared.word.Word.TheVariants as word
use Rattle.gx_parse_grammar.specs.Basics.{word_of}
use Rattle.gx_parse_grammar.specs.Direct.{start_of}
use Rattle.gx_parse_grammar.specs.Tokens.{Token, text_run, reference}
use Rattle.gx_parse_tokens.proofs.markup.look_at_content_piece.Goals as goal

pub returns : goal.returns
returns c =
    let x = c.args.text.now in
    let start : List Token = start_of c.args.levels ∷ [] in
    let braced : List Token = word_of word.TwoOpenBraces ∷ word_of word.TwoCloseBraces ∷ word_of word.BraceOpen ∷ start in
    let behind_cdata = c.either.ensures (word_of word.TwoOpenBraces ∷ word_of word.TwoCloseBraces ∷ word_of word.BraceOpen ∷ []) start x c.look_at_braces-braces.ensures c.look_at_element-element.ensures in
    let behind_reference = c.either-2.ensures (word_of word.CdataOpen ∷ []) braced x c.look_at_word-cdata.ensures behind_cdata in
    let behind_text = c.either-3.ensures (reference ∷ []) (word_of word.CdataOpen ∷ braced) x c.look_at_reference-reference.ensures behind_reference in
    c.either-4.ensures (text_run run.Content ∷ []) (reference ∷ word_of word.CdataOpen ∷ braced) x c.look_at_text-literal.ensures behind_text
