use Rattle.std.proofs.Common.{◌≡◌, ◌<◌, [], ◌∷◌, ◌++◌, Some, Vec, Global, slice_get, length, refl, sym, ◌∙◌, ap, arith}
use Rattle.std.proofs.lemmas.Option.{slice_get-get_or}
use Rattle.gx_include_letters.specs.declared.letter.Letter.{Letter}
use Rattle.gx_include_letters.specs.Alphabet.{LetterEntry, entries_of_column}
use Rattle.gx_include_letters.proofs.Columns.{one_more, past_columns}
use Rattle.gx_include_letters.proofs.alphabet.add_letter.Goals as goal

pub returns-in_ok-push_letter : goal.returns-in_ok-push_letter
returns-in_ok-push_letter c =
    let entry : LetterEntry = (c.args.place, c.args.shape.now, c.args.takers.now) in
    let within : c.args.place < length c.args.columns.now.items = omega (arith, c.len.ensures, c.if-place-len.true) in
    let at : slice_get c.args.columns.now.items c.args.place ≡ Some c.index_mut.result.now =
    slice_get-get_or c.args.columns.now.items c.args.place c.index_mut.result.now within ∙ ap (λ (v : Vec Letter Global). Some v) (sym c.index_mut.ensures.value) in
    one_more c.args.columns.now.items _ entry c.index_mut.result.now c.push_letter.new.letters within at refl
    (c.in_ok-push_letter.ensures ∙ ap (λ (e : LetterEntry). entries_of_column c.index_mut.result.now ++ e ∷ []) c.in_ok-letter.ensures)

pub returns-else-place-len : goal.returns-else-place-len
returns-else-place-len c =
    let entry : LetterEntry = (c.args.place, c.args.shape.now, c.args.takers.now) in
    past_columns c.args.columns.now.items entry (omega (arith, c.len.ensures, c.if-place-len.false))
