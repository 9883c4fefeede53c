use Rattle.std.proofs.Common.{sym, ◌∙◌, ap, ◌++◌, Option}
use Rattle.std.proofs.lemmas.List.{append-nil}
use Rattle.std.proofs.lemmas.Option.{slice_get_past}
use Rattle.gx_include_letters.specs.declared.letter.Letter.{Letter}
use Rattle.gx_include.specs.Runs.{shapes_of_letter}
use Rattle.gx_include.proofs.decide.add_shape.Goals as goal

pub returns-else-number-letters : goal.returns-else-number-letters
returns-else-number-letters c =
    sym (append-nil c.args.list.now.items)
    ∙ ap (λ (o : Option Letter). c.args.list.now.items ++ shapes_of_letter o) (sym (slice_get_past c.args.letters.now c.args.number c.if-number-letters.false))
