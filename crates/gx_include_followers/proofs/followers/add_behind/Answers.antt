use Rattle.std.proofs.Common.{◌≡◌, ◌++◌, ◌∙◌, List, [], ℕ, sym, ap, subst}
use Rattle.std.proofs.lemmas.List.{append-nil}
use Rattle.std.specs.Prelude.{OnOk, option_copied}
use Rattle.gx_include_followers.specs.Rope.{numbers_of}
use Rattle.gx_include_followers.specs.Rows.{behind_row}
use Rattle.gx_include_followers.proofs.RowLemmas.{said_there, said_not}
use Rattle.gx_include_followers.proofs.followers.add_behind.Goals as goal

pub returns-in-Some : goal.returns-in-Some
returns-in-Some c =
    let said =
    said_there (numbers_of c.args.firsts.now) behind_row c.args.rows.now [] c.args.place c.in-Some.row.now c.if-place-eq0.false (sym c.row_of.ensures ∙ ap option_copied c.in-Some.is) in
    subst (λ (ns : List ℕ). OnOk c.add_numbers-in-Some.result (c.add_numbers-in-Some.new.numbers.items ≡ c.args.numbers.now.items ++ ns)) (ap numbers_of c.deref.ensures ∙ sym said) c.add_numbers-in-Some.ensures

pub returns-in-None : goal.returns-in-None
returns-in-None c =
    let said = said_not (numbers_of c.args.firsts.now) behind_row c.args.rows.now [] c.args.place c.if-place-eq0.false (sym c.row_of.ensures ∙ ap option_copied c.in-None.is) in
    sym (append-nil c.args.numbers.now.items) ∙ ap (λ (ns : List ℕ). c.args.numbers.now.items ++ ns) (sym said)
