use Rattle.std.proofs.Common.{◌∙◌, false, sym, ap}
use Rattle.std.specs.Prelude.{option_copied}
use Rattle.gx_include_followers.specs.Rows.{end_row}
use Rattle.gx_include_followers.proofs.RowLemmas.{said_there, said_not}
use Rattle.gx_include_followers.proofs.followers.ends_at.Goals as goal

pub returns-in-Some : goal.returns-in-Some
returns-in-Some c = sym (said_there c.args.nullable end_row c.args.rows.now false c.args.place c.in-Some.row.now c.if-place-eq0.false (sym c.row_of.ensures ∙ ap option_copied c.in-Some.is))

pub returns-in-None : goal.returns-in-None
returns-in-None c = sym (said_not c.args.nullable end_row c.args.rows.now false c.args.place c.if-place-eq0.false (sym c.row_of.ensures ∙ ap option_copied c.in-None.is))
