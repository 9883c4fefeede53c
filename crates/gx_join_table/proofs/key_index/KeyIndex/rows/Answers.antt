use Rattle.std.proofs.Common.{sym, ap, ◌∙◌}
use Rattle.gx_join_table.specs.KeyIndex.{rows_at_place}
use Rattle.gx_join_table.proofs.IndexLemmas.{rows_found, no_rows_found}
use Rattle.gx_join_table.proofs.key_index.KeyIndex.rows.Goals as goal

pub returns-in-Some-clause-rows : goal.returns-in-Some-clause-rows
returns-in-Some-clause-rows g c =
    c.rows_at.ensures ∙ ap (λ v. rows_at_place v c.in-Some.place) c.as_slice.ensures.value
    ∙ rows_found g.K.PartialEq.eq c.args.key.now c.args.self.now.keys.keys c.args.self.now.rows.items c.in-Some.place (sym c.get_index_of.ensures.index ∙ c.in-Some.is)

pub returns-in-None-clause-rows : goal.returns-in-None-clause-rows
returns-in-None-clause-rows g c =
    no_rows_found g.K.PartialEq.eq c.args.key.now c.args.self.now.keys.keys c.args.self.now.rows.items (sym c.get_index_of.ensures.index ∙ c.in-None.is)
