use Rattle.std.proofs.Common.{◌≡◌, ℕ, List, ap, sym, ◌∙◌, subst}
use Rattle.std.specs.Prelude.{IfOk}
use Rattle.gx_atomic.specs.JoinKey.{same_key}
use Rattle.gx_join_table.specs.Joining.{rows_with_a_key}
use Rattle.gx_join_table.specs.TableView.{keys_of_rows}
use Rattle.gx_join_table.proofs.NumberLemmas.{rows_of_one, only_one}
use Rattle.gx_join_table.proofs.join_table.JoinTable.rows.Goals as goal

pub returns-in-len1-clause-rows : goal.returns-in-len1-clause-rows
returns-in-len1-clause-rows g c =
    let table = keys_of_rows c.self.inside.rows.items in
    let key = c.key-item.result in
    let found : c.rows.result.now ≡ rows_with_a_key c.args.keys.now c.args.self.now =
    c.rows.ensures.rows ∙ c.self.invariant.found key ∙ rows_of_one same_key table key
    ∙ ap (λ keys. rows_with_a_key keys table) (sym (only_one c.args.keys.now key c.in-len1.len_at_least c.in-len1.len_below c.key-item.is))
    ∙ ap (rows_with_a_key c.args.keys.now) c.self.view_is in
    subst (λ (l : List ℕ). IfOk c.from_slice.result (λ rows. rows.items ≡ l)) found c.from_slice.ensures.items
