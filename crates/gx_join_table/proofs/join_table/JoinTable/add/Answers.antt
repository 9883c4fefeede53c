use Rattle.std.proofs.Common.{◌≡◌, ◌++◌, [], ◌∷◌, length, sym, ◌∙◌, subst, arith}
use Rattle.std.proofs.lemmas.List.{length-map}
use Rattle.gx_atomic.specs.JoinKey.{same_key}
use Rattle.gx_join_table.specs.KeyIndex.{IsKeyIndexOf}
use Rattle.gx_join_table.specs.TableView.{keys_of_rows}
use Rattle.gx_join_table.proofs.TableLemmas.{keys_with_one_row_more}
use Rattle.gx_join_table.proofs.IndexLemmas.{index_has_row}
use Rattle.gx_join_table.proofs.join_table.JoinTable.add.Goals as goal

pub invariant_of-self-in-Ok : goal.invariant_of-self-in-Ok
invariant_of-self-in-Ok g c =
    let inside = c.self.inside in
    let next = c.insert_row.new.self in
    let row : c.len-row.result ≡ length (keys_of_rows inside.rows.items) = (let e : c.len-row.result ≡ length inside.rows.items = omega (arith, inside.rows.ok) in e) ∙ sym (length-map inside.rows.items (λ r. r.value.items)) in
    let more : keys_of_rows c.push.new.self.items ≡ keys_of_rows inside.rows.items ++ c.args.keys.items ∷ [] =
    keys_with_one_row_more inside.rows.items c.push.new.self.items c.of.result c.args.keys c.in_ok-push.ensures.items c.of.ensures in
    subst (IsKeyIndexOf same_key next.keys.keys next.rows.items) (sym more)
    (index_has_row same_key inside.index.keys.keys next.keys.keys inside.index.rows.items next.rows.items (keys_of_rows inside.rows.items) c.args.keys.items c.len-row.result
    c.self.invariant row c.in-Ok.ensures.aligned c.in-Ok.ensures.put)
