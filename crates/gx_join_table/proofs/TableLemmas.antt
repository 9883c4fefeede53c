-- The rows of a table, where one is added.
use Rattle.std.proofs.Common.{◌≡◌, List, [], ◌∷◌, ◌++◌, ap, ◌∙◌}
use Rattle.std.specs.Prelude.{Vec}
use Rattle.std.specs.Global.{Global}
use Rattle.std.specs.declared.snapshot.Snapshot.{Snapshot}
use Rattle.std.proofs.lemmas.List.{map-append}
use Rattle.gx_atomic.specs.declared.join_key.JoinKey.{JoinKey}
use Rattle.gx_join_table.specs.TableView.{keys_of_rows}

pub keys_with_one_row_more : (rows next : List (Snapshot (Vec JoinKey Global))) (row : Snapshot (Vec JoinKey Global)) (keys : Vec JoinKey Global)
    → next ≡ rows ++ row ∷ [] → row.value ≡ keys → keys_of_rows next ≡ keys_of_rows rows ++ keys.items ∷ []
keys_with_one_row_more rows next row keys n v =
    ap keys_of_rows n ∙ map-append (λ r. r.value.items) rows (row ∷ []) ∙ ap (λ (w : Vec JoinKey Global). keys_of_rows rows ++ w.items ∷ []) v
