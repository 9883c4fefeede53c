-- The table of a join as its rows.
use Rattle.std.specs.Prelude.{List, map}
use Rattle.std.specs.declared.snapshot.Snapshot.{Snapshot}
use Rattle.std.specs.Prelude.{Vec}
use Rattle.std.specs.Global.{Global}
use Rattle.gx_atomic.specs.declared.join_key.JoinKey.{JoinKey}

-- the keys of each row
abbrev pub keys_of_rows : List (Snapshot (Vec JoinKey Global)) → List (List JoinKey)
keys_of_rows rows = map (λ row. row.value.items) rows
