use Rattle.std.proofs.Common.{◌≡◌, ◌+◌, ◌++◌, length, List, vec_len}
use Rattle.gx_join_table.specs.KeyIndex.{IsAligned, IsPutUnderEach}
use Rattle.gx_join_table.proofs.key_index.KeyIndex.insert_row.Given as goal

-- the row is put under the keys that are no longer left
abbrev pub invariant-loop-key : goal.invariant-loop-key
invariant-loop-key g l =
    IsAligned l.self.keys.keys l.self.rows.items
    × ((done : List g.row.K.Denot) × (l.fn.keys.items ≡ l.keys.items ++ done)
    × IsPutUnderEach g.K.PartialEq.eq done l.row l.fn.self.keys.keys l.fn.self.rows.items l.self.keys.keys l.self.rows.items)
    × (l.steps + length l.keys.items ≡ l.fn.steps + length l.fn.keys.items)

abbrev pub decreases-loop-key : goal.decreases-loop-key
decreases-loop-key g l = vec_len l.keys
