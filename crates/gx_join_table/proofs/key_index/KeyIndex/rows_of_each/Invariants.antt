use Rattle.std.proofs.Common.{◌≡◌, ◌+◌, ◌++◌, length}
use Rattle.std.specs.List.{flat_map}
use Rattle.gx_join_table.specs.KeyIndex.{rows_under}
use Rattle.gx_join_table.proofs.key_index.KeyIndex.rows_of_each.Given as goal

-- what is found, and what is found of the keys that are left
abbrev pub invariant-loop-key : goal.invariant-loop-key
invariant-loop-key g l =
    (l.found.items ++ flat_map (λ key. rows_under g.K.PartialEq.eq key l.self.keys.keys l.self.rows.items) l.left
    ≡ flat_map (λ key. rows_under g.K.PartialEq.eq key l.self.keys.keys l.self.rows.items) l.fn.keys)
    × (l.steps + length l.left ≡ l.fn.steps + length l.fn.keys)

abbrev pub decreases-loop-key : goal.decreases-loop-key
decreases-loop-key g l = length l.left
