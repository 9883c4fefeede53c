use Rattle.std.proofs.Common.{◌≡◌, ◌++◌, [], ◌∷◌, ap, length, arith}
use Rattle.std.proofs.lemmas.List.{length-append}
use Rattle.gx_join_table.proofs.IndexLemmas.{key_is_done, row_is_put_under_more}
use Rattle.gx_join_table.proofs.key_index.KeyIndex.insert_row.Goals as goal

pub loop-key-preserved : goal.loop-key-preserved
loop-key-preserved g c =
    let so_far = c.loop-key.invariant.1 in
    let taken : c.loop-key.keys.items ≡ c.pop.new.self.items ++ c.in-Some.key ∷ [] = c.in-Some.ensures.items in (
      c.in_ok-insert.ensures.aligned,
      (
        c.in-Some.key ∷ so_far.0,
        key_is_done g.K.PartialEq.eq c.args.keys.items c.loop-key.keys.items c.pop.new.self.items so_far.0 c.in-Some.key so_far.1 taken,
        row_is_put_under_more g.K.PartialEq.eq so_far.0 c.in-Some.key c.args.row c.args.self.now.keys.keys c.loop-key.self.keys.keys c.insert.new.self.keys.keys
            c.args.self.now.rows.items c.loop-key.self.rows.items c.insert.new.self.rows.items so_far.2 c.in_ok-insert.ensures.put,
      ),
      omega (arith, c.in_ok-insert.ensures.counted, c.loop-key.invariant.2, ap length taken, length-append c.pop.new.self.items (c.in-Some.key ∷ [])),
    )
