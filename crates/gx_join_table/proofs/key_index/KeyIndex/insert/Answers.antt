use Rattle.std.proofs.Common.{◌≡◌, ap, ◌∙◌}
use Rattle.indexmap.specs.IndexSet.{insert_key}
use Rattle.gx_join_table.proofs.IndexLemmas.{HasPlace, place_is_new, place_is_there, row_is_put}
use Rattle.gx_join_table.proofs.key_index.KeyIndex.insert.Goals.{then-added+in_ok-push, else-added}
use Rattle.gx_join_table.proofs.key_index.KeyIndex.insert.Goals as goal

pub returns-clause-put : goal.returns-clause-put
returns-clause-put g c =
    let old = c.args.self.now in
    let now = c.if-added.self in
    let placed = elim c.if-added.branch as (λ _. (now.keys.keys ≡ c.insert_full.new.self.keys) × HasPlace c.in_ok-place.added old.rows.items now.rows.items) [
      | then-added+in_ok-push w ↦ (
        ap (λ index. index.keys.keys) w.self-is,
        place_is_new c.in_ok-place.added old.rows.items w.push.new.self.items now.rows.items w.new.result w.if-added.true w.new.ensures.items w.in_ok-push.ensures.items (ap (λ index. index.rows.items) w.self-is),
      )
      | else-added w ↦ (
        ap (λ index. index.keys.keys) w.self-is,
        place_is_there c.in_ok-place.added old.rows.items now.rows.items w.if-added.false (ap (λ index. index.rows.items) w.self-is),
      )
    ] in
    let keys : now.keys.keys ≡ insert_key g.K.PartialEq.eq old.keys.keys c.args.key = placed.0 ∙ c.in_ok-place.ensures.keys in
    row_is_put g.K.PartialEq.eq g.met.K.Eq.laws c.args.key c.args.row old.keys.keys now.keys.keys old.rows.items now.rows.items
    c.in_ok-place.place c.in_ok-place.added c.index_mut.result.now c.put_last.new.numbers c.requires keys c.in_ok-place.ensures.added c.in_ok-place.ensures.index placed.1
    c.index_mut.ensures.value c.in_ok-put_last.ensures
