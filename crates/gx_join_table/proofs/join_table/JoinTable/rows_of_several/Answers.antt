use Rattle.std.proofs.Common.{ap, ◌∙◌}
use Rattle.std.specs.List.{flat_map}
use Rattle.gx_atomic.specs.JoinKey.{same_key}
use Rattle.gx_join_table.specs.Joining.{rows_with_a_key}
use Rattle.gx_join_table.specs.TableView.{keys_of_rows}
use Rattle.gx_join_table.proofs.NumberLemmas.{ordered_rows}
use Rattle.gx_join_table.proofs.join_table.JoinTable.rows_of_several.Goals as goal

pub returns-clause-rows : goal.returns-clause-rows
returns-clause-rows g c =
    let inside = c.self.inside in
    ordered_rows same_key (keys_of_rows inside.rows.items) c.args.keys.now c.in_ok-found.found.items c.ordered.result.items
    (c.in_ok-found.ensures.rows ∙ ap (λ f. flat_map f c.args.keys.now) (λ i q. c.self.invariant.found q i))
    c.ordered.ensures.ascending c.ordered.ensures.same
    ∙ ap (rows_with_a_key c.args.keys.now) c.self.view_is
