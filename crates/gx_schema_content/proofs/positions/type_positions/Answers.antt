use Rattle.std.proofs.Common.{ℕ, List, Option, length, ◌∙◌, ap}
use Rattle.gx_references.specs.Known.{known}
use Rattle.gx_schema_content.specs.PositionKnots.{positions_of_type}
use Rattle.gx_schema_content.proofs.KnotLemmas.{list_means}
use Rattle.gx_schema_content.proofs.positions.type_positions.Goals as goal

pub returns : goal.returns
returns c =
    list_means c.counts_of.result (λ counts. counts.items) (length c.args.types.now) (known 0 c.as_slice.result.now) (positions_of_type c.args.types.now c.args.groups.now)
    (λ n. ap (λ (table : List (Option ℕ)). known 0 table n) c.as_slice.ensures.value ∙ c.in_ok-tables.ensures.types n) c.counts_of.ensures
