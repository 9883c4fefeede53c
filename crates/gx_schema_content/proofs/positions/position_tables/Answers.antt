use Rattle.std.proofs.Common.{ℕ, List, Option, ◌∙◌, ap}
use Rattle.gx_references.specs.Known.{known}
use Rattle.gx_schema_content.proofs.ViewLemmas.{positions_of_types}
use Rattle.gx_schema_content.proofs.positions.position_tables.Goals as goal

pub returns-clause-types : goal.returns-clause-types
returns-clause-types c number =
    c.in_ok-types.ensures number
    ∙ positions_of_types (known 0 c.as_slice.result.now) c.args.types.now c.args.groups.now
    (λ n. ap (λ (table : List (Option ℕ)). known 0 table n) c.as_slice.ensures.value ∙ c.in_ok-groups.ensures n) number
