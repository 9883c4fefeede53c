-- Positions that are counted twice.
use Rattle.std.proofs.Common.{◌≡◌, ℕ, refl, arith}
use Rattle.gx_schema_content.specs.declared.source.ContentSource.{ContentSource}
use Rattle.gx_schema_content.specs.declared.source.ContentSource.TheVariants as sources
use Rattle.gx_schema_content.specs.GroupPositions.{counted}
use Rattle.gx_schema_content.specs.TypePositions.{sourced_positions}

pub sourced_counted : (types : ℕ → ℕ) (source : ContentSource) (written : ℕ) → counted (sourced_positions types source (counted written)) ≡ counted (sourced_positions types source written)
sourced_counted types sources.Simple written = refl
sourced_counted types sources.Written written = omega arith
sourced_counted types (sources.Behind base) written = omega arith
