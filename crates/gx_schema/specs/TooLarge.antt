-- What passes the limits on schemas: contents, occurrences, and the number of declarations.
use Rattle.std.specs.Prelude.{ℕ, nat_lt, Bool, ◌||◌, ◌&&◌, List, length, Option, option_map}
use Rattle.gx_base.specs.declared.limits.TheConstants.{CONTENT_POSITIONS}
use Rattle.gx_schema_syntax.specs.DocumentTree.{DocumentTree}
use Rattle.gx_schema_content.specs.ContentKnots.{content_of_type}
use Rattle.gx_schema_content.specs.GroupPositions.{positions_with_texts}
use Rattle.gx_schema_content.specs.PositionKnots.{positions_of_type}
use Rattle.gx_schema.specs.declared.found.Found.{Found}
use Rattle.gx_schema.specs.FirstFound.{earlier_found}
use Rattle.gx_schema.specs.DeclarationCount.{past_declaration_limit}
use Rattle.gx_schema.specs.FirstNumber.{first_number}
use Rattle.gx_schema.specs.Found.{found_by_number, types_found}
use Rattle.gx_schema.specs.Occurrences.{past_occurrence_limit}
use Rattle.gx_schema.specs.SeenComponents.{SeenComponents}

-- a content of so many positions, where its texts count, has too many
abbrev pub has_too_many : (mixed : Bool) (positions : ℕ) → Bool
has_too_many mixed positions = nat_lt CONTENT_POSITIONS positions || (mixed && nat_lt CONTENT_POSITIONS (positions_with_texts positions))

abbrev pub is_too_large : SeenComponents → ℕ → Bool
is_too_large seen number = has_too_many (content_of_type seen.types seen.groups number).mixed (positions_of_type seen.types seen.groups number)

abbrev pub large_content : List DocumentTree → SeenComponents → Option Found
large_content documents seen = option_map (found_by_number (types_found 0 documents)) (first_number (is_too_large seen) 0 (length seen.types))

-- at one place the content goes before an occurrence, and that before the number of declarations
abbrev pub too_large : List DocumentTree → SeenComponents → Option Found
too_large documents seen = earlier_found (large_content documents seen) (earlier_found (past_occurrence_limit documents) (past_declaration_limit documents))
