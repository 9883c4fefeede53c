-- The facets of a type and of its bases.
use Rattle.std.proofs.Common.{◌≡◌, ℕ, suc, ◌++◌, List, Option, Some, slice_get, sym, ◌∙◌, ap, append_assoc}
use Rattle.std.specs.Option.{option_to_list}
use Rattle.gx_facets.specs.declared.restriction.Facets.{Facets}
use Rattle.gx_schema_simple.specs.Circles.{named_next}
use Rattle.gx_schema_simple.specs.Meanings.{facets_within}

-- the facets of one type more
pub facets_step : (bases : List (Option ℕ)) (own : List Facets) (before more : List Facets) (left steps number : ℕ) → left ≡ suc steps → more ≡ before ++ option_to_list (slice_get own number) →
    more ++ facets_within bases own steps (named_next bases number) ≡ before ++ facets_within bases own left (Some number)
facets_step bases own before more left steps number size added =
    ap (λ (fs : List Facets). fs ++ facets_within bases own steps (named_next bases number)) added
    ∙ append_assoc before (option_to_list (slice_get own number)) (facets_within bases own steps (named_next bases number))
    ∙ ap (λ (n : ℕ). before ++ facets_within bases own n (Some number)) (sym size)
