-- Which extensions are mixed where their bases are not, by what is seen of contents without writing them out.
use Rattle.std.specs.Prelude.{ℕ, Bool, false, ◌||◌, ◌&&◌, not}
use Rattle.gx_schema_components.specs.declared.component.ComplexType.{ComplexType}
use Rattle.gx_schema_content.specs.declared.outline.Outline.{Outline}
use Rattle.gx_schema_content.specs.declared.outline.TypeOutline.{TypeOutline}
use Rattle.gx_schema_content.specs.declared.source.ContentSource.{ContentSource}
use Rattle.gx_schema_content.specs.declared.source.ContentSource.TheVariants as sources
use Rattle.gx_schema_content.specs.Extensions.{differ}
use Rattle.gx_schema_content.specs.Outlines.{is_empty_outline, outline_of_base, written_outline}
use Rattle.gx_schema_content.specs.Sources.{source_of}

-- what is known of groups and types: their outlines
pub record KnownOutlines : Type 0 where
  pub groups : ℕ → Outline
  pub types : ℕ → TypeOutline

abbrev pub is_empty_type : TypeOutline → Bool
is_empty_type outline = is_empty_outline outline.content && not outline.mixed

abbrev pub outline_differs : (mixed : Bool) (added : Outline) (base : TypeOutline) → Bool
outline_differs mixed added base = differ mixed base.mixed && (not (is_empty_type base) && (not (is_empty_outline added) || mixed))

abbrev pub outlined_source_differs : KnownOutlines → ContentSource → (mixed : Bool) (added : Outline) → Bool
outlined_source_differs known sources.Simple mixed added = false
outlined_source_differs known sources.Written mixed added = false
outlined_source_differs known (sources.Behind base) mixed added = outline_differs mixed added (outline_of_base known.types base)

abbrev pub outlined_definition_differs : KnownOutlines → ComplexType → Bool
outlined_definition_differs known definition = outlined_source_differs known (source_of definition.derivation) definition.mixed (written_outline known.groups definition.content)
