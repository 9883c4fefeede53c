-- The expressions in a query stand at most 40 levels deep.
use Rattle.std.proofs.Common.{ℕ, ◌<◌, arith}
use Rattle.gx_base.specs.declared.place.Place.{Place}
use Rattle.gx_grammar.specs.Levels.{HasRanksBelow}
use Rattle.gx_parse_grammar.specs.declared.word.Setter.{Setter}
use Rattle.gx_parse_grammar.specs.declared.word.Setter.TheVariants as setter_is
use Rattle.gx_parse_grammar.specs.declared.word.Definer.{Definer}
use Rattle.gx_parse_grammar.specs.declared.word.Definer.TheVariants as definer_is
use Rattle.gx_parse_grammar.specs.Grammar.{Phrase, query_language}
use Rattle.gx_parse_grammar.specs.Strings.{string_part, string_parts, quoted}
use Rattle.gx_parse_grammar.specs.Bound.{bound, bound_type}
use Rattle.gx_parse_grammar.specs.Fronts.{rank}
use Rattle.gx_parse_grammar.specs.Prolog.{setter_found, definer_found, text_of, text_literal, prefix, namespace_setter, default_namespace, empty_order_setter, default_setter, boundary_space_setter, construction_setter, ordering_setter, copy_setter, setter, named_schema, default_schema, schema_prefix, more_locations, schema_import, setting, initialiser, variable_definer, parameter, more_parameters, parameters, function_definer, definer, definition, encoding, version, maybe_version, settings, definitions, query}
use Rattle.gx_parse_grammar.proofs.CastsRanks.{written_low, sequence_low}
use Rattle.gx_parse_grammar.proofs.Ranks.{levelled, expression_low}

module _ (at : ℕ → Place) where
  abbrev Low : Phrase → Type 0
  Low A = HasRanksBelow (query_language at) rank 41 A

  text_low : Low text_literal
  unfolding text_literal text_of quoted string_parts string_part
  text_low = (((tt, ((tt, (tt, tt)), tt)), tt), ((tt, ((tt, (tt, tt)), tt)), tt))

  prefix_low : Low (prefix at)
  unfolding prefix
  prefix_low = ((tt, tt), (tt, tt))

  setter_low : (s : Setter) → Low (setter at s)
  unfolding setter namespace_setter default_setter default_namespace empty_order_setter boundary_space_setter construction_setter ordering_setter copy_setter
  setter_low setter_is.Namespace = (prefix_low, text_low)
  setter_low setter_is.Default = (((tt, tt), ((tt, tt), text_low)), ((tt, tt), ((tt, tt), (tt, tt))))
  setter_low setter_is.BoundarySpace = (tt, tt)
  setter_low setter_is.Construction = (tt, tt)
  setter_low setter_is.Ordering = (tt, tt)
  setter_low setter_is.CopyNamespaces = ((tt, tt), ((tt, tt), (tt, tt)))

  import_low : Low (schema_import at)
  unfolding schema_import schema_prefix named_schema default_schema more_locations
  import_low = ((((tt, tt), prefix_low), (((tt, tt), ((tt, tt), (tt, tt))), tt)), (text_low, ((tt, tt), (text_low, ((tt, tt), text_low)))))

  setting_low : Low (setting at)
  unfolding setting
  setting_low = ((λ v. (tt, setter_low (setter_found v))), (tt, (tt, import_low)))

  bound_low : Low (bound at)
  unfolding bound
  bound_low = ((tt, tt), written_low at 41)

  kind_low : Low (bound_type at)
  unfolding bound_type
  kind_low = (((tt, tt), sequence_low at 41), tt)

  highest : 40 < 41
  highest = omega arith

  initialiser_low : Low initialiser
  unfolding initialiser
  initialiser_low = (((tt, tt), highest), (tt, tt))

  parameters_low : Low (parameters at)
  unfolding parameters parameter more_parameters
  parameters_low = ((tt, (tt, tt)), (((bound_low, kind_low), ((tt, tt), (bound_low, kind_low))), (tt, tt)))

  definer_low : (d : Definer) → Low (definer at d)
  unfolding definer variable_definer function_definer
  definer_low definer_is.Variable = (bound_low, (kind_low, initialiser_low))
  definer_low definer_is.Function = (written_low at 41, ((tt, tt), (parameters_low, (kind_low, ((tt, tt), (expression_low at 40, (tt, tt)))))))

  definition_low : Low (definition at)
  unfolding definition
  definition_low = λ v. (tt, definer_low (definer_found v))

  version_low : Low (maybe_version at)
  unfolding maybe_version version encoding
  version_low = (((tt, (tt, ((tt, tt), (((tt, tt), text_low), tt)))), (tt, tt)), tt)

  pub query_ranks : HasRanksBelow (query_language at) (levelled at).rank 41 (query at)
  unfolding levelled query settings definitions
  query_ranks = (tt, (version_low, ((setting_low, (tt, tt)), ((definition_low, (tt, tt)), expression_low at 40))))
