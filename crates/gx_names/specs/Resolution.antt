-- A query with its names resolved, where nothing is refused.
use Rattle.std.specs.Prelude.{false, List, [], ◌∷◌, map, Option}
use Rattle.std.specs.Option.{option_map}
use Rattle.gx_base.specs.declared.place.Place.{Place}
use Rattle.gx_ast.specs.declared.name.QName.{QName}
use Rattle.gx_ast.specs.declared.name.Variable.{Variable}
use Rattle.gx_ast.specs.declared.query.Definition.{Definition}
use Rattle.gx_ast.specs.declared.query.DefinitionNode.{DefinitionNode}
use Rattle.gx_ast.specs.declared.query.DefinitionNode.TheVariants as definitions
use Rattle.gx_ast.specs.declared.query.Initialiser.TheVariants as initial
use Rattle.gx_ast.specs.declared.query.Parameter.{Parameter}
use Rattle.gx_ast.specs.declared.query.Query.{Query}
use Rattle.gx_ast.specs.declared.query.Setting.{Setting}
use Rattle.gx_ast.specs.declared.query.SettingNode.{SettingNode}
use Rattle.gx_ast.specs.declared.query.SettingNode.TheVariants as settings
use Rattle.gx_ast.specs.declared.sequence_type.EmptyOrder.TheVariants as orders
use Rattle.gx_ast.specs.declared.sequence_type.SequenceType.{SequenceType}
use Rattle.gx_ast.specs.SyntaxTree.{SyntaxTree}
use Rattle.gx_types.specs.SchemaSet.{SchemaSet}
use Rattle.gx_types.specs.SequenceType.{SequenceType as ResolvedType}
use Rattle.gx_resolved.specs.declared.tree.BoundName.{BoundName}
use Rattle.gx_resolved.specs.declared.tree.Declaration.{Declaration}
use Rattle.gx_resolved.specs.declared.tree.Declaration.TheVariants as declared
use Rattle.gx_resolved.specs.declared.tree.External.{External}
use Rattle.gx_resolved.specs.declared.tree.FunctionDeclaration.{FunctionDeclaration}
use Rattle.gx_resolved.specs.declared.tree.Global.{Global}
use Rattle.gx_resolved.specs.declared.tree.Resolved.{Resolved}
use Rattle.gx_resolved.specs.declared.tree.Settings.{Settings}
use Rattle.gx_names_scope.specs.Environment.{Environment, called_name, or_nameless}
use Rattle.gx_names.specs.Refusals.{definition_scope, scope_after, with_functions, with_parameters}
use Rattle.gx_names.specs.SettingRefusals.{prolog_environment}
use Rattle.gx_names_trees.specs.TreeResolution.{binder_resolved, tree_resolved}
use Rattle.gx_names_types.specs.TypeNames.{type_written}

-- ---- settings

-- what is said of white space and of empty sort keys, the last time that it is said
abbrev pub setting_with : SettingNode → Settings → Settings
setting_with (settings.BoundarySpace preserved) chosen = record chosen { preserves_boundary_space = preserved }
setting_with (settings.EmptyOrder order) chosen = record chosen { empty_order = order }
setting_with _ chosen = chosen

abbrev pub settings_with : List Setting → Settings → Settings
settings_with [] chosen = chosen
settings_with (setting ∷ others) chosen = settings_with others (setting_with setting.node chosen)

-- where nothing is said
abbrev pub default_settings : Settings
default_settings = record { preserves_boundary_space = false; empty_order = orders.Default }

-- ---- declarations

abbrev pub parameters_resolved : Environment → List Parameter → List BoundName
parameters_resolved environment parameters = map (λ p. binder_resolved environment p.variable p.kind) parameters

abbrev pub result_resolved : Environment → Option SequenceType → Option ResolvedType
result_resolved environment result = option_map (type_written environment) result

abbrev pub global_resolved : Environment → Place → Variable → Option SequenceType → SyntaxTree → Global
global_resolved environment place binder kind value =
    record { place = place; bound = binder_resolved environment binder kind; value = tree_resolved environment value }

abbrev pub external_resolved : Environment → Place → Variable → Option SequenceType → External
external_resolved environment place binder kind = record { place = place; bound = binder_resolved environment binder kind }

abbrev pub function_resolved : Environment → Place → QName → List Parameter → Option SequenceType → SyntaxTree → FunctionDeclaration
function_resolved environment place name parameters result body =
    record {
      place = place;
      name = or_nameless (called_name environment name);
      parameters = parameters_resolved environment parameters;
      result = result_resolved environment result;
      body = tree_resolved (with_parameters parameters environment) body;
    }

abbrev pub declaration_resolved : Environment → Place → DefinitionNode → Declaration
declaration_resolved environment place (definitions.Variable binder kind (initial.Value value)) =
    declared.Global (global_resolved environment place binder kind value)
declaration_resolved environment place (definitions.Variable binder kind initial.External) =
    declared.External (external_resolved environment place binder kind)
declaration_resolved environment place (definitions.Function name parameters result body) =
    declared.Function (function_resolved environment place name parameters result body)

-- declarations, each in the scope of those before it
abbrev pub declarations_resolved : List Definition → Environment → List Declaration
declarations_resolved [] environment = []
declarations_resolved (definition ∷ others) environment =
    declaration_resolved environment definition.place definition.node ∷ declarations_resolved others (definition_scope definition.node environment)

abbrev pub main_resolved : Environment → Settings → List Definition → SyntaxTree → Resolved
main_resolved environment chosen definitions body =
    record {
      settings = chosen;
      declarations = declarations_resolved definitions environment;
      body = tree_resolved (scope_after definitions environment) body;
    }

abbrev pub query_resolved : SchemaSet → Query → Resolved
query_resolved schemas query =
    main_resolved (with_functions query.definitions (prolog_environment schemas query.settings)) (settings_with query.settings default_settings) query.definitions query.body
