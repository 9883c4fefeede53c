-- What is refused of the first part of a prolog, and what names stand for behind it (XQuery 1.0, sections 4.2 to 4.13).
use Rattle.std.specs.Prelude.{ℕ, Bool, false, not, ◌||◌, List, [], ◌∷◌, ◌++◌, codes, drop, length, is_some}
use Rattle.gx_base.specs.Text.{same_text}
use Rattle.gx_base.specs.declared.place.Place.{Place}
use Rattle.gx_base.specs.declared.code.Code.TheVariants.{XQST0033, XQST0057, XQST0058, XQST0059, XQST0070}
use Rattle.gx_ast.specs.declared.query.SchemaPrefix.{SchemaPrefix}
use Rattle.gx_ast.specs.declared.query.SchemaPrefix.TheVariants as bound
use Rattle.gx_ast.specs.declared.query.Setting.{Setting}
use Rattle.gx_ast.specs.declared.query.SettingNode.{SettingNode}
use Rattle.gx_ast.specs.declared.query.SettingNode.TheVariants as settings
use Rattle.gx_types.specs.SchemaSet.{SchemaSet}
use Rattle.gx_names_scope.specs.declared.refusal.Refusal.{Refusal}
use Rattle.gx_resolved.specs.NestedMap.{innermost_value}
use Rattle.gx_names_scope.specs.Environment.{Namespaces, Environment, is_word, known_namespaces}
use Rattle.gx_names_scope.specs.Prefixes.{DeclaredPrefixes, is_reserved_prefix, is_reserved_uri}
use Rattle.gx_names_scope.specs.Refusing.{refused_if}

-- the namespaces that are imported, with the places of their imports
abbrev pub ImportedNamespaces : Type 0
ImportedNamespaces = List (List ℕ × Place)

abbrev pub declared_prefix_refusals : DeclaredPrefixes → Place → (prefix uri : List ℕ) → List Refusal
declared_prefix_refusals declared place prefix uri =
    refused_if (is_reserved_prefix prefix || is_reserved_uri uri) place XQST0070 ++ refused_if (is_some (innermost_value same_text declared prefix)) place XQST0033

-- what an import of a schema binds its namespace to
abbrev pub import_prefix_refusals : DeclaredPrefixes → Place → SchemaPrefix → (uri : List ℕ) → List Refusal
import_prefix_refusals declared place bound.Unnamed uri = []
import_prefix_refusals declared place (bound.Named prefix) uri =
    declared_prefix_refusals declared place prefix.name uri ++ refused_if (is_word uri (codes "")) place XQST0057
import_prefix_refusals declared place bound.Default uri = refused_if (is_reserved_uri uri) place XQST0070

-- the target namespaces of schema files, in the order in which imports name the files
abbrev pub Targets : Type 0
Targets = List (List ℕ)

-- a file that an import names has another target namespace
abbrev pub has_other_target : (uri : List ℕ) → (locations : List (List ℕ)) → Targets → Bool
has_other_target uri [] targets = false
has_other_target uri (location ∷ locations) [] = false
has_other_target uri (location ∷ locations) (target ∷ targets) = not (same_text target uri) || has_other_target uri locations targets

-- an import of a namespace, behind imports of these, of files with these targets
abbrev pub import_refusals : ImportedNamespaces → Targets → Place → (uri : List ℕ) → (locations : List (List ℕ)) → List Refusal
import_refusals imported targets place uri locations =
    refused_if (is_some (innermost_value same_text imported uri)) place XQST0058 ++ refused_if (has_other_target uri locations targets) place XQST0059

-- a declaration of the first part, behind declarations of these prefixes and imports of these namespaces, where the files that it and
-- the imports behind it name have these targets
abbrev pub setting_refusals : DeclaredPrefixes → ImportedNamespaces → Targets → Place → SettingNode → List Refusal
setting_refusals declared imported targets place (settings.Namespace prefix uri) = declared_prefix_refusals declared place prefix.name uri
setting_refusals declared imported targets place (settings.DefaultElementNamespace uri) = refused_if (is_reserved_uri uri) place XQST0070
setting_refusals declared imported targets place (settings.BoundarySpace preserved) = []
setting_refusals declared imported targets place settings.Construction = []
setting_refusals declared imported targets place settings.Ordering = []
setting_refusals declared imported targets place (settings.EmptyOrder order) = []
setting_refusals declared imported targets place settings.CopyNamespaces = []
setting_refusals declared imported targets place (settings.Schema prefix uri locations) =
    import_prefix_refusals declared place prefix uri ++ import_refusals imported targets place uri locations

abbrev pub declared_with : Place → SettingNode → DeclaredPrefixes → DeclaredPrefixes
declared_with place (settings.Namespace prefix uri) declared = (prefix.name, place) ∷ declared
declared_with place (settings.Schema (bound.Named prefix) uri locations) declared = (prefix.name, place) ∷ declared
declared_with place _ declared = declared

abbrev pub imported_with : Place → SettingNode → ImportedNamespaces → ImportedNamespaces
imported_with place (settings.Schema prefix uri locations) imported = (uri, place) ∷ imported
imported_with place _ imported = imported

-- those of the files that are named behind a declaration
abbrev pub targets_behind : SettingNode → Targets → Targets
targets_behind (settings.Schema prefix uri locations) targets = drop (length locations) targets
targets_behind _ targets = targets

abbrev pub settings_refusals : DeclaredPrefixes → ImportedNamespaces → Targets → List Setting → List Refusal
settings_refusals declared imported targets [] = []
settings_refusals declared imported targets (setting ∷ others) =
    setting_refusals declared imported targets setting.place setting.node
    ++ settings_refusals (declared_with setting.place setting.node declared) (imported_with setting.place setting.node imported) (targets_behind setting.node targets) others

-- the prefixes in scope behind a declaration of the first part; the last declaration of the default element namespace counts
abbrev pub namespaces_with : SettingNode → Namespaces → Namespaces
namespaces_with (settings.Namespace prefix uri) namespaces = (prefix.name, uri) ∷ namespaces
namespaces_with (settings.DefaultElementNamespace uri) namespaces = ([], uri) ∷ namespaces
namespaces_with (settings.Schema (bound.Named prefix) uri locations) namespaces = (prefix.name, uri) ∷ namespaces
namespaces_with (settings.Schema bound.Default uri locations) namespaces = ([], uri) ∷ namespaces
namespaces_with _ namespaces = namespaces

abbrev pub namespaces_after : List Setting → Namespaces → Namespaces
namespaces_after [] namespaces = namespaces
namespaces_after (setting ∷ others) namespaces = namespaces_after others (namespaces_with setting.node namespaces)

-- what names stand for behind the first part of the prolog
abbrev pub prolog_environment : SchemaSet → List Setting → Environment
prolog_environment schemas settings = record { namespaces = namespaces_after settings known_namespaces; functions = []; variables = []; schemas = schemas }
