-- What schema files declare, or the first rule that they break.
use Rattle.std.specs.Prelude.{◌≡◌, ℕ, Bool, List, [], Option, None, Some, option_map}
use Rattle.gx_base.specs.declared.limits.TheConstants.{INCLUSION_PAIRS}
use Rattle.gx_types.specs.declared.shape.Shape.{Shape}
use Rattle.gx_types.specs.SchemaSet.{SchemaSet}
use Rattle.gx_xml.specs.declared.source.Source.{Source}
use Rattle.gx_schema_syntax.specs.DocumentTree.{DocumentTree}
use Rattle.gx_schema_syntax.specs.Documents.{documents_written}
use Rattle.gx_schema_syntax.specs.Numbers.{first_numbers}
use Rattle.gx_schema_syntax.specs.Profile.{outside_files}
use Rattle.gx_schema.specs.declared.refusal.SchemaRule.{SchemaRule}
use Rattle.gx_schema.specs.declared.refusal.SchemaRule.TheVariants.{NotInProfile, UnknownName, Inconsistent, NotARestriction, Circular, TooLarge, TooManyPairs}
use Rattle.gx_schema.specs.declared.refusal.SchemaRefusal.{SchemaRefusal}
use Rattle.gx_schema.specs.declared.refusal.SchemaRefusal.TheVariants.{Refused, Memory}
use Rattle.gx_schema_components.specs.declared.unknown.UnknownName.{UnknownName as Unknown}
use Rattle.gx_schema_components.specs.Unknown.{unknown_name}
use Rattle.gx_schema_simple.specs.declared.type_form.TypeForm.{TypeForm}
use Rattle.gx_schema.specs.declared.found.Found.{Found}
use Rattle.gx_schema_restriction.specs.declared.restrictions.Restrictions.{Restrictions}
use Rattle.gx_schema_restriction.specs.declared.restrictions.Restrictions.TheVariants.{Sound, Unsound, Undecided}
use Rattle.gx_schema_restriction.specs.Restrictions.{AreJudged}
use Rattle.gx_schema.specs.Circular.{circular}
use Rattle.gx_schema.specs.Found.{found_by_number, types_found}
use Rattle.gx_schema.specs.Inconsistent.{inconsistent}
use Rattle.gx_schema.specs.RestrictedTypes.{restricted_types}
use Rattle.gx_schema.specs.SchemaTypes.{schemas_written, type_forms}
use Rattle.gx_schema.specs.SeenComponents.{SeenComponents, seen_components}
use Rattle.gx_schema.specs.TooLarge.{too_large}

-- the schemas that files declare; or the rule that is broken first, the number of the file, counted from 0, the name, and a list of shapes, which is
-- empty but for a restriction that is not sound
pub data Imported : Type 0 where
  declares : (schemas : SchemaSet) → Imported
  breaks : (rule : SchemaRule) (file : ℕ) (name : List ℕ) (list : List Shape) → Imported

-- ---- the rules on constructs, names and declarations, which are judged before restrictions

-- a construct that is found breaks the rule, and else the rest tells
abbrev pub unless_broken : SchemaRule → Option (ℕ × List ℕ) → Imported → Imported
unless_broken rule None otherwise = otherwise
unless_broken rule (Some found) otherwise = breaks rule found.0 found.1 []

-- the documents that are written in files
abbrev pub documents_of : List Source → List DocumentTree
documents_of files = documents_written first_numbers files

abbrev pub unknown_found : Unknown → ℕ × List ℕ
unknown_found unknown = (unknown.file, unknown.name)

abbrev pub found_in_file : Found → ℕ × List ℕ
found_in_file found = (found.file, found.name)

abbrev pub names_judged : List DocumentTree → Imported → Imported
names_judged documents otherwise = unless_broken UnknownName (option_map unknown_found (unknown_name documents)) otherwise

abbrev pub components_judged : List DocumentTree → List TypeForm → SeenComponents → Imported → Imported
components_judged documents forms seen otherwise =
    unless_broken Inconsistent (option_map found_in_file (inconsistent documents forms seen)) (unless_broken Circular (option_map found_in_file (circular documents forms))
    (unless_broken TooLarge (option_map found_in_file (too_large documents seen)) otherwise))

abbrev pub documents_judged : List DocumentTree → Imported
documents_judged documents = names_judged documents (components_judged documents (type_forms documents) (seen_components documents) (declares (schemas_written documents)))

-- documents are written in files within the profile
abbrev pub AreWithinProfile : List DocumentTree → Type 0
AreWithinProfile documents = (files : List Source) × (outside_files 0 files ≡ None) × (documents ≡ documents_of files)

-- what files declare, or the first of these rules that they break, in the order of the rules
abbrev pub read_in_files : List Source → Imported
read_in_files files = unless_broken NotInProfile (outside_files 0 files) (documents_judged (documents_of files))

-- ---- restrictions

abbrev pub broken_at : SchemaRule → Found → List Shape → Imported
broken_at rule found list = breaks rule found.file found.name list

-- schemas are declared where their restrictions are sound, among types that are found so
abbrev pub after_judgement : (types : List Found) → SchemaSet → Restrictions → Imported
after_judgement types schemas Sound = declares schemas
after_judgement types schemas (Unsound number list) = broken_at NotARestriction (found_by_number types number) list.items
after_judgement types schemas (Undecided number) = broken_at TooManyPairs (found_by_number types number) []

abbrev pub AreRestrictionsTold : (types : List Found) → SchemaSet → (restricted : List Bool) → Imported → Type 0
AreRestrictionsTold types schemas restricted told =
    (judgement : Restrictions) × AreJudged schemas INCLUSION_PAIRS restricted judgement × (told ≡ after_judgement types schemas judgement)

-- where no other rule is broken, the restrictions of complex types are judged in the order of the types
abbrev pub IsJudged : List DocumentTree → (read told : Imported) → Type 0
IsJudged documents (declares schemas) told = AreRestrictionsTold (types_found 0 documents) schemas (restricted_types (seen_components documents).types) told
IsJudged documents (breaks rule file name list) told = told ≡ breaks rule file name list

-- ---- all

-- how the import of files ends
unfoldable pub IsImported : List Source → Imported → Type 0
IsImported files told = IsJudged (documents_of files) (read_in_files files) told

-- a refusal tells what is told, or one of several; want of memory says nothing
abbrev pub IsRefusalWith : Imported → SchemaRefusal → Type 0
IsRefusalWith told (Refused rule file name list) = told ≡ breaks rule file name list.items
IsRefusalWith told Memory = Unit {0}

abbrev pub IsRefusalTold : (Imported → Type 0) → SchemaRefusal → Type 0
IsRefusalTold Told (Refused rule file name list) = Told (breaks rule file name list.items)
IsRefusalTold Told Memory = Unit {0}

-- a refusal of the import of files
abbrev pub IsSchemaRefusal : List Source → SchemaRefusal → Type 0
IsSchemaRefusal files refusal = IsRefusalTold (IsImported files) refusal
