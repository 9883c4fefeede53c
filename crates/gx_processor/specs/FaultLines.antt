-- The lines that tell of refusals.
use Rattle.std.specs.Prelude.{◌≡◌, ℕ, true, List, [], ◌∷◌, ◌++◌, codes, decimal, ◌⊎◌}
use Rattle.gx_base.specs.declared.code.Code.{Code}
use Rattle.gx_base.specs.declared.code.Code.TheVariants.{GLXS0001}
use Rattle.gx_base.specs.declared.place.Place.{Place}
use Rattle.gx_base.specs.Code.{spelling, is_static}
use Rattle.gx_xml.specs.declared.refusal.XmlRule.{XmlRule}
use Rattle.gx_xml.specs.declared.refusal.XmlRule.TheVariants as rules
use Rattle.gx_validate.specs.declared.invalid.InvalidRule.{InvalidRule}
use Rattle.gx_validate.specs.declared.invalid.InvalidRule.TheVariants as invalid_rules
use Rattle.gx_documents.specs.Bindings.{Misbound, unknown, doubled, missing}
use Rattle.std.specs.Str.{encode_utf8_all}
use Rattle.gx_schema.specs.declared.refusal.SchemaRule.{SchemaRule}
use Rattle.gx_types.specs.declared.shape.Shape.{Shape}
use Rattle.gx_typetext.specs.NameText.{word}
use Rattle.gx_typetext.specs.ShapeText.{shapes_text}
use Rattle.gx_schema.specs.declared.refusal.SchemaRule.TheVariants as schema_rules

-- ended by a line feed
abbrev pub line : List ℕ → List ℕ
line text = text ++ 10 ∷ []

abbrev pub usage_line : List ℕ
usage_line = line (codes "Usage: words")

-- the left or the right text of `subtype` stands for no type
abbrev pub left_type_line : List ℕ
left_type_line = line (codes "Usage: type 1")

abbrev pub right_type_line : List ℕ
right_type_line = line (codes "Usage: type 2")

abbrev pub read_fault_line : List ℕ → List ℕ
read_fault_line file = line (codes "ReadFault " ++ file)

-- a code alone
abbrev pub code_line : Code → List ℕ
code_line code = line (spelling code)

-- a code, and the line and the column that it is about
abbrev pub placed_line : Code → Place → List ℕ
placed_line code place = line (spelling code ++ codes " at " ++ decimal place.line ++ codes ":" ++ decimal place.column)

-- the line of a refused query: the code of a file that is too long, alone, or the code of a static error with its place
abbrev pub IsQueryLine : List ℕ → Type 0
IsQueryLine told = (told ≡ code_line GLXS0001) ⊎ ((code : Code) × (is_static code ≡ true) × (place : Place) × (told ≡ placed_line code place))

-- why words bind external variables wrongly
abbrev pub binding_text : Misbound → List ℕ
binding_text (unknown name) = codes "Usage: unknown " ++ name
binding_text (doubled name) = codes "Usage: doubled " ++ name
binding_text (missing name) = codes "Usage: missing " ++ name

abbrev pub binding_line : Misbound → List ℕ
binding_line fault = line (binding_text fault)

-- the rules that refuse documents
abbrev pub xml_rule_name : XmlRule → List ℕ
xml_rule_name rules.NotUtf8 = codes "NotUtf8"
xml_rule_name rules.Malformed = codes "Malformed"
xml_rule_name rules.Doctype = codes "Doctype"
xml_rule_name rules.UnboundPrefix = codes "UnboundPrefix"
xml_rule_name rules.DuplicateAttribute = codes "DuplicateAttribute"
xml_rule_name rules.TooDeep = codes "TooDeep"

-- a document that is too long
abbrev pub long_document_line : List ℕ → List ℕ
long_document_line file = line (codes "TooLong in " ++ file)

-- a rule, and the file and the place where a document breaks it
abbrev pub document_line : XmlRule → List ℕ → Place → List ℕ
document_line rule file place = line (xml_rule_name rule ++ codes " in " ++ file ++ codes " at " ++ decimal place.line ++ codes ":" ++ decimal place.column)

-- the line of a file that holds no document
abbrev pub IsReaderLineIn : (file told : List ℕ) → Type 0
IsReaderLineIn file told = (told ≡ long_document_line file) ⊎ ((rule : XmlRule) × (place : Place) × (told ≡ document_line rule file place))

abbrev pub IsReaderLine : List ℕ → Type 0
IsReaderLine told = (file : List ℕ) × IsReaderLineIn file told

-- the rules of validity
abbrev pub invalid_rule_name : InvalidRule → List ℕ
invalid_rule_name invalid_rules.WrongRoot = codes "WrongRoot"
invalid_rule_name invalid_rules.WrongContent = codes "WrongContent"
invalid_rule_name invalid_rules.MissingAttribute = codes "MissingAttribute"
invalid_rule_name invalid_rules.ExtraAttribute = codes "ExtraAttribute"
invalid_rule_name invalid_rules.BadSimpleValue = codes "BadSimpleValue"
invalid_rule_name invalid_rules.BadXsiType = codes "BadXsiType"
invalid_rule_name invalid_rules.TextInElementContent = codes "TextInElementContent"
invalid_rule_name invalid_rules.Nil = codes "Nil"

-- a rule of validity, and the file and the path of the element that breaks it there
abbrev pub invalid_line : InvalidRule → (file path : List ℕ) → List ℕ
invalid_line rule file path = line (invalid_rule_name rule ++ codes " in " ++ file ++ codes " at " ++ encode_utf8_all path)

-- the line of a refused document
abbrev pub IsDocumentLineIn : (file told : List ℕ) → Type 0
IsDocumentLineIn file told = IsReaderLineIn file told ⊎ ((rule : InvalidRule) × (path : List ℕ) × (told ≡ invalid_line rule file path))

abbrev pub IsDocumentLine : List ℕ → Type 0
IsDocumentLine told = (file : List ℕ) × IsDocumentLineIn file told

-- the rules that refuse schema files
abbrev pub schema_rule_name : SchemaRule → List ℕ
schema_rule_name schema_rules.NotInProfile = codes "NotInProfile"
schema_rule_name schema_rules.UnknownName = codes "UnknownName"
schema_rule_name schema_rules.Inconsistent = codes "Inconsistent"
schema_rule_name schema_rules.Circular = codes "Circular"
schema_rule_name schema_rules.TooLarge = codes "TooLarge"
schema_rule_name schema_rules.NotARestriction = codes "NotARestriction"
schema_rule_name schema_rules.TooManyPairs = codes "TooManyPairs"

-- what breaks a rule: its name, and for a restriction that is not sound the list of shapes that it allows and its base does not
abbrev pub shown_with : SchemaRule → (name : List ℕ) → List Shape → List ℕ
shown_with schema_rules.NotARestriction name list = name ++ word (codes ": ") ++ shapes_text list
shown_with schema_rules.NotInProfile name list = name
shown_with schema_rules.UnknownName name list = name
shown_with schema_rules.Inconsistent name list = name
shown_with schema_rules.Circular name list = name
shown_with schema_rules.TooLarge name list = name
shown_with schema_rules.TooManyPairs name list = name

-- a rule, and the file and what breaks it there
abbrev pub import_line : SchemaRule → (file shown : List ℕ) → List ℕ
import_line rule file shown = line (schema_rule_name rule ++ codes " in " ++ file ++ codes ": " ++ encode_utf8_all shown)

-- the line of a rule that a schema file breaks
abbrev pub IsImportLineIn : (file told : List ℕ) → Type 0
IsImportLineIn file told = (rule : SchemaRule) × (shown : List ℕ) × (told ≡ import_line rule file shown)

-- the line of refused schema files
abbrev pub IsSchemaLine : List ℕ → Type 0
IsSchemaLine told = IsReaderLine told ⊎ ((file : List ℕ) × IsImportLineIn file told)

abbrev pub write_fault_line : List ℕ
write_fault_line = line (codes "WriteFault")
