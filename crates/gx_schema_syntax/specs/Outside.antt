-- The first construct of a schema document that is outside the profile. At one element comes first the element itself, then the type that it lacks, then its attributes as they are written, then its parts.
use Rattle.std.specs.Prelude.{ℕ, Bool, true, false, not, ◌&&◌, ◌||◌, List, [], ◌∷◌, ◌++◌, codes, bytes_eq, Option, Some, None, if◌then◌else◌}
use Rattle.std.specs.Option.{option_or}
use Rattle.std.specs.Str.{encode_utf8_all}
use Rattle.gx_base.specs.declared.name.Name.{Name}
use Rattle.gx_xml.specs.declared.source.Declaration.{Declaration}
use Rattle.gx_xml.specs.declared.source.SourceAttribute.{SourceAttribute}
use Rattle.gx_xml.specs.SourceTree.{SourceTree, SourceContents, source, no_content, a_child, a_text, tree_name}
use Rattle.gx_schema_syntax.specs.declared.attributes.Form.{Form}
use Rattle.gx_schema_syntax.specs.declared.attributes.Form.TheVariants.{TypeReference}
use Rattle.gx_schema_syntax.specs.declared.parts.Seen.{Seen}
use Rattle.gx_schema_syntax.specs.declared.parts.Seen.TheVariants.{Nothing, TheOnePart}
use Rattle.gx_schema_syntax.specs.declared.parts.Slot.{Slot}
use Rattle.gx_qnames.specs.declared.reference.Reference.{Reference}
use Rattle.gx_schema_syntax.specs.declared.role.Role.{Role}
use Rattle.gx_schema_syntax.specs.declared.role.Role.TheVariants as roles
use Rattle.gx_schema_syntax.specs.Attributes.{needs_of, may_hold_its_base, form_of}
use Rattle.gx_qnames.specs.Builtins.{is_outside_profile}
use Rattle.gx_schema_syntax.specs.Contents.{given_value, is_given, is_one_given, holds_part, holds_named, holds_text}
use Rattle.gx_schema_syntax.specs.Forms.{has_form}
use Rattle.gx_schema_syntax.specs.Parts.{slot_of, role_in, fits, seen_after, needs_part}
use Rattle.gx_qnames.specs.Scope.{reference_in}
use Rattle.gx_schema_syntax.specs.Words.{is_schema_element, is_annotation, shown_in_schema_namespace, shown_name}
use Rattle.gx_qnames.specs.Words.{has_spelling, is_schema_uri, written_name}

-- the name of a construct, if there is one
abbrev pub FoundName : Type 0
FoundName = Option (List ℕ)

-- ---- the element itself

-- it lacks an attribute that it needs, where it does not hold a simple type in its place
abbrev pub lacks_one_of : (needed : Option (List (List ℕ))) → Role → List SourceAttribute → SourceContents → Bool
lacks_one_of None role attributes cs = false
lacks_one_of (Some words) role attributes cs = not (is_one_given words attributes || (may_hold_its_base role && holds_named (codes "simpleType") cs))

abbrev pub lacks_attribute : Role → List SourceAttribute → SourceContents → Bool
lacks_attribute role attributes cs = lacks_one_of (needs_of role) role attributes cs

abbrev pub has_name_and_reference : List SourceAttribute → Bool
has_name_and_reference attributes = is_given (codes "name") attributes && is_given (codes "ref") attributes

-- it lacks an attribute, has both `name` and `ref`, lacks a part, or holds text
abbrev pub has_wrong_itself : Role → SourceTree → Bool
has_wrong_itself role (source name declarations attributes cs) =
    lacks_attribute role attributes cs || (has_name_and_reference attributes || ((needs_part role && not (holds_part cs)) || holds_text cs))

-- ---- the type that it lacks

abbrev pub lacks_element_type : List SourceAttribute → SourceContents → Bool
lacks_element_type attributes cs =
    not (is_given (codes "type") attributes || (is_given (codes "ref") attributes || (holds_named (codes "complexType") cs || holds_named (codes "simpleType") cs)))

abbrev pub is_value : (word : List ℕ) → Option (List ℕ) → Bool
is_value word None = false
is_value word (Some value) = has_spelling word value

abbrev pub is_prohibited : List SourceAttribute → Bool
is_prohibited attributes = is_value (codes "prohibited") (given_value (codes "use") attributes)

abbrev pub lacks_attribute_type : List SourceAttribute → SourceContents → Bool
lacks_attribute_type attributes cs =
    not (is_given (codes "type") attributes || (is_given (codes "ref") attributes || (holds_named (codes "simpleType") cs || is_prohibited attributes)))

-- an element without a type has xs:anyType, and an attribute xs:anySimpleType (XML Schema 1.0 part 1, sections 3.3.2 and 3.2.2)
abbrev pub missing_type : Role → List SourceAttribute → SourceContents → FoundName
missing_type roles.GlobalElement attributes cs = if lacks_element_type attributes cs then Some (codes "xs:anyType") else None
missing_type roles.LocalElement attributes cs = if lacks_element_type attributes cs then Some (codes "xs:anyType") else None
missing_type roles.GlobalAttribute attributes cs = if lacks_attribute_type attributes cs then Some (codes "xs:anySimpleType") else None
missing_type roles.LocalAttribute attributes cs = if lacks_attribute_type attributes cs then Some (codes "xs:anySimpleType") else None
missing_type _ attributes cs = None

-- ---- its attributes

-- the type that a value names
abbrev pub outside_type : (scope : List Declaration) → (value : List ℕ) → FoundName
outside_type scope value = if is_outside_profile (reference_in scope value) then Some (shown_in_schema_namespace (reference_in scope value).name.local) else None

abbrev pub outside_type_by_form : (scope : List Declaration) → Form → (value : List ℕ) → FoundName
outside_type_by_form scope TypeReference value = outside_type scope value
outside_type_by_form scope _ value = None

-- an attribute whose values have this form
abbrev pub outside_by_form : (scope : List Declaration) → Form → SourceAttribute → FoundName
outside_by_form scope form a = if has_form form a.value then outside_type_by_form scope form a.value else Some (written_name a.name)

-- an attribute of the table, or none of it
abbrev pub outside_by_row : (scope : List Declaration) → Option Form → SourceAttribute → FoundName
outside_by_row scope None a = Some (written_name a.name)
outside_by_row scope (Some form) a = outside_by_form scope form a

-- `id` is ignored, and so is an attribute in another namespace
abbrev pub outside_attribute : (scope : List Declaration) → Role → SourceAttribute → FoundName
outside_attribute scope role a =
    if is_schema_uri a.name.uri then Some (written_name a.name)
    else (if not (bytes_eq a.name.uri []) || has_spelling (codes "id") a.name.local then None
    else outside_by_row scope (form_of role (encode_utf8_all a.name.local)) a)

abbrev pub outside_attributes : (scope : List Declaration) → Role → List SourceAttribute → FoundName
outside_attributes scope role [] = None
outside_attributes scope role (a ∷ others) = option_or (outside_attribute scope role a) (outside_attributes scope role others)

-- ---- its parts

abbrev pub slot_in : Bool → Role → (local : List ℕ) → Option Slot
slot_in true role local = slot_of role (encode_utf8_all local)
slot_in false role local = None

abbrev pub slot_if_fitting : Seen → Option Slot → Option Slot
slot_if_fitting seen None = None
slot_if_fitting seen (Some slot) = if fits seen slot then Some slot else None

-- the slot of a part, where it may stand behind what was seen
abbrev pub slot_fitting : Seen → Role → SourceTree → Option Slot
slot_fitting seen role (source name declarations attributes cs) = slot_if_fitting seen (slot_in (is_schema_uri name.uri) role name.local)

-- an element or attribute with `type` or `ref` holds no type
abbrev pub seen_before_type : Bool → Seen
seen_before_type true = TheOnePart
seen_before_type false = Nothing

abbrev pub seen_before : Role → List SourceAttribute → Seen
seen_before roles.GlobalElement attributes = seen_before_type (is_given (codes "type") attributes || is_given (codes "ref") attributes)
seen_before roles.LocalElement attributes = seen_before_type (is_given (codes "type") attributes || is_given (codes "ref") attributes)
seen_before roles.GlobalAttribute attributes = seen_before_type (is_given (codes "type") attributes || is_given (codes "ref") attributes)
seen_before roles.LocalAttribute attributes = seen_before_type (is_given (codes "type") attributes || is_given (codes "ref") attributes)
seen_before _ attributes = Nothing

-- what its slot leads to, or a part that has none
abbrev pub at_slot : Option Slot → (otherwise : FoundName) → (Slot → FoundName) → FoundName
at_slot None otherwise go_on = otherwise
at_slot (Some slot) otherwise go_on = go_on slot

-- ---- an element, and what stands in it

abbrev mutual
  pub outside_element : (scope : List Declaration) → Role → SourceTree → FoundName
  outside_element scope role (source name declarations attributes cs) =
      if has_wrong_itself role (source name declarations attributes cs) then Some (shown_name name)
      else option_or (missing_type role attributes cs)
      (option_or (outside_attributes (declarations ++ scope) role attributes) (outside_among (declarations ++ scope) role (seen_before role attributes) cs))

  pub outside_among : (scope : List Declaration) → Role → Seen → SourceContents → FoundName
  outside_among scope role seen no_content = None
  outside_among scope role seen (a_text x cs) = outside_among scope role seen cs
  outside_among scope role seen (a_child t cs) =
      if is_annotation (tree_name t) then outside_among scope role seen cs
      else at_slot (slot_fitting seen role t) (Some (shown_name (tree_name t))) (λ slot. option_or (outside_element scope (role_in slot) t) (outside_among scope role (seen_after slot) cs))

-- the root of a schema document is `schema`
abbrev pub outside_root : SourceTree → FoundName
outside_root (source name declarations attributes cs) =
    if is_schema_element (codes "schema") name then outside_element [] roles.Schema (source name declarations attributes cs) else Some (shown_name name)
