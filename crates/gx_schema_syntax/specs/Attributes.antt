-- The attributes in no namespace of elements of schema documents, beside `id` (XML Schema 1.0 part 1, section 3; part 2, section 4).
use Rattle.std.specs.Prelude.{ℕ, Bool, true, false, List, [], ◌∷◌, codes, bytes_eq, Option, Some, None, if◌then◌else◌}
use Rattle.gx_schema_syntax.specs.declared.role.Role.{Role}
use Rattle.gx_schema_syntax.specs.declared.role.Role.TheVariants as roles
use Rattle.gx_schema_syntax.specs.declared.role.FacetKind.TheVariants.{Length, MinLength, MaxLength}
use Rattle.gx_schema_syntax.specs.declared.attributes.Form.{Form}
use Rattle.gx_schema_syntax.specs.declared.attributes.Form.TheVariants.{Name, Reference, TypeReference, Digits, DigitsOrUnbounded, Boolean, False, Usage, Qualification, Any}

-- a local name in no namespace, and the form of the values
abbrev pub AttributeRows : Type 0
AttributeRows = List (List ℕ × Form)

-- ---- rows that several elements share

abbrev pub name_row : AttributeRows
name_row = (codes "name", Name) ∷ []

abbrev pub base_row : AttributeRows
base_row = (codes "base", TypeReference) ∷ []

abbrev pub bounds_rows : AttributeRows
bounds_rows = (codes "minOccurs", Digits) ∷ (codes "maxOccurs", DigitsOrUnbounded) ∷ []

abbrev pub global_element_rows : AttributeRows
global_element_rows = (codes "name", Name) ∷ (codes "type", TypeReference) ∷ (codes "abstract", False) ∷ (codes "nillable", False) ∷ []

abbrev pub complex_type_rows : AttributeRows
complex_type_rows = (codes "mixed", Boolean) ∷ (codes "abstract", False) ∷ []

abbrev pub global_attribute_rows : AttributeRows
global_attribute_rows = (codes "name", Name) ∷ (codes "type", TypeReference) ∷ []

-- ---- the table of attributes

unfoldable pub allowed_attributes : Role → AttributeRows
allowed_attributes roles.Schema =
    (codes "targetNamespace", Any) ∷ (codes "elementFormDefault", Qualification) ∷ (codes "attributeFormDefault", Qualification) ∷ (codes "version", Any) ∷ []
allowed_attributes roles.GlobalElement = global_element_rows
allowed_attributes roles.LocalElement =
    (codes "ref", Reference) ∷ (codes "minOccurs", Digits) ∷ (codes "maxOccurs", DigitsOrUnbounded) ∷ (codes "form", Qualification) ∷ global_element_rows
allowed_attributes roles.GlobalComplexType = (codes "name", Name) ∷ complex_type_rows
allowed_attributes roles.AnonymousComplexType = complex_type_rows
allowed_attributes roles.GlobalSimpleType = name_row
allowed_attributes roles.AnonymousSimpleType = []
allowed_attributes roles.GlobalGroup = name_row
allowed_attributes roles.GroupReference = (codes "ref", Reference) ∷ bounds_rows
allowed_attributes (roles.ModelGroup compositor) = bounds_rows
allowed_attributes roles.GlobalAttribute = global_attribute_rows
allowed_attributes roles.LocalAttribute = (codes "ref", Reference) ∷ (codes "use", Usage) ∷ (codes "form", Qualification) ∷ global_attribute_rows
allowed_attributes roles.GlobalAttributeGroup = name_row
allowed_attributes roles.AttributeGroupReference = (codes "ref", Reference) ∷ []
allowed_attributes roles.SimpleContent = []
allowed_attributes roles.ComplexContent = []
allowed_attributes roles.SimpleContentExtension = base_row
allowed_attributes roles.SimpleContentRestriction = base_row
allowed_attributes roles.ComplexContentExtension = base_row
allowed_attributes roles.ComplexContentRestriction = base_row
allowed_attributes roles.SimpleTypeRestriction = base_row
allowed_attributes roles.SimpleTypeList = (codes "itemType", TypeReference) ∷ []
allowed_attributes (roles.Facet Length) = (codes "value", Digits) ∷ []
allowed_attributes (roles.Facet MinLength) = (codes "value", Digits) ∷ []
allowed_attributes (roles.Facet MaxLength) = (codes "value", Digits) ∷ []
allowed_attributes (roles.Facet _) = (codes "value", Any) ∷ []

-- ---- what must be there: one of these

unfoldable pub needs_of : Role → Option (List (List ℕ))
needs_of roles.GlobalElement = Some (codes "name" ∷ [])
needs_of roles.LocalElement = Some (codes "name" ∷ codes "ref" ∷ [])
needs_of roles.GlobalComplexType = Some (codes "name" ∷ [])
needs_of roles.GlobalSimpleType = Some (codes "name" ∷ [])
needs_of roles.GlobalGroup = Some (codes "name" ∷ [])
needs_of roles.GroupReference = Some (codes "ref" ∷ [])
needs_of roles.GlobalAttribute = Some (codes "name" ∷ [])
needs_of roles.LocalAttribute = Some (codes "name" ∷ codes "ref" ∷ [])
needs_of roles.GlobalAttributeGroup = Some (codes "name" ∷ [])
needs_of roles.AttributeGroupReference = Some (codes "ref" ∷ [])
needs_of roles.SimpleContentExtension = Some (codes "base" ∷ [])
needs_of roles.SimpleContentRestriction = Some (codes "base" ∷ [])
needs_of roles.ComplexContentExtension = Some (codes "base" ∷ [])
needs_of roles.ComplexContentRestriction = Some (codes "base" ∷ [])
needs_of roles.SimpleTypeRestriction = Some (codes "base" ∷ [])
needs_of roles.SimpleTypeList = Some (codes "itemType" ∷ [])
needs_of (roles.Facet kind) = Some (codes "value" ∷ [])
needs_of _ = None

-- a simple type within serves in place of `base` and of `itemType`
unfoldable pub may_hold_its_base : Role → Bool
may_hold_its_base roles.SimpleContentExtension = true
may_hold_its_base roles.SimpleContentRestriction = true
may_hold_its_base roles.ComplexContentExtension = true
may_hold_its_base roles.ComplexContentRestriction = true
may_hold_its_base roles.SimpleTypeRestriction = true
may_hold_its_base roles.SimpleTypeList = true
may_hold_its_base _ = false

-- ---- how the table is read

abbrev pub form_among : AttributeRows → List ℕ → Option Form
form_among [] local = None
form_among (row ∷ rows) local = if bytes_eq row.0 local then Some row.1 else form_among rows local

abbrev pub form_of : Role → List ℕ → Option Form
form_of role local = form_among (allowed_attributes role) local
