-- The parts that elements of schema documents may hold beside annotations, and where (XML Schema 1.0 part 1, section 3, in the representations of components).
use Rattle.std.specs.Prelude.{ℕ, Bool, true, false, List, [], ◌∷◌, codes, bytes_eq, Option, Some, None, option_map, if◌then◌else◌}
use Rattle.gx_schema_syntax.specs.declared.role.Role.{Role}
use Rattle.gx_schema_syntax.specs.declared.role.Role.TheVariants as roles
use Rattle.gx_schema_syntax.specs.declared.role.Compositor.TheVariants.{Sequence, Choice}
use Rattle.gx_schema_syntax.specs.declared.role.FacetKind.TheVariants.{Enumeration, MinInclusive, MaxInclusive, MinExclusive, MaxExclusive, Length, MinLength, MaxLength}
use Rattle.gx_schema_syntax.specs.declared.parts.Slot.{Slot}
use Rattle.gx_schema_syntax.specs.declared.parts.Slot.TheVariants.{Alone, Leading, Early, Repeated}
use Rattle.gx_schema_syntax.specs.declared.parts.Seen.{Seen}
use Rattle.gx_schema_syntax.specs.declared.parts.Seen.TheVariants.{Nothing, EarlyParts, Others, TheOnePart}

-- a local name in the namespace of schemas, and where such a part may stand
abbrev pub PartRows : Type 0
PartRows = List (List ℕ × Slot)

-- ---- rows that several elements share

abbrev pub attribute_part_rows : PartRows
attribute_part_rows = (codes "attribute", Repeated roles.LocalAttribute) ∷ (codes "attributeGroup", Repeated roles.AttributeGroupReference) ∷ []

-- at most one particle, and then attributes
abbrev pub content_part_rows : PartRows
content_part_rows =
    (codes "sequence", Leading (roles.ModelGroup Sequence)) ∷ (codes "choice", Leading (roles.ModelGroup Choice)) ∷ (codes "group", Leading roles.GroupReference)
    ∷ attribute_part_rows

-- facets, and then the other rows
abbrev pub facet_part_rows : PartRows → PartRows
facet_part_rows others =
    (codes "enumeration", Early (roles.Facet Enumeration)) ∷ (codes "minInclusive", Early (roles.Facet MinInclusive)) ∷ (codes "maxInclusive", Early (roles.Facet MaxInclusive))
    ∷ (codes "minExclusive", Early (roles.Facet MinExclusive)) ∷ (codes "maxExclusive", Early (roles.Facet MaxExclusive)) ∷ (codes "length", Early (roles.Facet Length))
    ∷ (codes "minLength", Early (roles.Facet MinLength)) ∷ (codes "maxLength", Early (roles.Facet MaxLength)) ∷ others

abbrev pub element_part_rows : PartRows
element_part_rows = (codes "complexType", Alone roles.AnonymousComplexType) ∷ (codes "simpleType", Alone roles.AnonymousSimpleType) ∷ []

abbrev pub complex_type_part_rows : PartRows
complex_type_part_rows = (codes "simpleContent", Alone roles.SimpleContent) ∷ (codes "complexContent", Alone roles.ComplexContent) ∷ content_part_rows

abbrev pub simple_type_part_rows : PartRows
simple_type_part_rows = (codes "restriction", Alone roles.SimpleTypeRestriction) ∷ (codes "list", Alone roles.SimpleTypeList) ∷ []

-- ---- the table of parts

unfoldable pub parts_of : Role → PartRows
parts_of roles.Schema =
    (codes "element", Repeated roles.GlobalElement) ∷ (codes "complexType", Repeated roles.GlobalComplexType) ∷ (codes "simpleType", Repeated roles.GlobalSimpleType)
    ∷ (codes "group", Repeated roles.GlobalGroup) ∷ (codes "attribute", Repeated roles.GlobalAttribute) ∷ (codes "attributeGroup", Repeated roles.GlobalAttributeGroup) ∷ []
parts_of roles.GlobalElement = element_part_rows
parts_of roles.LocalElement = element_part_rows
parts_of roles.GlobalAttribute = (codes "simpleType", Alone roles.AnonymousSimpleType) ∷ []
parts_of roles.LocalAttribute = (codes "simpleType", Alone roles.AnonymousSimpleType) ∷ []
parts_of roles.GlobalGroup = (codes "sequence", Alone (roles.ModelGroup Sequence)) ∷ (codes "choice", Alone (roles.ModelGroup Choice)) ∷ []
parts_of (roles.ModelGroup compositor) =
    (codes "element", Repeated roles.LocalElement) ∷ (codes "group", Repeated roles.GroupReference) ∷ (codes "sequence", Repeated (roles.ModelGroup Sequence))
    ∷ (codes "choice", Repeated (roles.ModelGroup Choice)) ∷ []
parts_of roles.GlobalComplexType = complex_type_part_rows
parts_of roles.AnonymousComplexType = complex_type_part_rows
parts_of roles.SimpleContent = (codes "extension", Alone roles.SimpleContentExtension) ∷ (codes "restriction", Alone roles.SimpleContentRestriction) ∷ []
parts_of roles.ComplexContent = (codes "extension", Alone roles.ComplexContentExtension) ∷ (codes "restriction", Alone roles.ComplexContentRestriction) ∷ []
parts_of roles.ComplexContentExtension = content_part_rows
parts_of roles.ComplexContentRestriction = content_part_rows
parts_of roles.SimpleContentExtension = attribute_part_rows
parts_of roles.SimpleContentRestriction = facet_part_rows attribute_part_rows
parts_of roles.GlobalAttributeGroup = attribute_part_rows
parts_of roles.GlobalSimpleType = simple_type_part_rows
parts_of roles.AnonymousSimpleType = simple_type_part_rows
parts_of roles.SimpleTypeRestriction = facet_part_rows []
parts_of roles.SimpleTypeList = []
parts_of (roles.Facet kind) = []
parts_of roles.GroupReference = []
parts_of roles.AttributeGroupReference = []

-- these must hold a part
unfoldable pub needs_part : Role → Bool
needs_part roles.GlobalGroup = true
needs_part roles.SimpleContent = true
needs_part roles.ComplexContent = true
needs_part roles.GlobalSimpleType = true
needs_part roles.AnonymousSimpleType = true
needs_part _ = false

-- ---- how the table is read

abbrev pub slot_among : PartRows → List ℕ → Option Slot
slot_among [] local = None
slot_among (row ∷ rows) local = if bytes_eq row.0 local then Some row.1 else slot_among rows local

-- where a part of this local name may stand in an element of this role
abbrev pub slot_of : Role → List ℕ → Option Slot
slot_of role local = slot_among (parts_of role) local

abbrev pub role_in : Slot → Role
role_in (Alone role) = role
role_in (Leading role) = role
role_in (Early role) = role
role_in (Repeated role) = role

-- a part of the slot may stand behind what was seen
abbrev pub fits : Seen → Slot → Bool
fits Nothing slot = true
fits EarlyParts (Early role) = true
fits EarlyParts (Repeated role) = true
fits Others (Repeated role) = true
fits _ _ = false

abbrev pub seen_after : Slot → Seen
seen_after (Alone role) = TheOnePart
seen_after (Leading role) = Others
seen_after (Early role) = EarlyParts
seen_after (Repeated role) = Others
