-- Whether the declaration of a type allows nothing that its base does not allow (XML Schema 1.0 part 1, section 3.4.6).
use Rattle.std.specs.Prelude.{◌≡◌, ◌⊎◌, ℕ, List, [], ◌∷◌, Option, None, Some}
use Rattle.gx_types.specs.declared.declaration.AttributeUse.{AttributeUse}
use Rattle.gx_types.specs.declared.declaration.Content.{Content}
use Rattle.gx_types.specs.declared.declaration.Content.TheVariants as contents
use Rattle.gx_types.specs.declared.declaration.Declared.{Declared}
use Rattle.gx_types.specs.declared.item_type.ItemType.TheVariants as items
use Rattle.gx_types.specs.declared.shape.Shape.TheVariants as shapes
use Rattle.gx_types.specs.SchemaSet.{SchemaSet, declaration_of}
use Rattle.gx_types.specs.SequenceType.{SequenceType, item, optional}
use Rattle.gx_include.specs.declared.verdict.Verdict.{Verdict}
use Rattle.gx_include.specs.declared.verdict.Verdict.TheVariants.{Yes, No}
use Rattle.gx_include.specs.declared.verdict.IncludeError.{IncludeError}
use Rattle.gx_include.specs.Answer.{HasNoVerdict, IsAnswer, ReachesTooManyPairs}
use Rattle.gx_schema_restriction.specs.Attributes.{attribute_fault}

-- the children of elements of simple content: a text, or nothing
abbrev pub simple_children : SequenceType
simple_children = optional (item items.Text)

-- the children of elements of a content
abbrev pub children_in : Content → SequenceType
children_in (contents.Complex mixed model) = model
children_in _ = simple_children

-- those of a base; a built-in one has simple content
abbrev pub children_of_base : Option Declared → SequenceType
children_of_base None = simple_children
children_of_base (Some base) = children_in base.content

-- the attributes of a base; a built-in one has none
abbrev pub uses_of_base : Option Declared → List AttributeUse
uses_of_base None = []
uses_of_base (Some base) = base.attributes

-- a verdict on the content of a type under that of its base, with a limit on pairs
abbrev pub IsContentVerdict : SchemaSet → ℕ → Declared → Verdict → Type 0
IsContentVerdict schemas pairs declared verdict =
    IsAnswer schemas (children_in declared.content) (children_of_base (declaration_of schemas declared.base)) (Some pairs) verdict

abbrev pub use_fault : SchemaSet → Declared → Option AttributeUse
use_fault schemas declared = attribute_fault schemas (uses_of_base (declaration_of schemas declared.base)) declared.attributes

abbrev pub IsNotYes : Verdict → Type 0
IsNotYes Yes = ⊥
IsNotYes _ = Unit {0}

-- a verdict on attributes: none is at fault, or this one is
abbrev pub AreUsesJudged : Option AttributeUse → Verdict → Type 0
AreUsesJudged fault Yes = fault ≡ None
AreUsesJudged fault (No list) = (found : AttributeUse) × (fault ≡ Some found) × (list.items ≡ shapes.Attr found.name found.kind ∷ [])

-- a verdict on a type under its base: its content is included, and its attributes are allowed; or a list is taken by its content and not
-- by that of its base, or is the one attribute that is not allowed
abbrev pub IsRestriction : SchemaSet → ℕ → Declared → Verdict → Type 0
IsRestriction schemas pairs declared verdict =
    (IsNotYes verdict × IsContentVerdict schemas pairs declared verdict)
    ⊎ (IsContentVerdict schemas pairs declared Yes × AreUsesJudged (use_fault schemas declared) verdict)

-- the content of a type and that of its base reach more pairs than the limit
abbrev pub IsUndecided : SchemaSet → ℕ → Declared → Type 0
IsUndecided schemas pairs declared =
    ReachesTooManyPairs schemas (children_in declared.content) (children_of_base (declaration_of schemas declared.base)) (Some pairs)

-- why there is no verdict; want of memory says nothing
abbrev pub HasNoRestriction : SchemaSet → ℕ → Declared → IncludeError → Type 0
HasNoRestriction schemas pairs declared error =
    HasNoVerdict schemas (children_in declared.content) (children_of_base (declaration_of schemas declared.base)) (Some pairs) error
