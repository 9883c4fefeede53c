-- What the declaration of a type says of its elements (XML Schema 1.0 part 1, sections 3.3.4 and 3.4.4). A built-in type has no declaration.
use Rattle.std.specs.Prelude.{ℕ, Bool, List, [], find, Option, Some, None, is_none, is_ok, unwrap_or}
use Rattle.gx_base.specs.Name.{same_name}
use Rattle.gx_base.specs.declared.name.Name.{Name}
use Rattle.gx_base.specs.declared.type_name.TypeName.{TypeName}
use Rattle.gx_types.specs.SchemaSet.{SchemaSet}
use Rattle.gx_types.specs.SequenceType.{SequenceType, item, optional}
use Rattle.gx_types.specs.SimpleValue.{values_of_text}
use Rattle.gx_types.specs.declared.declaration.AttributeUse.{AttributeUse}
use Rattle.gx_types.specs.declared.declaration.Content.{Content}
use Rattle.gx_types.specs.declared.declaration.Content.TheVariants as contents
use Rattle.gx_types.specs.declared.declaration.Declared.{Declared}
use Rattle.gx_types.specs.declared.item_type.ItemType.TheVariants as items

-- ---- children

-- a text, or nothing
abbrev pub text_model : SequenceType
text_model = optional (item items.Text)

abbrev pub model_in : Content → Option SequenceType
model_in (contents.Complex mixed model) = Some model
model_in _ = None

-- the content model of a complex type that has one
abbrev pub complex_model : Option Declared → Option SequenceType
complex_model None = None
complex_model (Some declared) = model_in declared.content

-- the children that a type allows: those of its content model, or a text where it has simple values
abbrev pub content_model : Option Declared → SequenceType
content_model holder = unwrap_or (complex_model holder) text_model

-- the text of an element of this type stands for simple values
abbrev pub has_values : Option Declared → Bool
has_values holder = is_none (complex_model holder)

-- ---- attributes

-- the attributes that a type allows; a built-in type allows none
abbrev pub uses_allowed : Option Declared → List AttributeUse
uses_allowed None = []
uses_allowed (Some declared) = declared.attributes

abbrev pub use_named : List AttributeUse → Name → Option AttributeUse
use_named uses name = find (λ (given : AttributeUse). same_name given.name name) uses

-- ---- simple values

-- a text stands for simple values of a type
abbrev pub is_valued : SchemaSet → TypeName → List ℕ → Bool
is_valued schemas t text = is_ok (values_of_text schemas t text)
