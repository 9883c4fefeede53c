-- The rules that an element keeps to, apart from those of its children (XML Schema 1.0 part 1, sections 3.3.4, 3.4.4 and 3.14.4).
use Rattle.std.specs.Prelude.{ℕ, Bool, true, false, not, ◌&&◌, ◌||◌, List, [], ◌∷◌, Option, Some, None, is_none, Result, Ok, Err, if◌then◌else◌}
use Rattle.std.specs.List.{list_any}
use Rattle.gx_base.specs.Name.{same_name}
use Rattle.gx_base.specs.declared.name.Name.{Name}
use Rattle.gx_base.specs.declared.type_name.Builtin.TheVariants.{UntypedAtomic}
use Rattle.gx_base.specs.declared.type_name.TypeName.{TypeName}
use Rattle.gx_base.specs.declared.type_name.TypeName.TheVariants.{Builtin}
use Rattle.gx_tree.specs.StringValue.{texts_joined}
use Rattle.gx_types.specs.SchemaSet.{SchemaSet, declaration_of}
use Rattle.gx_types.specs.declared.declaration.AttributeUse.{AttributeUse}
use Rattle.gx_types.specs.declared.declaration.Declared.{Declared}
use Rattle.gx_xml.specs.SourceTree.{SourceContents, no_content, a_child, a_text}
use Rattle.gx_xml.specs.Untyped.{is_instance_namespace}
use Rattle.gx_xml.specs.declared.source.Declaration.{Declaration}
use Rattle.gx_xml.specs.declared.source.SourceAttribute.{SourceAttribute}
use Rattle.gx_qnames.specs.Lexical.{is_blank}
use Rattle.gx_validate.specs.InstanceAttributes.{has_nil}
use Rattle.gx_validate.specs.Annotation.{annotation}
use Rattle.gx_model.specs.DeclaredContent.{content_model, has_values, uses_allowed, use_named, is_valued}
use Rattle.gx_validate.specs.ElementContent.{texts_allowed, child_shapes}
use Rattle.gx_validate.specs.Taking.{takes_shapes}
use Rattle.gx_validate.specs.declared.content.Texts.{Texts}
use Rattle.gx_validate.specs.declared.content.Texts.TheVariants.{Kept, Ignored, Forbidden}
use Rattle.gx_validate.specs.declared.invalid.InvalidRule.{InvalidRule}
use Rattle.gx_validate.specs.declared.invalid.InvalidRule.TheVariants as rules

-- ---- attributes

-- an attribute counts where it does not speak of schemas
abbrev pub counts : SourceAttribute → Bool
counts a = not (is_instance_namespace a.name.uri)

abbrev pub is_extra : List AttributeUse → SourceAttribute → Bool
is_extra uses a = counts a && is_none (use_named uses a.name)

abbrev pub has_extra : List AttributeUse → List SourceAttribute → Bool
has_extra uses attributes = list_any (is_extra uses) attributes

abbrev pub is_present : List SourceAttribute → Name → Bool
is_present attributes name = list_any (λ a. counts a && same_name name a.name) attributes

abbrev pub lacks_required : List AttributeUse → List SourceAttribute → Bool
lacks_required uses attributes = list_any (λ (given : AttributeUse). given.required && not (is_present attributes given.name)) uses

abbrev pub type_of_use : Option AttributeUse → TypeName
type_of_use None = Builtin UntypedAtomic
type_of_use (Some given) = given.kind

-- the type of an attribute; one that is not allowed has none
abbrev pub type_of_attribute : List AttributeUse → Name → TypeName
type_of_attribute uses name = type_of_use (use_named uses name)

-- ---- texts

-- the texts among children
abbrev pub child_texts : SourceContents → List (List ℕ)
child_texts no_content = []
child_texts (a_child t cs) = child_texts cs
child_texts (a_text x cs) = x ∷ child_texts cs

-- a text may not stand there
abbrev pub is_stray : Texts → List ℕ → Bool
is_stray Kept text = false
is_stray Ignored text = not (is_blank text)
is_stray Forbidden text = true

abbrev pub has_stray_text : Texts → SourceContents → Bool
has_stray_text texts cs = list_any (is_stray texts) (child_texts cs)

-- ---- simple values

abbrev pub is_bad_attribute : SchemaSet → List AttributeUse → SourceAttribute → Bool
is_bad_attribute schemas uses a = counts a && not (is_valued schemas (type_of_attribute uses a.name) a.value)

abbrev pub has_bad_attribute : SchemaSet → List AttributeUse → List SourceAttribute → Bool
has_bad_attribute schemas uses attributes = list_any (is_bad_attribute schemas uses) attributes

abbrev pub has_bad_text : SchemaSet → TypeName → Option Declared → SourceContents → Bool
has_bad_text schemas kind holder cs = has_values holder && not (is_valued schemas kind (texts_joined (child_texts cs)))

-- ---- the first rule that is broken

-- that of an element of a type, which has this declaration
abbrev pub broken_rule : SchemaSet → List Declaration → TypeName → Option Declared → List SourceAttribute → SourceContents → Option InvalidRule
broken_rule schemas scope kind holder attributes cs =
    if has_nil attributes then Some rules.Nil
    else (if has_extra (uses_allowed holder) attributes then Some rules.ExtraAttribute
    else (if lacks_required (uses_allowed holder) attributes then Some rules.MissingAttribute
    else (if has_stray_text (texts_allowed holder) cs then Some rules.TextInElementContent
    else (if not (takes_shapes schemas (content_model holder) (child_shapes schemas scope holder cs)) then Some rules.WrongContent
    else (if has_bad_text schemas kind holder cs || has_bad_attribute schemas (uses_allowed holder) attributes then Some rules.BadSimpleValue
    else None)))))

abbrev pub unless_rule_broken : TypeName → Option InvalidRule → Result TypeName InvalidRule
unless_rule_broken kind None = Ok kind
unless_rule_broken kind (Some rule) = Err rule

abbrev pub element_judged_as : SchemaSet → List Declaration → List SourceAttribute → SourceContents → Option TypeName → Result TypeName InvalidRule
element_judged_as schemas scope attributes cs None = Err rules.BadXsiType
element_judged_as schemas scope attributes cs (Some kind) = unless_rule_broken kind (broken_rule schemas scope kind (declaration_of schemas kind) attributes cs)

-- the type of an element, or the first rule that it breaks
abbrev pub element_judged : SchemaSet → List Declaration → (declared : TypeName) → List SourceAttribute → SourceContents → Result TypeName InvalidRule
element_judged schemas scope declared attributes cs = element_judged_as schemas scope attributes cs (annotation schemas scope declared attributes)
