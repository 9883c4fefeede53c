-- The laws of contents.
use Rattle.std.specs.Prelude.{◌≡◌, ℕ, ◌≤◌, Bool, true, List, None, Some}
use Rattle.std.specs.Bool.{IsTrue}
use Rattle.gx_base.specs.declared.limits.TheConstants.{CONTENT_POSITIONS}
use Rattle.gx_base.specs.declared.type_name.TypeName.{TypeName}
use Rattle.gx_types.specs.declared.item_type.ItemType.{ItemType}
use Rattle.gx_types.specs.declared.item_type.ItemType.TheVariants as items
use Rattle.gx_types.specs.Prime.{items_of}
use Rattle.gx_types.specs.SchemaInvariant.{DeclaresOneTypeAName, HoldsOfEach}
use Rattle.gx_types.specs.TypeRules.{positions_of}
use Rattle.gx_schema_components.specs.declared.component.ModelGroup.{ModelGroup}
use Rattle.gx_schema_components.specs.declared.component.TypeComponent.{TypeComponent}
use Rattle.gx_schema_content.specs.ContentKnots.{content_of_type}
use Rattle.gx_schema_content.specs.Disagreement.{first_disagreement}
use Rattle.gx_schema_content.specs.ElementKinds.{element_kinds_pass}
use Rattle.gx_schema_content.specs.GroupPositions.{positions_with_texts}
use Rattle.gx_schema_content.specs.MixedContents.{model_of}
use Rattle.gx_schema_content.specs.PositionKnots.{positions_of_type}
use Rattle.gx_schema_content.specs.WholeContents.{whole_content_of_type}

-- where no element particle disagrees, each content model has one type for a name
abbrev pub OneTypeAName : Type 0
OneTypeAName = (types : List TypeComponent) (groups : List ModelGroup) → first_disagreement types groups ≡ None → (mixed : Bool) (number : ℕ) →
    DeclaresOneTypeAName (items_of (model_of mixed (content_of_type types groups number).content))

-- an item is an element with a name whose type passes a test, or a text where texts are allowed
abbrev pub IsPassingItem : (TypeName → Bool) → (mixed : Bool) → ItemType → Type 0
IsPassingItem passes mixed (items.Element (Some name) kind) = IsTrue (passes kind)
IsPassingItem passes mixed items.Text = IsTrue mixed
IsPassingItem passes mixed _ = ⊥

-- where the types of all elements that are written pass a test, so do those in each content model
abbrev pub ElementsKeep : Type 0
ElementsKeep = (passes : TypeName → Bool) (types : List TypeComponent) (groups : List ModelGroup) → element_kinds_pass passes types groups ≡ true → (mixed : Bool) (number : ℕ) →
    HoldsOfEach (IsPassingItem passes mixed) (items_of (model_of mixed (content_of_type types groups number).content))

-- a content model has no more positions than a content may have, with a text in front and one behind each
abbrev pub ContentsAreBounded : Type 0
ContentsAreBounded = (types : List TypeComponent) (groups : List ModelGroup) (mixed : Bool) (number : ℕ) →
    positions_of (model_of mixed (content_of_type types groups number).content) ≤ positions_with_texts CONTENT_POSITIONS

-- the content of a type of no more positions than a content may have is the whole content
abbrev pub ContentsAreWhole : Type 0
ContentsAreWhole = (types : List TypeComponent) (groups : List ModelGroup) (number : ℕ) → positions_of_type types groups number ≤ CONTENT_POSITIONS →
    content_of_type types groups number ≡ whole_content_of_type types groups number
