-- Elements of one name with two types in one content (XML Schema 1.0 part 1, section 3.8.6, Element Declarations Consistent).
use Rattle.std.specs.Prelude.{ℕ, zero, suc, nat_le, Bool, false, not, List, [], ◌∷◌, length, fold, Option, None, Some, if◌then◌else◌}
use Rattle.gx_base.specs.Name.{same_name}
use Rattle.gx_base.specs.declared.name.Name.{Name}
use Rattle.gx_base.specs.declared.type_name.TypeName.{TypeName}
use Rattle.gx_types.specs.SameItemType.{same_type_name}
use Rattle.gx_schema_components.specs.declared.component.ModelGroup.{ModelGroup}
use Rattle.gx_schema_components.specs.declared.component.TypeComponent.{TypeComponent}
use Rattle.gx_schema_content.specs.declared.elements.ElementParticle.{ElementParticle}
use Rattle.gx_schema_content.specs.ElementKnots.{elements_of_type}

-- the type of the first element of a name
abbrev pub first_kind : List ElementParticle → Name → Option TypeName
first_kind [] name = None
first_kind (element ∷ elements) name = if same_name element.name name then Some element.kind else first_kind elements name

abbrev pub is_other_kind : Option TypeName → TypeName → Bool
is_other_kind None kind = false
is_other_kind (Some first) kind = not (same_type_name first kind)

-- an element particle of a content disagrees with the first of its name
abbrev pub disagrees : List ElementParticle → ElementParticle → Bool
disagrees elements element = is_other_kind (first_kind elements element.name) element.kind

-- the earlier of what was found and an element particle, by place; what was found of two at one place
abbrev pub earlier_particle : Option ElementParticle → ElementParticle → ElementParticle
earlier_particle None element = element
earlier_particle (Some found) element = if nat_le found.place element.place then found else element

abbrev pub stands_at_or_before : Option ElementParticle → (place : ℕ) → Bool
stands_at_or_before None place = false
stands_at_or_before (Some found) place = nat_le found.place place

abbrev pub or_disagreement : List ElementParticle → Option ElementParticle → ElementParticle → Option ElementParticle
or_disagreement elements found element = if disagrees elements element then Some (earlier_particle found element) else found

-- the first by place of what was found and of the element particles of a content that disagree
abbrev pub or_disagreements : Option ElementParticle → List ElementParticle → Option ElementParticle
or_disagreements found elements = fold (or_disagreement elements) found elements

-- the first by place over the contents of so many types
abbrev pub first_disagreement_below : (ℕ → List ElementParticle) → ℕ → Option ElementParticle
first_disagreement_below contents zero = None
first_disagreement_below contents (suc count) = or_disagreements (first_disagreement_below contents count) (contents count)

-- the first element particle by place that disagrees in the content of a type
unfoldable pub first_disagreement : List TypeComponent → List ModelGroup → Option ElementParticle
first_disagreement types groups = first_disagreement_below (elements_of_type types groups) (length types)
