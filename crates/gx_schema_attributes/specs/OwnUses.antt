-- What types say of their attributes (XML Schema 1.0 part 1, section 3.4.2).
use Rattle.std.specs.Prelude.{ℕ, Bool, not, List, [], ◌∷◌, ◌++◌, filter}
use Rattle.std.specs.List.{flat_map}
use Rattle.gx_base.specs.declared.name.Name.{Name}
use Rattle.gx_types.specs.declared.declaration.AttributeUse.{AttributeUse}
use Rattle.gx_schema_components.specs.declared.component.AttributePart.{AttributePart}
use Rattle.gx_schema_components.specs.declared.component.AttributePart.TheVariants.{Use, Prohibited, Group}
use Rattle.gx_schema_components.specs.declared.component.Base.{Base}
use Rattle.gx_schema_components.specs.declared.component.Base.TheVariants.{Builtin, Declared}
use Rattle.gx_schema_components.specs.declared.component.ComplexType.{ComplexType}
use Rattle.gx_schema_components.specs.declared.component.Derivation.{Derivation}
use Rattle.gx_schema_components.specs.declared.component.Derivation.TheVariants.{Own, Extends, Restricts}
use Rattle.gx_schema_components.specs.declared.component.TypeComponent.{TypeComponent}
use Rattle.gx_schema_components.specs.declared.component.TypeForm.{TypeForm}
use Rattle.gx_schema_components.specs.declared.component.TypeForm.TheVariants.{Simple, Complex}
use Rattle.gx_schema_attributes.specs.declared.given.GivenUses.{GivenUses}
use Rattle.gx_schema_attributes.specs.declared.own.Inherited.{Inherited}
use Rattle.gx_schema_attributes.specs.declared.own.Inherited.TheVariants.{Nothing, All, Staying}
use Rattle.gx_schema_attributes.specs.declared.own.OwnUses.{OwnUses}
use Rattle.gx_schema_attributes.specs.GivenUses.{given_by_parts, is_name_among, names_of_uses, nothing_given}

-- ---- what is inherited

abbrev pub all_of_base : Base → Inherited
all_of_base (Builtin builtin) = Nothing
all_of_base (Declared number) = All number

abbrev pub staying_of_base : Base → Inherited
staying_of_base (Builtin builtin) = Nothing
staying_of_base (Declared number) = Staying number

abbrev pub inherited_by : Derivation → Inherited
inherited_by Own = Nothing
inherited_by (Extends from) = all_of_base from.base
inherited_by (Restricts from) = staying_of_base from.base

-- the type from which attributes are inherited
abbrev pub type_inherited : Inherited → List ℕ
type_inherited Nothing = []
type_inherited (All number) = number ∷ []
type_inherited (Staying number) = number ∷ []

abbrev pub base_named : OwnUses → List ℕ
base_named own = type_inherited own.inherited

-- the attributes of that type, over those of types
abbrev pub base_uses : (ℕ → List AttributeUse) → Inherited → List AttributeUse
base_uses types Nothing = []
base_uses types (All number) = types number
base_uses types (Staying number) = types number

-- ---- what a type says

abbrev pub prohibited_name : AttributePart → List Name
prohibited_name (Use place attribute) = []
prohibited_name (Prohibited place name) = name ∷ []
prohibited_name (Group place number) = []

abbrev pub prohibited_names : List AttributePart → List Name
prohibited_names parts = flat_map prohibited_name parts

abbrev pub own_of_complex : (ℕ → GivenUses) → ComplexType → OwnUses
own_of_complex groups complex = record {
  inherited = inherited_by complex.derivation;
  given = (given_by_parts groups nothing_given complex.attributes).uses;
  prohibited = prohibited_names complex.attributes;
}

abbrev pub own_of_form : (ℕ → GivenUses) → TypeForm → OwnUses
own_of_form groups (Simple simple) = record { inherited = Nothing; given = []; prohibited = [] }
own_of_form groups (Complex complex) = own_of_complex groups complex

abbrev pub own_of_type : (ℕ → GivenUses) → TypeComponent → OwnUses
own_of_type groups component = own_of_form groups component.form

-- ---- what stays of the base in a restriction: what it neither prohibits nor gives anew

abbrev pub replaced_names : OwnUses → List Name
replaced_names own = own.prohibited ++ names_of_uses own.given

-- an attribute has a name that is not among some
abbrev pub is_other : List Name → AttributeUse → Bool
is_other names attribute = not (is_name_among names attribute.name)

abbrev pub stays : OwnUses → AttributeUse → Bool
stays own = is_other (replaced_names own)

-- what a type has of the attributes of its base
abbrev pub inherited_of : Inherited → List AttributeUse → OwnUses → List AttributeUse
inherited_of Nothing base own = []
inherited_of (All number) base own = base
inherited_of (Staying number) base own = filter (stays own) base

abbrev pub inherited_from : List AttributeUse → OwnUses → List AttributeUse
inherited_from base own = inherited_of own.inherited base own
