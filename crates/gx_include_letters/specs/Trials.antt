-- The shapes that are tried at the positions of a type, in their order.
use Rattle.std.specs.Prelude.{◌≡◌, ℕ, ◌<◌, true, false, List, [], ◌∷◌, ◌++◌, map, None, Some, codes, if◌then◌else◌, ◌==◌}
use Rattle.std.specs.List.{flat_map}
use Rattle.std.specs.Str.{chars}
use Rattle.std.specs.Fmt.{decimal}
use Rattle.gx_base.specs.declared.name.Name.{Name}
use Rattle.gx_base.specs.declared.type_name.Builtin.TheVariants.{Untyped}
use Rattle.gx_base.specs.declared.type_name.TypeName.{TypeName}
use Rattle.gx_base.specs.declared.type_name.TypeName.TheVariants as type_names
use Rattle.gx_types.specs.declared.shape.Shape.{Shape}
use Rattle.gx_types.specs.declared.shape.Shape.TheVariants as shapes
use Rattle.gx_include_positions.specs.Names.{is_named}
use Rattle.gx_include_letters.specs.declared.trial.Sort.{Sort}
use Rattle.gx_include_letters.specs.declared.trial.Sort.TheVariants.{Element, Attribute, Document}

-- `other`, `other1`, `other2` and so on, in no namespace
abbrev pub other_name : ℕ → Name
other_name number = record { uri = []; prefix = []; local = chars (if number == 0 then codes "other" else (codes "other" ++ decimal number)) }

-- the first of these that is not in a list
pub record IsOther (names : List Name) (name : Name) : Type 0 where
  pub number : ℕ
  pub is : name ≡ other_name number
  pub new : is_named names name ≡ false
  pub before : (k : ℕ) → k < number → is_named names (other_name k) ≡ true

-- an item of a sort with a name and a type
abbrev pub made : Sort → Name → TypeName → Shape
made Element name t = shapes.Elem name t
made Attribute name t = shapes.Attr name t
made Document name t = shapes.Doc (Some (name, t))

abbrev pub untyped : TypeName
untyped = type_names.Builtin Untyped

-- items of a sort by name, and then by type
abbrev pub named_shapes : Sort → List TypeName → List Name → List Shape
named_shapes sort types names = flat_map (λ name. map (λ t. made sort name t) types) names

-- atomic values by type, elements and attributes by name and type, a text, and documents without and with an element
abbrev pub trial_shapes : List TypeName → List Name → List Shape
trial_shapes types names =
    map shapes.Atom types ++ named_shapes Element (untyped ∷ types) names ++ named_shapes Attribute types names
    ++ (shapes.Text ∷ shapes.Doc None ∷ []) ++ named_shapes Document (untyped ∷ types) names
