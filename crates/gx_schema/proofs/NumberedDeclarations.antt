-- The declarations of simple types, by the numbers of the types.
use Rattle.std.proofs.Common.{◌≡◌, ℕ, ◌+◌, true, List, Some, slice_get, sym, ◌∙◌, subst, ap, arith}
use Rattle.std.proofs.lemmas.Option.{get_or_from_slice_get}
use Rattle.gx_base.specs.declared.type_name.Builtin.TheVariants.{AnyType}
use Rattle.gx_base.specs.declared.type_name.TypeName.{TypeName}
use Rattle.gx_base.specs.declared.type_name.TypeName.TheVariants as names
use Rattle.gx_types.specs.SameItemType.{same_type_name}
use Rattle.gx_types.specs.SchemaInvariant.{AreDistinctBy}
use Rattle.gx_types.specs.SchemaSet.{declaration_among, names_declared}
use Rattle.gx_types.specs.declared.declaration.Declared.{Declared as DeclaredType}
use Rattle.gx_schema_components.specs.declared.component.Base.TheVariants.{Declared}
use Rattle.gx_schema_simple.specs.declared.type_form.TypeForm.{TypeForm}
use Rattle.gx_schema.specs.SchemaTypes.{base_name, schema_type}
use Rattle.gx_schema.proofs.Declarations.{declared_there, number_of_declaration}
use Rattle.gx_schema.proofs.TypesByNumber.{names_of_types, type_at, type_of_number}
use Rattle.gx_schema.proofs.SimpleForms.{AreReadTypes, HeldByTypes, meanings_with, types_with}

-- ---- declarations by number

abbrev pub declared_type : List TypeName → List TypeForm → HeldByTypes → ℕ → TypeName → TypeForm → DeclaredType
declared_type declared types held number name form = schema_type declared types (meanings_with types held) number name form

pub names_are : (declared : List TypeName) (types : List TypeForm) (held : HeldByTypes) → AreReadTypes declared types → names_declared (types_with declared types held) ≡ declared
names_are declared types held are = names_of_types declared types (meanings_with types held) 0 declared types are.sized

declared_at : (declared : List TypeName) (types : List TypeForm) (held : HeldByTypes) (number : ℕ) (name : TypeName) (form : TypeForm) → slice_get declared number ≡ Some name → slice_get types number ≡ Some form →
    slice_get (types_with declared types held) number ≡ Some (declared_type declared types held number name form)
declared_at declared types held number name form named formed =
    let here : 0 + number ≡ number = omega arith in
    type_at declared types (meanings_with types held) 0 declared types number name form named formed ∙ ap (λ (n : ℕ). Some (declared_type declared types held n name form)) here

-- what stands at a number among the declarations
pub form_at : (declared : List TypeName) (types : List TypeForm) (held : HeldByTypes) (number : ℕ) (found : DeclaredType) → slice_get (types_with declared types held) number ≡ Some found →
    (name : TypeName) × (form : TypeForm) × (slice_get declared number ≡ Some name) × (slice_get types number ≡ Some form) × (found ≡ declared_type declared types held number name form)
form_at declared types held number found here =
    let (name, form, named, formed, it) = type_of_number declared types (meanings_with types held) 0 declared types number found here in
    let same : 0 + number ≡ number = omega arith in
    (name, form, named, formed, it ∙ ap (λ (n : ℕ). declared_type declared types held n name form) same)

pub declaration_by_number : (declared : List TypeName) (types : List TypeForm) (held : HeldByTypes) → AreReadTypes declared types → (number : ℕ) (name : TypeName) (form : TypeForm) → slice_get declared number ≡ Some name → slice_get types number ≡ Some form →
    (t : TypeName) → same_type_name name t ≡ true → declaration_among (types_with declared types held) t ≡ Some (declared_type declared types held number name form)
declaration_by_number declared types held are number name form named formed t same =
    let distinct = subst (AreDistinctBy same_type_name) (sym (names_are declared types held are)) are.distinct in
    declared_there (types_with declared types held) number (declared_type declared types held number name form) t distinct (declared_at declared types held number name form named formed) same

-- a declared type has a number
pub number_of : (declared : List TypeName) (types : List TypeForm) (held : HeldByTypes) (t : TypeName) (found : DeclaredType) → declaration_among (types_with declared types held) t ≡ Some found →
    (number : ℕ) × (name : TypeName) × (form : TypeForm) × (slice_get declared number ≡ Some name) × (slice_get types number ≡ Some form) × (found ≡ declared_type declared types held number name form) × (same_type_name name t ≡ true)
number_of declared types held t found e =
    let (number, here, same) = number_of_declaration (types_with declared types held) t found e in
    let (name, form, named, formed, it) = form_at declared types held number found here in
    (number, name, form, named, formed, it, sym (ap (λ (d : DeclaredType). same_type_name d.name t) it) ∙ same)

pub name_of_number : (declared : List TypeName) (number : ℕ) (name : TypeName) → slice_get declared number ≡ Some name → base_name declared (Declared number) ≡ name
name_of_number declared number name named = get_or_from_slice_get declared number name (names.Builtin AnyType) named
