-- The types that simple types declare, by their numbers.
use Rattle.std.proofs.Common.{◌≡◌, ℕ, zero, suc, ◌+◌, List, [], ◌∷◌, length, Some, slice_get, refl, ◌∙◌, ap, arith}
use Rattle.gx_base.specs.declared.type_name.TypeName.{TypeName}
use Rattle.gx_types.specs.SchemaSet.{names_declared}
use Rattle.gx_types.specs.declared.declaration.Declared.{Declared}
use Rattle.gx_schema_simple.specs.Circles.{named_next}
use Rattle.gx_schema_simple.specs.Forms.{reference_of, references_of}
use Rattle.gx_schema_simple.specs.declared.type_form.TypeForm.{TypeForm}
use Rattle.gx_schema.specs.SchemaTypes.{TypeMeanings, schema_type, schema_types_from}

-- the declarations of types have their names
pub names_of_types : (declared : List TypeName) (types : List TypeForm) (meanings : TypeMeanings) (number : ℕ) (names : List TypeName) (forms : List TypeForm) → length names ≡ length forms →
    names_declared (schema_types_from declared types meanings number names forms) ≡ names
names_of_types declared types meanings number [] [] sized = refl
names_of_types declared types meanings number [] (form ∷ forms) sized = refl
names_of_types declared types meanings number (name ∷ names) [] sized = absurd (omega arith)
names_of_types declared types meanings number (name ∷ names) (form ∷ forms) sized = ap (λ (others : List TypeName). name ∷ others) (names_of_types declared types meanings (suc number) names forms (omega arith))

pub type_at : (declared : List TypeName) (types : List TypeForm) (meanings : TypeMeanings) (start : ℕ) (names : List TypeName) (forms : List TypeForm) (number : ℕ) (name : TypeName) (form : TypeForm) →
    slice_get names number ≡ Some name → slice_get forms number ≡ Some form → slice_get (schema_types_from declared types meanings start names forms) number ≡ Some (schema_type declared types meanings (start + number) name form)
type_at declared types meanings start [] forms number name form named here = absurd (cc)
type_at declared types meanings start (other ∷ names) [] number name form named here = absurd (cc)
type_at declared types meanings start (other ∷ names) (first ∷ forms) zero name form named here =
    let same_name : other ≡ name = cc in
    let same_form : first ≡ form = cc in
    let here_is : start ≡ start + zero = omega arith in
    cc
type_at declared types meanings start (other ∷ names) (first ∷ forms) (suc number) name form named here =
    type_at declared types meanings (suc start) names forms number name form named here
    ∙ (let later : suc start + number ≡ start + suc number = omega arith in ap (λ (n : ℕ). Some (schema_type declared types meanings n name form)) later)

-- each declaration is that of a type with its name
pub type_of_number : (declared : List TypeName) (types : List TypeForm) (meanings : TypeMeanings) (start : ℕ) (names : List TypeName) (forms : List TypeForm) (number : ℕ) (found : Declared) →
    slice_get (schema_types_from declared types meanings start names forms) number ≡ Some found →
    (name : TypeName) × (form : TypeForm) × (slice_get names number ≡ Some name) × (slice_get forms number ≡ Some form) × (found ≡ schema_type declared types meanings (start + number) name form)
type_of_number declared types meanings start [] forms number found here = absurd (cc)
type_of_number declared types meanings start (name ∷ names) [] number found here = absurd (cc)
type_of_number declared types meanings start (name ∷ names) (form ∷ forms) zero found here =
    let here_is : start ≡ start + zero = omega arith in
    (name, form, refl, refl, cc)
type_of_number declared types meanings start (name ∷ names) (form ∷ forms) (suc number) found here =
    let (other, its_form, named, formed, it) = type_of_number declared types meanings (suc start) names forms number found here in
    let later : suc start + number ≡ start + suc number = omega arith in
    (other, its_form, named, formed, it ∙ ap (λ (n : ℕ). schema_type declared types meanings n other its_form) later)

-- what a type names
pub reference_at : (types : List TypeForm) (number : ℕ) (form : TypeForm) → slice_get types number ≡ Some form → named_next (references_of types) number ≡ reference_of form
reference_at [] number form here = absurd (cc)
reference_at (other ∷ types) zero form here = let it : other ≡ form = cc in ap reference_of it
reference_at (other ∷ types) (suc number) form here = reference_at types number form here

pub length-schema_types : (declared : List TypeName) (types : List TypeForm) (meanings : TypeMeanings) (number : ℕ) (names : List TypeName) (forms : List TypeForm) → length names ≡ length forms →
    length (schema_types_from declared types meanings number names forms) ≡ length forms
length-schema_types declared types meanings number [] [] sized = refl
length-schema_types declared types meanings number [] (form ∷ forms) sized = absurd (omega arith)
length-schema_types declared types meanings number (name ∷ names) [] sized = refl
length-schema_types declared types meanings number (name ∷ names) (form ∷ forms) sized = ap suc (length-schema_types declared types meanings (suc number) names forms (omega arith))
