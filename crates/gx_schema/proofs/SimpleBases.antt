-- The bases of types end at built-in types.
use Rattle.std.proofs.Common.{◌≡◌, ℕ, zero, suc, ◌<◌, inl, inr, true, List, length, None, Some, is_some, slice_get, refl, sym, ◌∙◌, subst, ap, arith}
use Rattle.std.specs.Bool.{IsTrue}
use Rattle.std.proofs.lemmas.Option.{same_Some, slice_get_within}
use Rattle.gx_base.specs.declared.type_name.Builtin.{Builtin as BuiltinType}
use Rattle.gx_base.specs.declared.type_name.Builtin.TheVariants.{AnySimple, AnyType}
use Rattle.gx_base.specs.declared.type_name.TypeName.{TypeName}
use Rattle.gx_base.specs.declared.type_name.TypeName.TheVariants as names
use Rattle.gx_types.specs.Derivation.{Bases, bases_among, declared_base_of}
use Rattle.gx_types.specs.Grounded.{EndsWithin, is_known}
use Rattle.gx_types.specs.SameItemType.{same_type_name}
use Rattle.gx_types.specs.SchemaSet.{declaration_among}
use Rattle.gx_types.proofs.EqualNames.{type_name_itself}
use Rattle.gx_types.proofs.SchemaLemmas.{as_many_bases, base_is, no_base}
use Rattle.gx_schema_components.specs.declared.component.Base.TheVariants.{Builtin, Declared}
use Rattle.gx_schema_simple.specs.Ends.{ends_by_steps}
use Rattle.gx_schema_simple.specs.Forms.{reference_of, references_of}
use Rattle.gx_schema_simple.specs.declared.type_form.TypeForm.{TypeForm}
use Rattle.gx_schema_simple.specs.declared.type_form.TypeForm.TheVariants as forms
use Rattle.gx_schema.specs.SchemaTypes.{base_name, derived_from_name}
use Rattle.gx_schema.proofs.Declarations.{element_at, none_or_some}
use Rattle.gx_schema.proofs.TypesByNumber.{length-schema_types}
use Rattle.gx_schema.proofs.SimpleForms.{AreReadTypes, HeldByTypes, meanings_with, types_with, IsReadForm}
use Rattle.gx_schema.proofs.NumberedDeclarations.{declaration_by_number, declared_type, name_of_number, number_of}
use Rattle.gx_schema.proofs.SimpleVarieties.{ends_soon, names_none, next_ends, one_less}

-- ---- bases end

ends_by_base : (bases : Bases) (steps : ℕ) (t : TypeName) → ((base : TypeName) → declared_base_of bases t ≡ Some base → EndsWithin bases steps base) → EndsWithin bases (suc steps) t
ends_by_base bases steps (names.Builtin builtin) next = tt
ends_by_base bases steps (names.Named name) next = next
ends_by_base bases steps (names.Anonymous number) next = next

ends_without_base : (bases : Bases) (steps : ℕ) (t : TypeName) → declared_base_of bases t ≡ None → EndsWithin bases steps t
ends_without_base bases steps (names.Builtin builtin) none = tt
ends_without_base bases zero (names.Named name) none = none
ends_without_base bases zero (names.Anonymous number) none = none
ends_without_base bases (suc steps) (names.Named name) none = λ base e. absurd (cc)
ends_without_base bases (suc steps) (names.Anonymous number) none = λ base e. absurd (cc)

-- what holds of built-in types and of the declared ones that a form names holds of its base
holds_of_base : (declared : List TypeName) (count : ℕ) (form : TypeForm) (Fact : TypeName → Type 0) → IsReadForm count form → ((builtin : BuiltinType) → Fact (names.Builtin builtin)) →
    ((number : ℕ) → reference_of form ≡ Some number → number < count → Fact (base_name declared (Declared number))) → Fact (derived_from_name declared form)
holds_of_base declared count (forms.Restriction place (Builtin builtin) facets) Fact simple built_in next = built_in builtin
holds_of_base declared count (forms.Restriction place (Declared number) facets) Fact simple built_in next = next number refl simple
holds_of_base declared count (forms.List place item) Fact simple built_in next = built_in AnySimple
holds_of_base declared count (forms.SimpleContent (Builtin builtin) facets) Fact simple built_in next = built_in builtin
holds_of_base declared count (forms.SimpleContent (Declared number) facets) Fact simple built_in next = next number refl simple
holds_of_base declared count (forms.ComplexContent None) Fact simple built_in next = built_in AnyType
holds_of_base declared count (forms.ComplexContent (Some (Builtin builtin))) Fact simple built_in next = built_in builtin
holds_of_base declared count (forms.ComplexContent (Some (Declared number))) Fact simple built_in next = next number refl simple

base_by_number : (declared : List TypeName) (types : List TypeForm) (held : HeldByTypes) → AreReadTypes declared types → (number : ℕ) (name : TypeName) (form : TypeForm) → slice_get declared number ≡ Some name → slice_get types number ≡ Some form →
    (t base : TypeName) → same_type_name name t ≡ true → declared_base_of (bases_among (types_with declared types held)) t ≡ Some base → derived_from_name declared form ≡ base
base_by_number declared types held are number name form named formed t base same e =
    let found = declaration_by_number declared types held are number name form named formed t same in
    let its_base = base_is (types_with declared types held) t (declared_type declared types held number name form) found in
    same_Some (derived_from_name declared form) base (sym its_base ∙ e)

ends_by_number : (declared : List TypeName) (types : List TypeForm) (held : HeldByTypes) → AreReadTypes declared types → (steps number : ℕ) (name : TypeName) (form : TypeForm) → slice_get declared number ≡ Some name → slice_get types number ≡ Some form →
    ends_by_steps (references_of types) steps number ≡ true → (t : TypeName) → same_type_name name t ≡ true → EndsWithin (bases_among (types_with declared types held)) (suc steps) t
ends_by_number declared types held are zero number name form named formed ends t same =
    let bases = bases_among (types_with declared types held) in
    ends_by_base bases zero t
    (λ base e. subst (EndsWithin bases zero) (base_by_number declared types held are number name form named formed t base same e)
    (holds_of_base declared (length declared) form (EndsWithin bases zero) (are.read number form formed) (λ builtin. tt)
    (λ next names small. absurd (names_none types number next form formed ends names))))
ends_by_number declared types held are (suc steps) number name form named formed ends t same =
    let bases = bases_among (types_with declared types held) in
    let sized = are.sized in
    ends_by_base bases (suc steps) t
    (λ base e. subst (EndsWithin bases (suc steps)) (base_by_number declared types held are number name form named formed t base same e)
    (holds_of_base declared (length declared) form (EndsWithin bases (suc steps)) (are.read number form formed) (λ builtin. tt)
    (λ next names small.
    let (other, there) = element_at declared next small in
    let (its_form, its) = element_at types next (omega arith) in
    subst (EndsWithin bases (suc steps)) (sym (name_of_number declared next other there))
    (ends_by_number declared types held are steps next other its_form there its (next_ends types steps number next form formed ends names) other (type_name_itself other)))))

pub all_types_end : (declared : List TypeName) (types : List TypeForm) (held : HeldByTypes) → AreReadTypes declared types → (t : TypeName) →
    EndsWithin (bases_among (types_with declared types held)) (length (bases_among (types_with declared types held))) t
all_types_end declared types held are t =
    let all = types_with declared types held in
    elim (none_or_some (declaration_among all t)) [
      | inl none ↦ ends_without_base (bases_among all) (length (bases_among all)) t (no_base all t none)
      | inr (found, e) ↦
          let (number, name, form, named, formed, it, same) = number_of declared types held t found e in
          let within = slice_get_within types number form formed in
          let (steps, size) = one_less (length types) number within in
          let count = as_many_bases all ∙ length-schema_types declared types (meanings_with types held) 0 declared types are.sized ∙ size in
          subst (λ (n : ℕ). EndsWithin (bases_among all) n t) (sym count)
          (ends_by_number declared types held are steps number name form named formed (ends_soon declared types are steps number size within) t same)
    ]

-- ---- bases are known

known_if_declared : (bases : Bases) (t base : TypeName) → declared_base_of bases t ≡ Some base → IsTrue (is_known bases t)
known_if_declared bases (names.Builtin builtin) base e = refl
known_if_declared bases (names.Named name) base e = ap is_some e
known_if_declared bases (names.Anonymous number) base e = ap is_some e

pub all_bases_are_known : (declared : List TypeName) (types : List TypeForm) (held : HeldByTypes) → AreReadTypes declared types → (t base : TypeName) → declared_base_of (bases_among (types_with declared types held)) t ≡ Some base →
    IsTrue (is_known (bases_among (types_with declared types held)) base)
all_bases_are_known declared types held are t base e =
    let all = types_with declared types held in
    let sized = are.sized in
    elim (none_or_some (declaration_among all t)) [
      | inl none ↦ let no = no_base all t none in absurd (cc)
      | inr (found, declares) ↦
          let (number, name, form, named, formed, it, same) = number_of declared types held t found declares in
          subst (λ (b : TypeName). IsTrue (is_known (bases_among all) b)) (base_by_number declared types held are number name form named formed t base same e)
          (holds_of_base declared (length declared) form (λ (b : TypeName). IsTrue (is_known (bases_among all) b)) (are.read number form formed) (λ builtin. refl)
          (λ next names small.
          let (other, there) = element_at declared next small in
          let (its_form, its) = element_at types next (omega arith) in
          let its_declaration = declaration_by_number declared types held are next other its_form there its other (type_name_itself other) in
          subst (λ (b : TypeName). IsTrue (is_known (bases_among all) b)) (sym (name_of_number declared next other there))
          (known_if_declared (bases_among all) other (derived_from_name declared its_form) (base_is all other (declared_type declared types held next other its_form) its_declaration))))
    ]
