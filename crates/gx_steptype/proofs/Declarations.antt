-- Declarations of types, found by name.
use Rattle.std.proofs.Common.{◌≡◌, Bool, true, false, List, [], ◌∷◌, refl, ◌∙◌, ap, subst, Option, Some, None, if◌then◌else◌}
use Rattle.gx_base.specs.declared.type_name.Builtin.{Builtin}
use Rattle.gx_base.specs.declared.type_name.TypeName.{TypeName}
use Rattle.gx_base.specs.declared.type_name.TypeName.TheVariants as names
use Rattle.gx_types.specs.SameItemType.{same_type_name}
use Rattle.gx_types.specs.SchemaSet.{SchemaSet, declaration_among, declaration_of}
use Rattle.gx_types.specs.SchemaInvariant.{IsSchemaSet, IsDeclarationOf, HoldsOfEach, is_built_in}
use Rattle.gx_types.specs.declared.declaration.Declared.{Declared}
use Rattle.gx_types.proofs.PublicLaws.{equality_is_an_equivalence}

-- equal types have one declaration
pub declaration_agrees : (types : List Declared) (t u : TypeName) → same_type_name t u ≡ true → declaration_among types t ≡ declaration_among types u
declaration_agrees [] t u h = refl
declaration_agrees (d ∷ ds) t u h =
    let laws = equality_is_an_equivalence.type_names in
    let e : same_type_name d.name t ≡ same_type_name d.name u = laws.symm d.name t ∙ laws.congr t u d.name h ∙ laws.symm u d.name in
    ap (λ (b : Bool). if b then Some d else declaration_among ds t) e
    ∙ ap (λ (o : Option Declared). if same_type_name d.name u then Some d else o) (declaration_agrees ds t u h)

each_step : (P : Declared → Type 0) (x d : Declared) (others : Option Declared) (b : Bool) → P x → (if b then Some x else others) ≡ Some d → (others ≡ Some d → P d) → P d
each_step P x d others true p h k = let one : x ≡ d = cc in subst P one p
each_step P x d others false p h k = k h

-- what holds of each declaration
pub holds_of_found : (P : Declared → Type 0) (types : List Declared) (t : TypeName) (d : Declared) → HoldsOfEach P types → declaration_among types t ≡ Some d → P d
holds_of_found P [] t d p h = absurd (cc)
holds_of_found P (x ∷ xs) t d p h = each_step P x d (declaration_among xs t) (same_type_name x.name t) p.0 h (holds_of_found P xs t d p.1)

pub declared_is : (s : SchemaSet) (t : TypeName) (d : Declared) → IsSchemaSet s → declaration_of s t ≡ Some d → IsDeclarationOf s d
declared_is s t d i e = holds_of_found (IsDeclarationOf s) s.types t d i.types e

-- no declaration has the name of a built-in type

other_name : (name : TypeName) (b : Builtin) → is_built_in name ≡ false → same_type_name name (names.Builtin b) ≡ false
other_name (names.Builtin c) b h = absurd (cc)
other_name (names.Named n) b h = refl
other_name (names.Anonymous n) b h = refl

none_is_built_in : (s : SchemaSet) (types : List Declared) (b : Builtin) → HoldsOfEach (IsDeclarationOf s) types → declaration_among types (names.Builtin b) ≡ None
none_is_built_in s [] b h = refl
none_is_built_in s (d ∷ ds) b h =
    ap (λ (same : Bool). if same then Some d else declaration_among ds (names.Builtin b)) (other_name d.name b h.0.named) ∙ none_is_built_in s ds b h.1

pub builtin_is_undeclared : (s : SchemaSet) (b : Builtin) → IsSchemaSet s → declaration_of s (names.Builtin b) ≡ None
builtin_is_undeclared s b i = none_is_built_in s s.types b i.types
