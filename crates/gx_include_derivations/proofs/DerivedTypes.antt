-- The declared types that are derived from a type, found one after another.
use Rattle.std.proofs.Common.{◌≡◌, ℕ, ◌+◌, ◌<◌, ◌≤◌, Bool, true, false, List, [], ◌∷◌, ◌++◌, Some, refl, sym, ◌∙◌, ap, subst, get_or, length, take, slice_get, if◌then◌else◌}
use Rattle.std.specs.Prelude.{filter}
use Rattle.std.specs.List.{flat_map}
use Rattle.std.proofs.lemmas.List.{take_all}
use Rattle.std.proofs.lemmas.Option.{slice_get-get_or}
use Rattle.gx_base.specs.declared.type_name.TypeName.{TypeName}
use Rattle.gx_types.specs.declared.declaration.Declared.{Declared}
use Rattle.gx_types.specs.SchemaSet.{SchemaSet, names_declared}
use Rattle.gx_types.specs.Derivation.{is_derived}
use Rattle.gx_include_derivations.specs.Derivations.{derived_types, is_derived_declared, IsColumn}
use Rattle.gx_include_positions.proofs.Lists.{flat_step}

abbrev pub name_if_derived : SchemaSet → TypeName → Declared → List TypeName
name_if_derived s kind d = if is_derived s d.name kind then d.name ∷ [] else []

kept : (s : SchemaSet) (kind : TypeName) (types : List Declared) → flat_map (name_if_derived s kind) types ≡ filter (λ t. is_derived s t kind) (names_declared types)
kept s kind [] = refl
kept s kind (d ∷ types) =
    ap (λ names. name_if_derived s kind d ++ names) (kept s kind types) ∙ by (is_derived s d.name kind) (filter (λ t. is_derived s t kind) (names_declared types))
  where
    by : (b : Bool) (names : List TypeName) → (if b then d.name ∷ [] else []) ++ names ≡ if b then d.name ∷ names else names
    by true names = refl
    by false names = refl

-- one declared type more
pub names_more : (s : SchemaSet) (kind : TypeName) (types : List Declared) (i : ℕ) (d : Declared) (column : List Bool) (before after : List TypeName) → types ≡ s.types → i < length types
    → d ≡ get_or types i d → IsColumn s kind column → before ≡ flat_map (name_if_derived s kind) (take i s.types)
    → after ≡ before ++ (if get_or column i false then d.name ∷ [] else []) → after ≡ flat_map (name_if_derived s kind) (take (i + 1) s.types)
names_more s kind types i d column before after e within is are f g =
    let inside : i < length s.types = subst (λ (ts : List Declared). i < length ts) e within in
    let here : d ≡ get_or s.types i d = is ∙ ap (λ (ts : List Declared). get_or ts i d) e in
    let at : slice_get s.types i ≡ Some d = slice_get-get_or s.types i d inside ∙ ap (λ (x : Declared). Some x) (sym here) in
    flat_step (name_if_derived s kind) s.types i d inside here [] before after f
    (g ∙ ap (λ b. before ++ (if b then d.name ∷ [] else [])) (are.are i ∙ ap (is_derived_declared s kind) at))

pub all_names : (s : SchemaSet) (kind : TypeName) (i : ℕ) (names : List TypeName) → length s.types ≤ i → names ≡ flat_map (name_if_derived s kind) (take i s.types) → names ≡ derived_types s kind
all_names s kind i names past e = e ∙ ap (λ ds. flat_map (name_if_derived s kind) ds) (take_all i s.types past) ∙ kept s kind s.types
