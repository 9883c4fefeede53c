-- Equal types are derived from the same types, and equal names fit the same names.
use Rattle.std.proofs.Common.{◌≡◌, true, ℕ, zero, suc, ◌+◌, ◌||◌, Option, None, Some, length, refl, sym, ◌∙◌, ap, rules}
use Rattle.std.specs.Cmp.Rules.{comparing}
use Rattle.gx_base.specs.Name.{same_name}
use Rattle.gx_base.specs.declared.name.Name.{Name}
use Rattle.gx_base.specs.declared.type_name.TypeName.{TypeName}
use Rattle.gx_types.specs.SameItemType.{same_type_name}
use Rattle.gx_types.specs.SchemaSet.{SchemaSet}
use Rattle.gx_types.specs.TypeIndex.{equal_kinds}
use Rattle.gx_types.specs.Derivation.{bases_of, Bases, base_of, of_base, leads_within, is_derived}
use Rattle.gx_types.specs.ItemTakes.{name_fits}
use Rattle.gx_types.proofs.EqualNames.{names_are_equivalent, type_names_are_equivalent}
use Rattle.gx_types.proofs.DerivationOrder.{bases_agree}
use Rattle.gx_include_positions.specs.Names.{may_fit}

pub derived_alike : (bases : Bases) (steps : ℕ) (t u kind : TypeName) → same_type_name t u ≡ true → leads_within bases steps u kind ≡ leads_within bases steps t kind
derived_alike bases zero t u kind e = sym (type_names_are_equivalent.congr t u kind e)
derived_alike bases (suc n) t u kind e =
    ap (λ b. b || of_base (base_of bases u) (λ base. leads_within bases n base kind)) (sym (type_names_are_equivalent.congr t u kind e))
    ∙ ap (λ o. same_type_name t kind || of_base o (λ base. leads_within bases n base kind)) (sym (bases_agree bases t u e))

pub equal_kinds_are : (t u : TypeName) → equal_kinds t u ≡ same_type_name t u
equal_kinds_are t u = search (comparing, rules)

pub fits_alike : (asked : Option Name) (n m : Name) → same_name n m ≡ true → may_fit asked (Some n) ≡ may_fit asked (Some m)
fits_alike None n m e = refl
fits_alike (Some asked) n m e = names_are_equivalent.symm asked n ∙ names_are_equivalent.congr n m asked e ∙ names_are_equivalent.symm m asked

pub derived_equally : (s : SchemaSet) (t u kind : TypeName) → equal_kinds t u ≡ true → is_derived s t kind ≡ is_derived s u kind
derived_equally s t u kind e = sym (derived_alike (bases_of s) (length (bases_of s) + 23) t u kind (sym (equal_kinds_are t u) ∙ e))

pub fits_given : (wanted : Option Name) (name : Name) → name_fits wanted name ≡ may_fit wanted (Some name)
fits_given None name = refl
fits_given (Some wanted) name = refl
