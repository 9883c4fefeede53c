-- Chains of bases.
use Rattle.std.proofs.Common.{◌≡◌, ℕ, zero, suc, length, false, List, [], ◌∷◌, Option, Some, None, refl, sym, ◌∙◌, ap, subst, ◌++◌, append_assoc, append-nil}
use Rattle.std.specs.List.{cons_option, filter_map}
use Rattle.std.specs.Option.{option_map}
use Rattle.gx_base.specs.declared.type_name.Builtin.{Builtin}
use Rattle.gx_base.specs.declared.type_name.TypeName.{TypeName}
use Rattle.gx_base.specs.declared.type_name.TypeName.TheVariants as names
use Rattle.gx_facets.specs.declared.restriction.Facets.{Facets}
use Rattle.gx_types.specs.SimpleType.{own_facets}
use Rattle.gx_types.specs.declared.declaration.Declared.{Declared}
use Rattle.gx_types.specs.SchemaSet.{SchemaSet, declaration_among}
use Rattle.gx_types.specs.SameItemType.{same_type_name}
use Rattle.gx_types.specs.SchemaInvariant.{IsSchemaSet}
use Rattle.gx_types.specs.Derivation.{bases_among, bases_of, declared_base_of, base_of}
use Rattle.gx_types.specs.Grounded.{EndsWithin}
use Rattle.gx_types.specs.BaseChain.{own_declaration, with_bases, chain_within, base_chain, end_of_chain, BasesEnd}
use Rattle.gx_types.proofs.SchemaLemmas.{base_is, base_of_declaration, as_many_bases}

-- a type without a base has no declaration
undeclared : (types : List Declared) (t : TypeName) → declared_base_of (bases_among types) t ≡ None → declaration_among types t ≡ None
undeclared types t e =
    elim (declaration_among types t) as (λ (d : Option Declared). option_map (λ (x : Declared). x.base) d ≡ None → d ≡ None) [
      | None ↦ λ _. refl
      | Some d ↦ λ f. absurd (cc)
    ] (sym (base_of_declaration types t) ∙ e)

more_bases : (types : List Declared) (n : ℕ) (found : Option Declared)
    → ((t : TypeName) → EndsWithin (bases_among types) n t → chain_within types (suc n) t ≡ chain_within types n t)
    → ((d : Declared) → found ≡ Some d → EndsWithin (bases_among types) n d.base)
    → with_bases found (chain_within types (suc n)) ≡ with_bases found (chain_within types n)
more_bases types n None more h = refl
more_bases types n (Some d) more h = ap (λ others. d ∷ others) (more d.base (h d refl))

-- where the chain ends, more steps add nothing
more_steps : (types : List Declared) (n : ℕ) (t : TypeName) → EndsWithin (bases_among types) n t → chain_within types (suc n) t ≡ chain_within types n t
more_steps types zero (names.Builtin b) h = refl
more_steps types (suc n) (names.Builtin b) h = refl
more_steps types zero (names.Named m) h = ap (λ d. with_bases d (chain_within types zero)) (undeclared types (names.Named m) h)
more_steps types zero (names.Anonymous m) h = ap (λ d. with_bases d (chain_within types zero)) (undeclared types (names.Anonymous m) h)
more_steps types (suc n) (names.Named m) h =
    more_bases types n (declaration_among types (names.Named m)) (λ t k. more_steps types n t k) (λ d e. h d.base (base_is types (names.Named m) d e))
more_steps types (suc n) (names.Anonymous m) h =
    more_bases types n (declaration_among types (names.Anonymous m)) (λ t k. more_steps types n t k) (λ d e. h d.base (base_is types (names.Anonymous m) d e))

-- the chain of a declared type is its declaration, and then the chain of its base
pub chain_unfolds : (types : List Declared) (t : TypeName) → BasesEnd types → base_chain types t ≡ with_bases (own_declaration types t) (base_chain types)
chain_unfolds types t ends = sym (more_steps types (length types) t (ends t))

pub chain_goes_on : (types : List Declared) (t : TypeName) (found : Declared) → BasesEnd types → own_declaration types t ≡ Some found → base_chain types t ≡ found ∷ base_chain types found.base
chain_goes_on types t found ends e = chain_unfolds types t ends ∙ ap (λ d. with_bases d (base_chain types)) e

pub chain_is_over : (types : List Declared) (t : TypeName) → BasesEnd types → own_declaration types t ≡ None → base_chain types t ≡ []
chain_is_over types t ends e = chain_unfolds types t ends ∙ ap (λ d. with_bases d (base_chain types)) e

-- in schemas the bases of all types end
pub all_end : (schemas : SchemaSet) → IsSchemaSet schemas → BasesEnd schemas.types
all_end schemas is t = subst (λ (n : ℕ). EndsWithin (bases_of schemas) n t) (as_many_bases schemas.types) (is.grounded.ends t)

-- what goes over from the base of a declared type to the type goes over from the built-in type at which a chain ends
module _ (types : List Declared) (P : TypeName → Type 0)
    (over : (t base : TypeName) → ((b : Builtin) → same_type_name t (names.Builtin b) ≡ false) → base_of (bases_among types) t ≡ Some base → P base → P t) where
  along_bases : (t : TypeName) (found : Option Declared) (bases_of_type : TypeName → List Declared) (b : Builtin)
      → ((base : TypeName) → end_of_chain (bases_of_type base) base ≡ names.Builtin b → P base)
      → ((d : Declared) → found ≡ Some d → P d.base → P t)
      → end_of_chain (with_bases found bases_of_type) t ≡ names.Builtin b → P (names.Builtin b) → P t
  along_bases t None bases_of_type b further step e p = subst P (sym e) p
  along_bases t (Some d) bases_of_type b further step e p = step d refl (further d.base e)

  pub along_chain : (n : ℕ) (t : TypeName) (b : Builtin) → end_of_chain (chain_within types n t) t ≡ names.Builtin b → P (names.Builtin b) → P t
  along_chain zero t b e p = subst P (sym e) p
  along_chain (suc n) (names.Builtin c) b e p = subst P (sym e) p
  along_chain (suc n) (names.Named m) b e p =
      along_bases (names.Named m) (declaration_among types (names.Named m)) (chain_within types n) b (λ base f. along_chain n base b f p)
      (λ d f q. over (names.Named m) d.base (λ _. refl) (base_is types (names.Named m) d f) q) e p
  along_chain (suc n) (names.Anonymous m) b e p =
      along_bases (names.Anonymous m) (declaration_among types (names.Anonymous m)) (chain_within types n) b (λ base f. along_chain n base b f p)
      (λ d f q. over (names.Anonymous m) d.base (λ _. refl) (base_is types (names.Anonymous m) d f) q) e p

-- ---- facets along a chain

joined : (done : List Facets) (own : Option Facets) (others : List Facets) → (done ++ cons_option own []) ++ others ≡ done ++ cons_option own others
joined done None others = ap (λ (fs : List Facets). fs ++ others) (append-nil done)
joined done (Some facets) others = append_assoc done (facets ∷ []) others

pub facets_go_on : (done all : List Facets) (declared : Declared) (chain : List Declared) → all ≡ done ++ filter_map own_facets (declared.content ∷ [])
    → all ++ filter_map (λ (d : Declared). own_facets d.content) chain ≡ done ++ filter_map (λ (d : Declared). own_facets d.content) (declared ∷ chain)
facets_go_on done all declared chain e =
    ap (λ (fs : List Facets). fs ++ filter_map (λ (d : Declared). own_facets d.content) chain) e
    ∙ joined done (own_facets declared.content) (filter_map (λ (d : Declared). own_facets d.content) chain)
