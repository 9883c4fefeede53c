-- The attributes that are given have different names.
use Rattle.std.proofs.Common.{◌≡◌, ℕ, zero, suc, Bool, true, false, ◌||◌, List, [], ◌∷◌, ◌++◌, length, Option, None, Some, slice_get, inl, inr, refl, sym, ◌∙◌, ap, subst, if◌then◌else◌}
use Rattle.std.specs.Prelude.{fold}
use Rattle.std.specs.List.{list_any}
use Rattle.std.proofs.lemmas.Bool.{cases_Bool, true≢false}
use Rattle.std.proofs.lemmas.List.{map-append}
use Rattle.std.proofs.lemmas.List.Folds.{list_any-append}
use Rattle.gx_base.specs.Name.{same_name}
use Rattle.gx_base.specs.declared.name.Name.{Name}
use Rattle.gx_types.specs.SchemaInvariant.{AreDistinctBy}
use Rattle.gx_types.specs.declared.declaration.AttributeUse.{AttributeUse}
use Rattle.gx_types.proofs.EqualNames.{names_are_equivalent}
use Rattle.gx_references.specs.References.{meaning_in, meaning_within}
use Rattle.gx_schema_attributes.specs.declared.given.GivenUses.{GivenUses}
use Rattle.gx_schema_attributes.specs.declared.own.OwnUses.{OwnUses}
use Rattle.gx_schema_attributes.specs.AllEnd.{every_number_ends}
use Rattle.gx_schema_attributes.specs.GivenUses.{is_name_among, names_of_uses, nothing_given, with_doubled, with_use}
use Rattle.gx_schema_attributes.specs.OwnUses.{base_named, base_uses, inherited_from}
use Rattle.gx_schema_attributes.specs.TypeUses.{given_before, own_of_types, uses_over}
use Rattle.gx_schema_attributes.specs.Laws.{UsesAreDistinct}

abbrev are_distinct : List AttributeUse → Type 0
are_distinct uses = AreDistinctBy same_name (names_of_uses uses)

first_differs : (a b : Bool) → (a || b) ≡ false → a ≡ false
first_differs true b e = absurd (true≢false e)
first_differs false b e = refl

others_differ : (a b : Bool) → (a || b) ≡ false → b ≡ false
others_differ true b e = absurd (true≢false e)
others_differ false b e = e

push_distinct : (names : List Name) (name : Name) → AreDistinctBy same_name names → is_name_among names name ≡ false → AreDistinctBy same_name (names ++ name ∷ [])
push_distinct [] name distinct e = (refl, tt)
push_distinct (first ∷ names) name distinct e =
    let apart : same_name first name ≡ false = names_are_equivalent.symm first name ∙ first_differs (same_name name first) (is_name_among names name) e in
    let last : list_any (same_name first) (name ∷ []) ≡ false = ap (λ (b : Bool). b || false) apart in (
      list_any-append (same_name first) names (name ∷ []) ∙ ap (λ (b : Bool). b || list_any (same_name first) (name ∷ [])) distinct.0 ∙ last,
      push_distinct names name distinct.1 (others_differ (same_name name first) (is_name_among names name) e),
    )

use_distinct : (given : GivenUses) (attribute : AttributeUse) → are_distinct given.uses → are_distinct (with_use given attribute).uses
use_distinct given attribute distinct =
    let more : GivenUses = record { uses = given.uses ++ attribute ∷ []; doubled = given.doubled } in
    elim (cases_Bool (is_name_among (names_of_uses given.uses) attribute.name)) [
      | inl is_so ↦ subst (λ (b : Bool). are_distinct (if b then with_doubled given (Some attribute.name) else more).uses) (sym is_so) distinct
      | inr is_not ↦ subst (λ (b : Bool). are_distinct (if b then with_doubled given (Some attribute.name) else more).uses) (sym is_not)
          (subst (AreDistinctBy same_name) (sym (map-append (λ (a : AttributeUse). a.name) given.uses (attribute ∷ []))) (push_distinct (names_of_uses given.uses) attribute.name distinct is_not))
    ]

all_distinct : (given : GivenUses) (uses : List AttributeUse) → are_distinct given.uses → are_distinct (fold with_use given uses).uses
all_distinct given [] distinct = distinct
all_distinct given (attribute ∷ uses) distinct = all_distinct (with_use given attribute) uses (use_distinct given attribute distinct)

type_distinct : (types : ℕ → List AttributeUse) (own : OwnUses) → are_distinct (uses_over types own)
type_distinct types own = all_distinct (given_before types own) own.given (all_distinct nothing_given (inherited_from (base_uses types own.inherited) own) tt)

meaning_distinct : (own : Option OwnUses) (types : ℕ → List AttributeUse) → are_distinct (meaning_in uses_over [] own types)
meaning_distinct None types = tt
meaning_distinct (Some own) types = type_distinct types own

within_distinct : (own : List OwnUses) (steps number : ℕ) → are_distinct (meaning_within uses_over [] own steps number)
within_distinct own zero number = tt
within_distinct own (suc steps) number = meaning_distinct (slice_get own number) (meaning_within uses_over [] own steps)

chosen_distinct : (b : Bool) (uses : List AttributeUse) → are_distinct uses → are_distinct (if b then uses else [])
chosen_distinct true uses distinct = distinct
chosen_distinct false uses distinct = tt

pub uses_are_distinct : UsesAreDistinct
uses_are_distinct types groups number =
    let own = own_of_types types groups in
    chosen_distinct (every_number_ends base_named own) (meaning_within uses_over [] own (length own) number) (within_distinct own (length own) number)
