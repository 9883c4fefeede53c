-- What the types of all attributes pass, those of the attributes of a type pass.
use Rattle.std.proofs.Common.{◌≡◌, ℕ, zero, suc, Bool, true, false, ◌&&◌, List, [], ◌∷◌, ◌++◌, map, Option, None, Some, slice_get, inl, inr, refl, sym, ◌∙◌, ap, subst, if◌then◌else◌}
use Rattle.std.specs.Prelude.{filter, fold}
use Rattle.std.specs.List.{flat_map, list_all}
use Rattle.std.proofs.lemmas.Bool.{cases_Bool, true≢false}
use Rattle.std.proofs.lemmas.List.Folds.{list_all-append}
use Rattle.gx_base.specs.declared.type_name.TypeName.{TypeName}
use Rattle.gx_types.specs.declared.declaration.AttributeUse.{AttributeUse}
use Rattle.gx_references.specs.References.{meaning_in, meaning_within}
use Rattle.gx_schema_components.specs.declared.component.AttributeGroup.{AttributeGroup}
use Rattle.gx_schema_components.specs.declared.component.AttributePart.{AttributePart}
use Rattle.gx_schema_components.specs.declared.component.AttributePart.TheVariants.{Use, Prohibited, Group}
use Rattle.gx_schema_components.specs.declared.component.TypeComponent.{TypeComponent}
use Rattle.gx_schema_components.specs.declared.component.TypeForm.{TypeForm}
use Rattle.gx_schema_components.specs.declared.component.TypeForm.TheVariants.{Simple, Complex}
use Rattle.gx_schema_attributes.specs.declared.given.GivenUses.{GivenUses}
use Rattle.gx_schema_attributes.specs.declared.own.Inherited.{Inherited}
use Rattle.gx_schema_attributes.specs.declared.own.Inherited.TheVariants.{Nothing, All, Staying}
use Rattle.gx_schema_attributes.specs.declared.own.OwnUses.{OwnUses}
use Rattle.gx_schema_attributes.specs.AllEnd.{every_number_ends}
use Rattle.gx_schema_attributes.specs.AttributeKinds.{kinds_in_form, kinds_in_group, kinds_in_parts, kinds_in_type, kind_in_part}
use Rattle.gx_schema_attributes.specs.GivenUses.{is_name_among, names_of_uses, nothing_given, with_doubled, with_attribute_part, with_use}
use Rattle.gx_schema_attributes.specs.GroupUses.{given_by_group, group_given, group_parts, groups_named}
use Rattle.gx_schema_attributes.specs.OwnUses.{base_named, base_uses, inherited_of, own_of_form, own_of_type, stays}
use Rattle.gx_schema_attributes.specs.TypeUses.{given_before, own_of_types, uses_over}
use Rattle.gx_schema_attributes.specs.Laws.{KindsAreWritten}

abbrev kind_passes : (TypeName → Bool) → AttributeUse → Bool
kind_passes test attribute = test attribute.kind

abbrev all_pass : (TypeName → Bool) → List AttributeUse → Type 0
all_pass test uses = list_all (kind_passes test) uses ≡ true

both_parts : (a b : Bool) → (a && b) ≡ true → (a ≡ true) × (b ≡ true)
both_parts true b e = (refl, e)
both_parts false b e = absurd (true≢false (sym e))

both_from : (a b : Bool) → a ≡ true → b ≡ true → (a && b) ≡ true
both_from a b e f = ap (λ (c : Bool). c && b) e ∙ f

first_passes : {A : Type 0} (p : A → Bool) (xs ys : List A) → list_all p (xs ++ ys) ≡ true → list_all p xs ≡ true
first_passes p xs ys e = (both_parts (list_all p xs) (list_all p ys) (sym (list_all-append p xs ys) ∙ e)).0

rest_passes : {A : Type 0} (p : A → Bool) (xs ys : List A) → list_all p (xs ++ ys) ≡ true → list_all p ys ≡ true
rest_passes p xs ys e = (both_parts (list_all p xs) (list_all p ys) (sym (list_all-append p xs ys) ∙ e)).1

-- ---- what is given

use_passes : (test : TypeName → Bool) (given : GivenUses) (attribute : AttributeUse) → all_pass test given.uses → test attribute.kind ≡ true → all_pass test (with_use given attribute).uses
use_passes test given attribute before here =
    let more : GivenUses = record { uses = given.uses ++ attribute ∷ []; doubled = given.doubled } in
    elim (cases_Bool (is_name_among (names_of_uses given.uses) attribute.name)) [
      | inl is_so ↦ subst (λ (b : Bool). all_pass test (if b then with_doubled given (Some attribute.name) else more).uses) (sym is_so) before
      | inr is_not ↦ subst (λ (b : Bool). all_pass test (if b then with_doubled given (Some attribute.name) else more).uses) (sym is_not)
          (list_all-append (kind_passes test) given.uses (attribute ∷ []) ∙ both_from _ _ before (both_from _ true here refl))
    ]

uses_pass : (test : TypeName → Bool) (given : GivenUses) (uses : List AttributeUse) → all_pass test given.uses → all_pass test uses → all_pass test (fold with_use given uses).uses
uses_pass test given [] before here = before
uses_pass test given (attribute ∷ uses) before here =
    let (first, others) = both_parts (test attribute.kind) (list_all (kind_passes test) uses) here in
    uses_pass test (with_use given attribute) uses (use_passes test given attribute before first) others

doubled_passes : (test : TypeName → Bool) (given : GivenUses) (doubled : Option _) → all_pass test given.uses → all_pass test (with_doubled given doubled).uses
doubled_passes test given None before = before
doubled_passes test given (Some name) before = before

part_passes : (test : TypeName → Bool) (groups : ℕ → GivenUses) → ((number : ℕ) → all_pass test (groups number).uses) → (given : GivenUses) (part : AttributePart) →
    all_pass test given.uses → list_all test (kind_in_part part) ≡ true → all_pass test (with_attribute_part groups given part).uses
part_passes test groups each given (Use place attribute) before here = use_passes test given attribute before (both_parts (test attribute.kind) true here).0
part_passes test groups each given (Prohibited place name) before here = before
part_passes test groups each given (Group place number) before here =
    doubled_passes test (fold with_use given (groups number).uses) (groups number).doubled (uses_pass test given (groups number).uses before (each number))

parts_pass : (test : TypeName → Bool) (groups : ℕ → GivenUses) → ((number : ℕ) → all_pass test (groups number).uses) → (given : GivenUses) (parts : List AttributePart) →
    all_pass test given.uses → list_all test (kinds_in_parts parts) ≡ true → all_pass test (fold (with_attribute_part groups) given parts).uses
parts_pass test groups each given [] before here = before
parts_pass test groups each given (part ∷ parts) before here =
    parts_pass test groups each (with_attribute_part groups given part) parts
    (part_passes test groups each given part before (first_passes test (kind_in_part part) (kinds_in_parts parts) here))
    (rest_passes test (kind_in_part part) (kinds_in_parts parts) here)

-- ---- attribute groups

group_at : (test : TypeName → Bool) (groups : List AttributeGroup) (number : ℕ) (parts : List AttributePart) → list_all test (flat_map kinds_in_group groups) ≡ true →
    slice_get (group_parts groups) number ≡ Some parts → list_all test (kinds_in_parts parts) ≡ true
group_at test [] number parts all here = absurd (cc)
group_at test (group ∷ groups) zero parts all here =
    let same : group.parts ≡ parts = cc in
    subst (λ (ps : List AttributePart). list_all test (kinds_in_parts ps) ≡ true) same (first_passes test (kinds_in_group group) (flat_map kinds_in_group groups) all)
group_at test (group ∷ groups) (suc number) parts all here = group_at test groups number parts (rest_passes test (kinds_in_group group) (flat_map kinds_in_group groups) all) here

group_passes : (test : TypeName → Bool) (known : ℕ → GivenUses) → ((number : ℕ) → all_pass test (known number).uses) → (found : Option (List AttributePart)) →
    ((parts : List AttributePart) → found ≡ Some parts → list_all test (kinds_in_parts parts) ≡ true) → all_pass test (meaning_in group_given nothing_given found known).uses
group_passes test known each None here = refl
group_passes test known each (Some parts) here = parts_pass test known each nothing_given parts refl (here parts refl)

groups_pass_within : (test : TypeName → Bool) (groups : List AttributeGroup) → list_all test (flat_map kinds_in_group groups) ≡ true → (steps number : ℕ) →
    all_pass test (meaning_within group_given nothing_given (group_parts groups) steps number).uses
groups_pass_within test groups all zero number = refl
groups_pass_within test groups all (suc steps) number =
    group_passes test (meaning_within group_given nothing_given (group_parts groups) steps) (groups_pass_within test groups all steps) (slice_get (group_parts groups) number)
    (λ parts here. group_at test groups number parts all here)

chosen_given : (test : TypeName → Bool) (b : Bool) (given : GivenUses) → all_pass test given.uses → all_pass test (if b then given else nothing_given).uses
chosen_given test true given here = here
chosen_given test false given here = refl

groups_pass : (test : TypeName → Bool) (groups : List AttributeGroup) → list_all test (flat_map kinds_in_group groups) ≡ true → (number : ℕ) → all_pass test (given_by_group groups number).uses
groups_pass test groups all number = chosen_given test (every_number_ends groups_named (group_parts groups)) _ (groups_pass_within test groups all _ number)

-- ---- types

filter_passes : (test : TypeName → Bool) (keeps : AttributeUse → Bool) (uses : List AttributeUse) → all_pass test uses → all_pass test (filter keeps uses)
filter_passes test keeps [] here = refl
filter_passes test keeps (attribute ∷ uses) here =
    let (first, others) = both_parts (test attribute.kind) (list_all (kind_passes test) uses) here in
    let rest = filter_passes test keeps uses others in
    elim (cases_Bool (keeps attribute)) [
      | inl is_so ↦ subst (λ (b : Bool). all_pass test (if b then attribute ∷ filter keeps uses else filter keeps uses)) (sym is_so) (both_from _ _ first rest)
      | inr is_not ↦ subst (λ (b : Bool). all_pass test (if b then attribute ∷ filter keeps uses else filter keeps uses)) (sym is_not) rest
    ]

base_passes : (test : TypeName → Bool) (types : ℕ → List AttributeUse) → ((number : ℕ) → all_pass test (types number)) → (inherited : Inherited) (own : OwnUses) →
    all_pass test (inherited_of inherited (base_uses types inherited) own)
base_passes test types each Nothing own = refl
base_passes test types each (All number) own = each number
base_passes test types each (Staying number) own = filter_passes test (stays own) (types number) (each number)

type_passes : (test : TypeName → Bool) (types : ℕ → List AttributeUse) → ((number : ℕ) → all_pass test (types number)) → (found : Option OwnUses) →
    ((own : OwnUses) → found ≡ Some own → all_pass test own.given) → all_pass test (meaning_in uses_over [] found types)
type_passes test types each None here = refl
type_passes test types each (Some own) here =
    uses_pass test (given_before types own) own.given (uses_pass test nothing_given _ refl (base_passes test types each own.inherited own)) (here own refl)

form_passes : (test : TypeName → Bool) (groups : ℕ → GivenUses) → ((number : ℕ) → all_pass test (groups number).uses) → (form : TypeForm) →
    list_all test (kinds_in_form form) ≡ true → all_pass test (own_of_form groups form).given
form_passes test groups each (Simple simple) here = refl
form_passes test groups each (Complex complex) here = parts_pass test groups each nothing_given complex.attributes refl here

own_at : (test : TypeName → Bool) (groups : ℕ → GivenUses) → ((number : ℕ) → all_pass test (groups number).uses) → (types : List TypeComponent) (number : ℕ) (own : OwnUses) →
    list_all test (flat_map kinds_in_type types) ≡ true → slice_get (map (own_of_type groups) types) number ≡ Some own → all_pass test own.given
own_at test groups each [] number own all here = absurd (cc)
own_at test groups each (component ∷ types) zero own all here =
    let same : own_of_type groups component ≡ own = cc in
    subst (λ (o : OwnUses). all_pass test o.given) same (form_passes test groups each component.form (first_passes test (kinds_in_type component) (flat_map kinds_in_type types) all))
own_at test groups each (component ∷ types) (suc number) own all here = own_at test groups each types number own (rest_passes test (kinds_in_type component) (flat_map kinds_in_type types) all) here

types_pass_within : (test : TypeName → Bool) (groups : ℕ → GivenUses) → ((number : ℕ) → all_pass test (groups number).uses) → (types : List TypeComponent) →
    list_all test (flat_map kinds_in_type types) ≡ true → (steps number : ℕ) → all_pass test (meaning_within uses_over [] (map (own_of_type groups) types) steps number)
types_pass_within test groups each types all zero number = refl
types_pass_within test groups each types all (suc steps) number =
    let own = map (own_of_type groups) types in
    type_passes test (meaning_within uses_over [] own steps) (types_pass_within test groups each types all steps) (slice_get own number)
    (λ o here. own_at test groups each types number o all here)

chosen_uses : (test : TypeName → Bool) (b : Bool) (uses : List AttributeUse) → all_pass test uses → all_pass test (if b then uses else [])
chosen_uses test true uses here = here
chosen_uses test false uses here = refl

pub kinds_are_written : KindsAreWritten
kinds_are_written types groups test number all =
    let of_types = first_passes test (flat_map kinds_in_type types) (flat_map kinds_in_group groups) all in
    let of_groups = rest_passes test (flat_map kinds_in_type types) (flat_map kinds_in_group groups) all in
    let own = own_of_types types groups in
    chosen_uses test (every_number_ends base_named own) _ (types_pass_within test (given_by_group groups) (groups_pass test groups of_groups) types of_types _ number)
