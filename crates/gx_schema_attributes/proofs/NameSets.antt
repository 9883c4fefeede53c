-- The names that a set has once others are inserted.
use Rattle.std.proofs.Common.{◌≡◌, Bool, true, false, ◌||◌, List, [], ◌∷◌, ◌++◌, inl, inr, refl, sym, ◌∙◌, ap, if◌then◌else◌}
use Rattle.std.proofs.lemmas.Bool.{cases_Bool}
use Rattle.std.proofs.lemmas.List.Folds.{list_any-append}
use Rattle.std.proofs.lemmas.Map.Steps.{list_any_congr}
use Rattle.indexmap.specs.IndexSet.{insert_all, insert_key}
use Rattle.gx_base.specs.Name.{same_name}
use Rattle.gx_base.specs.declared.name.Name.{Name}
use Rattle.gx_types.proofs.EqualNames.{names_are_equivalent}
use Rattle.gx_schema_attributes.specs.GivenUses.{is_name_among}

or_false : (b : Bool) → (b || false) ≡ b
or_false true = refl
or_false false = refl

or_assoc : (a b c : Bool) → ((a || b) || c) ≡ (a || (b || c))
or_assoc true b c = refl
or_assoc false b c = refl

among_inserted : (keys : List Name) (key name : Name) → is_name_among (insert_key same_name keys key) name ≡ (is_name_among keys name || same_name name key)
among_inserted keys key name = elim (cases_Bool (is_name_among keys key)) [
  | inr is_new ↦ ap (λ (b : Bool). is_name_among (if b then keys else keys ++ key ∷ []) name) is_new ∙ list_any-append (same_name name) keys (key ∷ [])
      ∙ ap (λ (b : Bool). is_name_among keys name || b) (or_false (same_name name key))
  | inl is_there ↦ ap (λ (b : Bool). is_name_among (if b then keys else keys ++ key ∷ []) name) is_there ∙ elim (cases_Bool (same_name name key)) [
    | inl same ↦
        let found : is_name_among keys name ≡ true = list_any_congr names_are_equivalent name key keys same ∙ is_there in
        found ∙ sym (ap (λ (b : Bool). b || same_name name key) found)
    | inr different ↦ sym (ap (λ (b : Bool). is_name_among keys name || b) different ∙ or_false (is_name_among keys name))
  ]
]

pub among_all_inserted : (keys more : List Name) (name : Name) → is_name_among (insert_all same_name keys more) name ≡ (is_name_among keys name || is_name_among more name)
among_all_inserted keys [] name = sym (or_false (is_name_among keys name))
among_all_inserted keys (key ∷ more) name =
    among_all_inserted (insert_key same_name keys key) more name
    ∙ ap (λ (b : Bool). b || is_name_among more name) (among_inserted keys key name) ∙ or_assoc (is_name_among keys name) (same_name name key) (is_name_among more name)

-- the names of two lists
pub among_both_inserted : (first second : List Name) (name : Name) → is_name_among (insert_all same_name (insert_all same_name [] first) second) name ≡ is_name_among (first ++ second) name
among_both_inserted first second name =
    among_all_inserted (insert_all same_name [] first) second name
    ∙ ap (λ (b : Bool). b || is_name_among second name) (among_all_inserted [] first name) ∙ sym (list_any-append (same_name name) first second)
