-- Types and groups that were placed in steps, and by tables that say what the documents say.
use Rattle.std.proofs.Common.{◌≡◌, ◌∙◌, ℕ, List, [], ◌++◌, ap, subst}
use Rattle.gx_schema_syntax.specs.DocumentTree.{DocumentTree}
use Rattle.gx_schema_components.specs.declared.component.ModelGroup.{ModelGroup}
use Rattle.gx_schema_components.specs.declared.component.TypeComponent.{TypeComponent}
use Rattle.gx_schema_components.specs.Components.{AreTypesAndGroups, definitions_by, types_by}
use Rattle.gx_schema_components.specs.DeclaredNames.{declarations_in, types_in}
use Rattle.gx_schema_components.specs.GroupNumbers.{definitions_placed}
use Rattle.gx_schema_components.specs.Referred.{Globals}
use Rattle.gx_schema_components.specs.TypeComponents.{types_placed}

-- the types behind the groups of definitions
pub types_and_groups_placed : (x : Globals) (first : ℕ) (documents : List DocumentTree) (none inner inner_of_all definitions all : List ModelGroup) (types : List TypeComponent)
    → none ≡ []
    → inner ≡ (definitions_placed x first none (declarations_in documents)).groups
    → definitions ≡ (definitions_placed x first none (declarations_in documents)).placed
    → inner_of_all ≡ (types_placed x first inner (types_in documents)).groups
    → types ≡ (types_placed x first inner (types_in documents)).placed
    → all ≡ definitions ++ inner_of_all
    → AreTypesAndGroups x first documents types all
types_and_groups_placed x first documents none inner inner_of_all definitions all types empty inner_is definitions_is behind types_is all_is =
    let same : inner ≡ (definitions_by x first documents).groups = inner_is ∙ ap (λ (gs : List ModelGroup). (definitions_placed x first gs (declarations_in documents)).groups) empty in
    let of_definitions : definitions ≡ (definitions_by x first documents).placed = definitions_is ∙ ap (λ (gs : List ModelGroup). (definitions_placed x first gs (declarations_in documents)).placed) empty in
    let of_types : inner_of_all ≡ (types_by x first documents).groups = behind ∙ ap (λ (gs : List ModelGroup). (types_placed x first gs (types_in documents)).groups) same in
    record {
      types_placed = types_is ∙ ap (λ (gs : List ModelGroup). (types_placed x first gs (types_in documents)).placed) same;
      groups_placed = all_is ∙ (ap (λ (gs : List ModelGroup). gs ++ inner_of_all) of_definitions ∙ ap (λ (gs : List ModelGroup). (definitions_by x first documents).placed ++ gs) of_types);
    }

-- the same tables and the same first number give the same types and groups
pub same_types_and_groups : (x y : Globals) (m n : ℕ) (documents : List DocumentTree) (types : List TypeComponent) (groups : List ModelGroup)
    → x ≡ y → m ≡ n → AreTypesAndGroups x m documents types groups → AreTypesAndGroups y n documents types groups
same_types_and_groups x y m n documents types groups tables first placed =
    subst (λ (k : ℕ). AreTypesAndGroups y k documents types groups) first (subst (λ (z : Globals). AreTypesAndGroups z m documents types groups) tables placed)
