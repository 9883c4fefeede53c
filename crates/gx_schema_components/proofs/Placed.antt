-- What is placed one behind another.
use Rattle.std.proofs.Common.{◌≡◌, ℕ, List, [], ◌∷◌, ◌++◌, refl, ap}
use Rattle.gx_schema_syntax.specs.declared.written.GlobalDeclaration.{GlobalDeclaration}
use Rattle.gx_schema_syntax.specs.declared.written.GlobalDeclaration.TheVariants as globals
use Rattle.gx_schema_syntax.specs.declared.written.TypeDeclaration.{TypeDeclaration}
use Rattle.gx_schema_components.specs.declared.component.ModelGroup.{ModelGroup}
use Rattle.gx_schema_components.specs.declared.component.TypeComponent.{TypeComponent}
use Rattle.gx_schema_components.specs.GroupNumbers.{Placed, behind_group, content_placed, definitions_placed, group_of_definition}
use Rattle.gx_schema_components.specs.Referred.{Globals}
use Rattle.gx_schema_components.specs.TypeComponents.{behind_type, form_placed, type_component, types_placed}

-- things placed before others, with the groups behind both
abbrev pub before : {A : Type 0} → Placed (List A) → Placed (List A) → Placed (List A)
before first others = record { groups = others.groups; placed = first.placed ++ others.placed }

definitions_before : (x : Globals) (first : ℕ) (groups : List ModelGroup) (ds es : List GlobalDeclaration)
    → definitions_placed x first groups (ds ++ es) ≡ before (definitions_placed x first groups ds) (definitions_placed x first (definitions_placed x first groups ds).groups es)
definitions_before x first groups [] es = refl
definitions_before x first groups (globals.Group place name particle ∷ ds) es =
    let content = content_placed x first groups particle in
    ap (behind_group (group_of_definition content.placed)) (definitions_before x first content.groups ds es)
definitions_before x first groups (globals.Element place name kind ∷ ds) es = definitions_before x first groups ds es
definitions_before x first groups (globals.Attribute place name kind ∷ ds) es = definitions_before x first groups ds es
definitions_before x first groups (globals.AttributeGroup place name attributes ∷ ds) es = definitions_before x first groups ds es

pub definitions_groups-append : (x : Globals) (first : ℕ) (groups : List ModelGroup) (ds es : List GlobalDeclaration)
    → (definitions_placed x first groups (ds ++ es)).groups ≡ (definitions_placed x first (definitions_placed x first groups ds).groups es).groups
definitions_groups-append x first groups ds es = ap (λ (p : Placed (List ModelGroup)). p.groups) (definitions_before x first groups ds es)

pub definitions_placed-append : (x : Globals) (first : ℕ) (groups : List ModelGroup) (ds es : List GlobalDeclaration)
    → (definitions_placed x first groups (ds ++ es)).placed ≡ (definitions_placed x first groups ds).placed ++ (definitions_placed x first (definitions_placed x first groups ds).groups es).placed
definitions_placed-append x first groups ds es = ap (λ (p : Placed (List ModelGroup)). p.placed) (definitions_before x first groups ds es)

pub definitions_groups-cons : (x : Globals) (first : ℕ) (groups : List ModelGroup) (d : GlobalDeclaration) (ds : List GlobalDeclaration)
    → (definitions_placed x first groups (d ∷ ds)).groups ≡ (definitions_placed x first (definitions_placed x first groups (d ∷ [])).groups ds).groups
definitions_groups-cons x first groups d ds = definitions_groups-append x first groups (d ∷ []) ds

pub definitions_placed-cons : (x : Globals) (first : ℕ) (groups : List ModelGroup) (d : GlobalDeclaration) (ds : List GlobalDeclaration)
    → (definitions_placed x first groups (d ∷ ds)).placed ≡ (definitions_placed x first groups (d ∷ [])).placed ++ (definitions_placed x first (definitions_placed x first groups (d ∷ [])).groups ds).placed
definitions_placed-cons x first groups d ds = definitions_placed-append x first groups (d ∷ []) ds

types_before : (x : Globals) (first : ℕ) (groups : List ModelGroup) (ts us : List TypeDeclaration)
    → types_placed x first groups (ts ++ us) ≡ before (types_placed x first groups ts) (types_placed x first (types_placed x first groups ts).groups us)
types_before x first groups [] us = refl
types_before x first groups (t ∷ ts) us =
    let form = form_placed x first groups t.definition in
    ap (behind_type (type_component t form.placed)) (types_before x first form.groups ts us)

pub types_groups-append : (x : Globals) (first : ℕ) (groups : List ModelGroup) (ts us : List TypeDeclaration)
    → (types_placed x first groups (ts ++ us)).groups ≡ (types_placed x first (types_placed x first groups ts).groups us).groups
types_groups-append x first groups ts us = ap (λ (p : Placed (List TypeComponent)). p.groups) (types_before x first groups ts us)

pub types_placed-append : (x : Globals) (first : ℕ) (groups : List ModelGroup) (ts us : List TypeDeclaration)
    → (types_placed x first groups (ts ++ us)).placed ≡ (types_placed x first groups ts).placed ++ (types_placed x first (types_placed x first groups ts).groups us).placed
types_placed-append x first groups ts us = ap (λ (p : Placed (List TypeComponent)). p.placed) (types_before x first groups ts us)

pub ruleset definition_steps = (definitions_groups-cons, definitions_placed-cons)

pub ruleset document_steps = (definitions_groups-append, definitions_placed-append, types_groups-append, types_placed-append)
