use Rattle.std.proofs.Common.{◌≡◌, ◌∙◌, List, length, ap, arith}
use Rattle.gx_schema_components.specs.declared.component.GroupDefinition.{GroupDefinition}
use Rattle.gx_schema_components.specs.AttributeLists.{attribute_groups_of}
use Rattle.gx_schema_components.specs.Components.{first_inner}
use Rattle.gx_schema_components.specs.DeclaredNames.{declarations_in}
use Rattle.gx_schema_components.specs.Referred.{Globals}
use Rattle.gx_schema_components.proofs.TypesAndGroups.{same_types_and_groups}
use Rattle.gx_schema_components.proofs.components.components.Goals as goal

pub returns : goal.returns
returns c =
    let documents = c.args.documents.now in
    let same = c.in_ok-globals.ensures in
    let definitions : c.len.result ≡ first_inner documents = omega (arith, c.in_ok-groups.groups.ok.0, ap (λ (gs : List GroupDefinition). length gs) c.in_ok-groups.ensures) in
    record {
      types_and_groups = same_types_and_groups _ _ _ _ documents _ _ same definitions c.in_ok-types.ensures;
      elements = ap (λ (x : Globals). x.elements) same;
      attributes = ap (λ (x : Globals). x.attributes) same;
      groups = c.in_ok-groups.ensures;
      attribute_groups = c.in_ok-attribute_groups.ensures ∙ ap (λ (x : Globals). attribute_groups_of x (declarations_in documents)) same;
    }
