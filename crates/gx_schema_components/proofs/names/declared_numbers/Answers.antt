use Rattle.gx_schema_components.specs.declared.names.DeclaredNumbers.{DeclaredNumbers}
use Rattle.gx_schema_components.proofs.Numberings.{numbering_by_tables}
use Rattle.gx_schema_components.proofs.names.declared_numbers.Goals as goal

pub returns : goal.returns
returns c =
    let made : DeclaredNumbers =
    record {
      types = c.in_ok-types.types;
      elements = c.in_ok-elements.elements;
      attributes = c.in_ok-attributes.attributes;
      groups = c.in_ok-groups.groups;
      attribute_groups = c.in_ok-attribute_groups.attribute_groups;
    } in
    record {
      same = numbering_by_tables c.args.documents.now c.args.type_names.now made c.requires c.in_ok-types.ensures c.in_ok-elements.ensures c.in_ok-attributes.ensures c.in_ok-groups.ensures c.in_ok-attribute_groups.ensures;
    }
