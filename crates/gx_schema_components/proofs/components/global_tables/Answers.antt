use Rattle.std.proofs.Common.{◌∙◌}
use Rattle.gx_schema_components.specs.NamesView.{number_in_tables}
use Rattle.gx_schema_components.proofs.GlobalsBy.{attributes_by, elements_by, globals_by_parts}
use Rattle.gx_schema_components.proofs.Numberings.{same_numbering}
use Rattle.gx_schema_components.proofs.components.global_tables.Goals as goal

pub returns : goal.returns
returns c =
    let documents = c.args.documents.now in
    let numbers = c.in_ok-numbers.numbers in
    globals_by_parts documents (number_in_tables numbers) c.in_ok-types.types.items c.in_ok-elements.elements.items c.in_ok-attributes.attributes.items
    (same_numbering documents numbers c.in_ok-numbers.ensures) c.in_ok-types.ensures
    (c.in_ok-elements.ensures ∙ elements_by documents numbers c.deref-2.result.now c.in_ok-numbers.ensures (c.deref-2.ensures.value ∙ c.in_ok-types.ensures))
    (c.in_ok-attributes.ensures ∙ attributes_by documents numbers c.deref-3.result.now c.in_ok-numbers.ensures (c.deref-3.ensures.value ∙ c.in_ok-types.ensures))
