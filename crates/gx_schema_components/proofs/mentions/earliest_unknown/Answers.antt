use Rattle.std.proofs.Common.{ap}
use Rattle.std.specs.List.{flat_map}
use Rattle.gx_schema_syntax.specs.DocumentTree.{DocumentTree}
use Rattle.gx_schema_components.specs.Mentions.{global_mentions, type_declaration_mentions}
use Rattle.gx_schema_components.specs.NamesView.{number_in_tables}
use Rattle.gx_schema_components.proofs.Earliest.{earliest_unknown-append}
use Rattle.gx_schema_components.proofs.mentions.earliest_unknown.Goals as goal

pub returns : goal.returns
returns c =
    let numbers = number_in_tables c.args.numbers.now in
    let whole = earliest_unknown-append numbers (flat_map type_declaration_mentions c.args.document.now.types) (flat_map global_mentions c.args.document.now.declarations) in
    cc (
      whole,
      c.in_ok-note_types.ensures,
      c.in_ok-note_globals.ensures,
      c.deref.ensures.value,
      c.deref-2.ensures.value,
      ap (λ (d : DocumentTree). d.types) c.document.view_is,
      ap (λ (d : DocumentTree). d.declarations) c.document.view_is,
    )
