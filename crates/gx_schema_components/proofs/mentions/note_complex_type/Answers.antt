use Rattle.std.proofs.Common.{◌++◌}
use Rattle.gx_schema_components.specs.Mentions.{base_mentions, content_mentions, members_mentions}
use Rattle.gx_schema_components.specs.NamesView.{number_in_tables}
use Rattle.gx_schema_components.specs.Unknown.{with_unknown}
use Rattle.gx_schema_components.proofs.Earliest.{with_unknown-append}
use Rattle.gx_schema_components.proofs.mentions.note_complex_type.Goals as goal

pub returns : goal.returns
returns c =
    let numbers = number_in_tables c.args.numbers.now in
    let definition = c.args.definition.now in
    rw (
      with_unknown-append numbers c.args.found.now (base_mentions definition.derivation) (content_mentions definition.particle ++ members_mentions definition.attributes),
      with_unknown-append numbers (with_unknown numbers c.args.found.now (base_mentions definition.derivation)) (content_mentions definition.particle) (members_mentions definition.attributes),
      ← c.in_ok-note_base.ensures,
      ← c.in_ok-note_content.ensures,
      ← c.as_slice.ensures,
    )
    c.note_members.ensures
