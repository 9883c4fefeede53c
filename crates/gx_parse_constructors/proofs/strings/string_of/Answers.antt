use Rattle.std.proofs.Common.{ap, ◌∙◌}
use Rattle.gx_parse_grammar.specs.Grammar.{place_in}
use Rattle.gx_parse_constructors.proofs.StringsPhrases.{string_read}
use Rattle.gx_parse_constructors.proofs.strings.string_of.Goals as goal

pub returns : goal.returns
returns c = λ n.
    string_read c.args.source.now n c.args.quote c.place-place.result c.quoted-text.result c.keep.result c.string-made.result c.args.reader.now c.quoted-text.new.reader c.gap.new.self c.keep.new.reader
    (c.place-place.ensures ∙ ap (place_in c.args.source.now) c.left.ensures) c.quoted-text.ensures c.gap.ensures c.string-made.ensures c.keep.ensures
