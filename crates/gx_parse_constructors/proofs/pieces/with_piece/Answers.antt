use Rattle.std.proofs.Common.{sym, ◌∙◌}
use Rattle.gx_parse_constructors.proofs.ContentPhrases.{one_ends, one_waits}
use Rattle.gx_parse_constructors.proofs.pieces.with_piece.Goals as goal

pub returns-then-not-ends_text : goal.returns-then-not-ends_text
returns-then-not-ends_text c = one_waits c.args.read.parts.items c.args.read.pieces.items c.with_item-pieces.result.items c.args.piece c.args.reader.now c.with_item-pieces.new.reader c.with_item-pieces.ensures

pub returns : goal.returns
returns c =
    one_ends c.args.read.parts.items c.all_parts-parts.result.items c.args.read.pieces.items c.with_item-pieces.result.items c.new.result.items c.args.piece c.args.reader.now c.with_item-pieces.new.reader c.all_parts-parts.new.reader (sym c.ends_text-ends_text.ensures ∙ c.if-not-ends_text.false) c.new.ensures.items
    c.with_item-pieces.ensures c.all_parts-parts.ensures
