use Rattle.gx_parse_constructors.proofs.ContentPhrases.{made_of_both}
use Rattle.gx_parse_constructors.proofs.pieces.all_parts.Goals as goal

pub returns : goal.returns
returns c =
    made_of_both c.args.read.parts.items c.content_parts-further.result.items c.with_parts.result.items c.args.read.pieces.items c.args.reader.now c.content_parts-further.new.reader c.with_parts.new.reader c.content_parts-further.ensures c.with_parts.ensures
