use Rattle.std.proofs.lemmas.Str.{length-le-encodes}
use Rattle.std.proofs.Common.{arith, subst}
use Rattle.gx_typetext.specs.KnownNames.{first_unknown}
use Rattle.gx_typetext.specs.TypeReading.{ReadAs}
use Rattle.gx_typetext.specs.Building.{type_of_pieces}
use Rattle.gx_typetext.proofs.TypesRead.{type_read}
use Rattle.gx_typetext.proofs.read.read_type.Goals as goal

pub returns-in-Ok : goal.returns-in-Ok
returns-in-Ok c =
    let s = c.args.schemas.now in
    type_read s c.args.text.now c.in-Ok.pieces.items c.type_of_pieces.result c.in-Ok.ensures
    (subst (λ ps. ReadAs c.type_of_pieces.result (first_unknown s ps) (type_of_pieces s ps)) c.as_slice.ensures.value c.type_of_pieces.ensures)

pub read_written-requires : goal.read_written-requires
read_written-requires c = omega (arith, c.requires, length-le-encodes c.args.text.now)
