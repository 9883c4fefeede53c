use Rattle.std.proofs.lemmas.Result.{err_from_is_err_and}
use Rattle.gx_typetext.proofs.Builds.{unknown_at}
use Rattle.gx_typetext.proofs.building.type_of_pieces.Goals as goal

pub returns-in_err-add : goal.returns-in_err-add
returns-in_err-add c =
    let p = err_from_is_err_and c.from_residual.result c.from_residual.ensures.1 in
    rw (p.1, p.2)
    (unknown_at c.args.schemas.now c.in_err-add.field-0.0 c.args.pieces.now c.loop-piece.piece-index c.piece-item.result c.loop-piece-test.true c.piece-item.is c.loop-piece.invariant.left c.in_err-add.ensures)
