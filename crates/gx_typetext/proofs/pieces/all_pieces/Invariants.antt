use Rattle.gx_typetext.specs.Steps.{production_of}
use Rattle.gx_typetext.specs.Pieces.{Started}
use Rattle.gx_typetext.proofs.pieces.all_pieces.Given as goal

abbrev pub invariant-loop : goal.invariant-loop
invariant-loop l = Started l.pieces.items (production_of l.stage) l.fn.reader l.reader
