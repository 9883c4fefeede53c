use Rattle.std.proofs.Common.{◌≡◌, take, drop, fold}
use Rattle.gx_typetext.specs.Building.{built_with, nothing_built}
use Rattle.gx_typetext.specs.KnownNames.{first_unknown}
use Rattle.gx_typetext.proofs.building.type_of_pieces.Given as goal

abbrev pub invariant-loop-piece : goal.invariant-loop-piece
invariant-loop-piece l = record {
  built : l.parts ≡ fold (built_with l.schemas) nothing_built (take l.piece-index l.pieces);
  left : first_unknown l.schemas l.pieces ≡ first_unknown l.schemas (drop l.piece-index l.pieces);
}
