use Rattle.std.proofs.Common.{◌+◌, arith}
use Rattle.std.proofs.lemmas.Grind.{common_steps}
use Rattle.gx_io.proofs.KnownLemmas.{Consumes-more}
use Rattle.gx_io.proofs.file_library.read_within.Goals as goal

-- what was read, where there is no memory for it
pub returns-in_err-extend_from_slice-in-Ok-clause-most :
    goal.returns-in_err-extend_from_slice-in-Ok-clause-most
returns-in_err-extend_from_slice-in-Ok-clause-most g c =
    Consumes-more _ _ _ c.loop-block.bytes.items c.read.new.buf c.in-Ok.count (c.args.limit + 1)
    c.loop-block.invariant.taken c.in-Ok.ensures.bytes.0 (grind (arith, common_steps))
