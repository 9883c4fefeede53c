use Rattle.std.proofs.Common.{◌+◌, ◌-◌, ◌≤◌, vec_len}
use Rattle.std.specs.Io.KnownBytes.{Consumes}
use Rattle.gx_io.proofs.file_library.read_within.Given as goal

-- what was taken is what was read, one byte past the limit at most
abbrev pub invariant-loop-block : goal.invariant-loop-block
invariant-loop-block g l = record {
  most : vec_len l.bytes ≤ l.fn.limit + 1;
  taken : Consumes (g.F.Read.remaining l.fn.reader) (g.F.Read.remaining l.reader) l.bytes.items;
}

-- one more than the limit, less what was read
abbrev pub decreases-loop-block : goal.decreases-loop-block
decreases-loop-block g l = l.fn.limit + 1 - vec_len l.bytes
