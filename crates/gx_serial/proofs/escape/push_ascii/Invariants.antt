use Rattle.std.proofs.Common.{◌≡◌, ◌++◌, take}
use Rattle.gx_serial.proofs.escape.push_ascii.Given as goal

abbrev pub invariant-loop-byte : goal.invariant-loop-byte
invariant-loop-byte l = l.out ≡ l.fn.out ++ take l.byte-index l.text
