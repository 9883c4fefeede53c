use Rattle.std.proofs.Common.{◌≤◌, string_bytes}
use Rattle.std.specs.Str.{chars}
use Rattle.gx_grammar.specs.Ran.{left_of}
use Rattle.gx_xml.specs.Characters.{spelled}
use Rattle.gx_xml.specs.Standings.{ReadSoFar}
use Rattle.gx_xml.proofs.value.value.Given as goal

abbrev pub invariant-loop-so_far : goal.invariant-loop-so_far
invariant-loop-so_far l = record {
  read : ReadSoFar (spelled l.fn.name.prefix) (spelled l.fn.name.local) l.quote (chars (string_bytes l.so_far)) l.fn.reader l.reader;
  shrinks : left_of l.reader ≤ left_of l.fn.reader;
}

abbrev pub decreases-loop-so_far : goal.decreases-loop-so_far
decreases-loop-so_far l = left_of l.reader
