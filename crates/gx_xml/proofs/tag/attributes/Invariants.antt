use Rattle.std.proofs.Common.{◌≡◌, ◌≤◌}
use Rattle.gx_grammar.specs.Ran.{left_of}
use Rattle.gx_xml.specs.TagView.{ReadSome}
use Rattle.gx_xml.proofs.tag.attributes.Given as goal

abbrev pub invariant-loop-alloc : goal.invariant-loop-alloc
invariant-loop-alloc l = record {
  read : ReadSome l.fn.tag l.tag l.fn.reader l.reader;
  prefix : l.tag.prefix ≡ l.fn.tag.prefix;
  local : l.tag.local ≡ l.fn.tag.local;
  shrinks : left_of l.reader ≤ left_of l.fn.reader;
}

abbrev pub decreases-loop-alloc : goal.decreases-loop-alloc
decreases-loop-alloc l = left_of l.reader
