use Rattle.std.proofs.Common.{◌≡◌, ◌≤◌, ◌*◌, ◌+◌}
use Rattle.gx_grammar.specs.Ran.{left_of}
use Rattle.gx_xml.specs.Gathered.{ReadContent}
use Rattle.gx_xml.proofs.element.+element.Given as goal

abbrev pub decreases-element : goal.decreases-element
decreases-element l = l.room * 5 + 2

abbrev pub decreases-declared : goal.decreases-declared
decreases-declared l = l.room * 5 + 1

abbrev pub decreases-children : goal.decreases-children
decreases-children l = l.room * 5

abbrev pub decreases-content : goal.decreases-content
decreases-content l = l.room * 5 + 4

abbrev pub decreases-item : goal.decreases-item
decreases-item l = l.room * 5 + 3

abbrev pub invariant-content-loop-children : goal.invariant-content-loop-children
invariant-content-loop-children l = record {
  read : ReadContent l.room l.fn.bindings l.children l.fn.reader l.reader;
  kept : l.bindings ≡ l.fn.bindings;
  shrinks : left_of l.reader ≤ left_of l.fn.reader;
}

abbrev pub decreases-content-loop-children : goal.decreases-content-loop-children
decreases-content-loop-children l = left_of l.reader
