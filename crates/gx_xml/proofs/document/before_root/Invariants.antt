use Rattle.gx_grammar.specs.Grammar.{rule}
use Rattle.gx_grammar.specs.Ran.{left_of}
use Rattle.gx_xml.specs.Grammar.{prolog}
use Rattle.gx_xml.specs.Standings.{LedTo}
use Rattle.gx_xml.proofs.document.before_root.Given as goal

abbrev pub invariant-loop-mark : goal.invariant-loop-mark
invariant-loop-mark l = LedTo (rule prolog) (rule prolog) l.fn.reader l.reader

abbrev pub decreases-loop-mark : goal.decreases-loop-mark
decreases-loop-mark l = left_of l.reader
