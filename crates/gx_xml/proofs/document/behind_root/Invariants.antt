use Rattle.gx_grammar.specs.Grammar.{rule}
use Rattle.gx_grammar.specs.Ran.{left_of}
use Rattle.gx_xml.specs.Grammar.{epilog}
use Rattle.gx_xml.specs.Standings.{LedTo}
use Rattle.gx_xml.proofs.document.behind_root.Given as goal

abbrev pub invariant-loop-mark : goal.invariant-loop-mark
invariant-loop-mark l = LedTo (rule epilog) (rule epilog) l.fn.reader l.reader

abbrev pub decreases-loop-mark : goal.decreases-loop-mark
decreases-loop-mark l = left_of l.reader
