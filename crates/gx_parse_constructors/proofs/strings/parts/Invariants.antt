use Rattle.std.proofs.Common.{suc}
use Rattle.gx_grammar.specs.Ran.{left_of}
use Rattle.gx_parse_tokens.specs.Reading.{Added}
use Rattle.gx_parse_constructors.specs.TextReading.{PartsRead}
use Rattle.gx_parse_constructors.proofs.strings.parts.Given as goal

abbrev pub invariant-loop-quote : goal.invariant-loop-quote
invariant-loop-quote l = Added l.fn.text l.text (λ cs. PartsRead l.quote cs (suc (left_of l.fn.reader)) (suc l.left) l.fn.reader l.reader)

abbrev pub decreases-loop-quote : goal.decreases-loop-quote
decreases-loop-quote l = l.left
