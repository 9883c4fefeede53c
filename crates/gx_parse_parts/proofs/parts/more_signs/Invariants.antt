use Rattle.std.proofs.Common.{◌-◌, ℕ}
use Rattle.gx_grammar.specs.Ran.{Standing, Ran}
use Rattle.gx_parse_grammar.specs.Nodes.{Made}
use Rattle.gx_parse_grammar.specs.Grammar.{more_signs, place_in}
use Rattle.gx_parse_tokens.specs.Reading.{read_in}
use Rattle.gx_parse_parts.specs.Parsing.{signs_before}
use Rattle.gx_parse_tokens.specs.Reading.{Added}
use Rattle.gx_parse_parts.proofs.parts.more_signs.Given as goal

abbrev pub invariant-loop : goal.invariant-loop
invariant-loop l =
    Added l.fn.signs.items l.signs.items (λ others. (n : ℕ) (w : Made) (z : Standing) → Ran w l.reader z (read_in l.source n (more_signs (place_in l.source) (l.fn.count - l.counter)))
    → Ran (signs_before others w) l.fn.reader z (read_in l.source n (more_signs (place_in l.source) l.fn.count)))
