use Rattle.std.proofs.Common.{◌≡◌, ◌≤◌, length}
use Rattle.gx_grammar.specs.Walks.{behind_walk}
use Rattle.gx_parse_grammar.specs.Tokens.{cdata_walk}
use Rattle.gx_parse_tokens.proofs.markup.behind_cdata.Given as goal

abbrev pub invariant-loop-rest : goal.invariant-loop-rest
invariant-loop-rest l = record {
  small : l.count ≤ 2;
  left : behind_walk cdata_walk l.count l.rest ≡ behind_walk cdata_walk 0 l.fn.text;
}

abbrev pub decreases-loop-rest : goal.decreases-loop-rest
decreases-loop-rest l = length l.rest
