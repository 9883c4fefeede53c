use Rattle.std.proofs.Common.{◌≡◌, ◌≤◌, length}
use Rattle.gx_grammar.specs.Walks.{reached, walk_of, behind_walk}
use Rattle.gx_parse_grammar.specs.References.{numbering}
use Rattle.gx_parse_tokens.proofs.references.number.Given as goal

abbrev pub invariant-loop-rest : goal.invariant-loop-rest
invariant-loop-rest l = record {
  small : l.number ≤ 1114111;
  reaches : reached (numbering l.radix) l.number (walk_of (numbering l.radix) l.number l.rest) ≡ reached (numbering l.radix) 0 (walk_of (numbering l.radix) 0 l.fn.text);
  left : behind_walk (numbering l.radix) l.number l.rest ≡ behind_walk (numbering l.radix) 0 l.fn.text;
}

abbrev pub decreases-loop-rest : goal.decreases-loop-rest
decreases-loop-rest l = length l.rest
