use Rattle.std.proofs.Common.{◌≡◌, ◌≤◌, drop, length, min, MatchOption, Some}
use Rattle.gx_grammar.specs.Value.{node}
use Rattle.gx_grammar.specs.Words.{scan_one_of, seen_one_of}
use Rattle.gx_parse_grammar.specs.Nodes.{Found}
use Rattle.gx_parse_grammar.specs.Tokens.{entries}
use Rattle.gx_parse_tokens.proofs.scan.find.Given as goal

abbrev pub invariant-loop-word : goal.invariant-loop-word
invariant-loop-word l = record {
  word : MatchOption l.found.word (scan_one_of (entries (drop l.word-index l.words)) l.text ≡ scan_one_of (entries l.words) l.text) (λ r. scan_one_of (entries l.words) l.text ≡ Some (node (Found r.0), r.1.now));
  seen : min l.found.seen (seen_one_of (entries (drop l.word-index l.words)) l.text) ≡ seen_one_of (entries l.words) l.text;
  bounded : l.found.seen ≤ length l.text;
}
