use Rattle.std.proofs.Common.{◌≡◌, ◌++◌, false, length, List, ℕ}
use Rattle.gx_grammar.specs.Tokens.{run_of, behind_run}
use Rattle.gx_parse_grammar.specs.References.{is_run_character, text_of}
use Rattle.gx_parse_tokens.proofs.runs.push_text.Given as goal

abbrev pub invariant-loop-rest : goal.invariant-loop-rest
invariant-loop-rest l = record {
  added : (cs : List ℕ) × (l.builder ≡ l.fn.builder ++ cs);
  read : l.builder ++ text_of l.run l.after (run_of (is_run_character l.run) l.rest) ≡ l.fn.builder ++ text_of l.run false (run_of (is_run_character l.run) l.fn.text);
  left : behind_run (is_run_character l.run) l.rest ≡ behind_run (is_run_character l.run) l.fn.text;
}

abbrev pub decreases-loop-rest : goal.decreases-loop-rest
decreases-loop-rest l = length l.rest
