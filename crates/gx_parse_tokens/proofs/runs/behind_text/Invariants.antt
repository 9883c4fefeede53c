use Rattle.std.proofs.Common.{◌≡◌, length}
use Rattle.gx_grammar.specs.Tokens.{behind_run}
use Rattle.gx_parse_grammar.specs.References.{is_run_character}
use Rattle.gx_parse_tokens.proofs.runs.behind_text.Given as goal

abbrev pub invariant-loop-rest : goal.invariant-loop-rest
invariant-loop-rest l = behind_run (is_run_character l.run) l.rest ≡ behind_run (is_run_character l.run) l.fn.text

abbrev pub decreases-loop-rest : goal.decreases-loop-rest
decreases-loop-rest l = length l.rest
