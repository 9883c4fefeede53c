use Rattle.std.proofs.Common.{◌≡◌, length}
use Rattle.gx_base.specs.WhiteSpace.{is_white_space}
use Rattle.gx_grammar.specs.Tokens.{behind_run}
use Rattle.gx_parse_tokens.proofs.markup.behind_white.Given as goal

abbrev pub invariant-loop-rest : goal.invariant-loop-rest
invariant-loop-rest l = behind_run is_white_space l.rest ≡ behind_run is_white_space l.fn.text

abbrev pub decreases-loop-rest : goal.decreases-loop-rest
decreases-loop-rest l = length l.rest
