use Rattle.std.proofs.Common.{◌≡◌, ◌++◌, length}
use Rattle.gx_grammar.specs.Tokens.{run_of, behind_run}
use Rattle.gx_base.specs.NameCharacters.{is_ncname_character}
use Rattle.gx_parse_tokens.proofs.names.name_run.Given as goal

abbrev pub invariant-loop-rest : goal.invariant-loop-rest
invariant-loop-rest l = record {
  read : l.name ++ run_of is_ncname_character l.rest ≡ run_of is_ncname_character l.fn.text;
  left : behind_run is_ncname_character l.rest ≡ behind_run is_ncname_character l.fn.text;
}

abbrev pub decreases-loop-rest : goal.decreases-loop-rest
decreases-loop-rest l = length l.rest
