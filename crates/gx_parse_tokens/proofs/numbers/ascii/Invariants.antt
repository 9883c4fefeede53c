use Rattle.std.proofs.Common.{◌≡◌, ◌++◌, drop, true, string_bytes}
use Rattle.gx_grammar.specs.Tokens.{all_pass}
use Rattle.gx_parse_grammar.specs.Tokens.{begins_number}
use Rattle.gx_parse_tokens.proofs.numbers.ascii.Given as goal

abbrev pub invariant-loop-character : goal.invariant-loop-character
invariant-loop-character l = record {
  written : string_bytes l.string ++ drop l.character-index l.text ≡ l.text;
  ascii : all_pass begins_number (drop l.character-index l.text) ≡ true;
}
