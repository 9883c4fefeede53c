use Rattle.std.proofs.Common.{◌≡◌, ◌++◌, false, drop, List, ℕ}
use Rattle.gx_parse_grammar.specs.declared.runs.Run.TheVariants as run
use Rattle.gx_parse_grammar.specs.References.{text_of}
use Rattle.gx_parse_tokens.proofs.runs.push_characters.Given as goal

abbrev pub invariant-loop-character : goal.invariant-loop-character
invariant-loop-character l = record {
  added : (cs : List ℕ) × (l.builder ≡ l.fn.builder ++ cs);
  read : l.builder ++ text_of run.Content l.after (drop l.character-index l.text) ≡ l.fn.builder ++ text_of run.Content false l.text;
}
