use Rattle.std.proofs.Common.{◌≡◌, ◌≤◌, ◌*◌}
use Rattle.std.specs.Prelude.{All}
use Rattle.gx_grammar.specs.Places.{place_at}
use Rattle.gx_parse_tokens.proofs.source.Source.new.Given as goal

abbrev pub invariant-loop-index : goal.invariant-loop-index
invariant-loop-index l = record {
  walked : l.walk.position ≤ l.index * 64;
  same : l.walk.text.now ≡ l.text;
  right : All (λ m. m.place ≡ place_at l.text m.position) l.marks.items;
}
