use Rattle.std.proofs.Common.{◌≡◌, ◌<◌}
use Rattle.std.specs.List.{All}
use Rattle.gx_nodes.specs.Entries.{count_in}
use Rattle.gx_store.specs.Places.{node_places}
use Rattle.gx_documents.proofs.Roots.{roots_before}
use Rattle.gx_documents.proofs.documents.document_nodes.Given as goal

-- the roots so far
abbrev pub invariant-loop-number : goal.invariant-loop-number
invariant-loop-number l = record {
  nodes : node_places l.store l.nodes.items ≡ roots_before l.store l.number;
  there : All (λ m. m.number < count_in l.store) l.nodes.items;
}
