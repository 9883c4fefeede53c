use Rattle.std.proofs.Common.{sym, ◌∙◌}
use Rattle.gx_model.specs.Forest.{node_in}
use Rattle.gx_nodes.specs.Entries.{place_of_number}
use Rattle.gx_store.proofs.ValueLemmas.{extends_itself}
use Rattle.gx_build.proofs.ContentLemmas.{copies_put}
use Rattle.gx_build.proofs.content.Content.push_copies.Goals as goal

pub returns : goal.returns
returns c rest =
    let forest = c.args.store.now in
    copies_put c.args.self.now c.push_erased.new.self (node_in forest (place_of_number forest c.args.node.number)) c.in-Some.copy rest (sym c.in-Some.is ∙ c.in_ok-copy.ensures forest (extends_itself forest)) (c.in_ok-push_erased.ensures rest)
