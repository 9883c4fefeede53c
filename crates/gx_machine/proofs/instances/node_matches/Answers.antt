use Rattle.std.specs.Option.{option_map}
use Rattle.gx_model.specs.Belongs.{shape_of}
use Rattle.gx_model.specs.Forest.{node_in}
use Rattle.gx_nodes.specs.Entries.{place_of_number}
use Rattle.gx_machine.proofs.Matching.{taken_is_found}
use Rattle.gx_machine.proofs.instances.node_matches.Goals as goal

pub returns : goal.returns
returns c = λ later x.
    taken_is_found c.args.schemas.now c.types-declared.ensures.invariant.grounded c.args.kind.now (option_map shape_of (node_in c.args.store.now (place_of_number later c.args.node.number))) c.meets.result (c.meets.ensures later x)
