-- Roots of nodes (Functions and Operators, section 14.9).
use Rattle.std.specs.Prelude.{[], Option, None, option_map}
use Rattle.gx_model.specs.Forest.{Forest, PlainNode, node_in}

-- the root of the tree that a node is in, if the forest has the node
abbrev pub root_of : PlainNode → PlainNode
root_of place = record { tree = place.tree; path = []; attribute = None }

abbrev pub root_in : Forest → PlainNode → Option PlainNode
root_in forest place = option_map (λ t. root_of place) (node_in forest place)
