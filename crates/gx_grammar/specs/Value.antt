-- What a grammar makes of a text.
use Rattle.std.specs.Prelude.{ℕ, List}

-- What a grammar makes of a text: nothing, characters, a node of the instance's own, a pair, or a list.
pub data Value (Node : Type 0) : Type 0 where
  nothing : Value Node
  characters : List ℕ → Value Node
  node : Node → Value Node
  pair : Value Node → Value Node → Value Node
  no_item : Value Node
  an_item : Value Node → Value Node → Value Node
