-- What an instance of grammars gives.
use Rattle.std.specs.Prelude.{ℕ, List, Option}
use Rattle.gx_grammar.specs.Value.{Value}
use Rattle.gx_grammar.specs.Grammar.{Grammar}

-- What an instance gives: its tokens, its productions, its nodes, and these.
pub record Language : Type 1 where
  pub Token : Type 0
  pub Production : Type 0
  pub Node : Type 0
  -- the token with this value stands at the front of the first text and leaves the second
  pub derives : Token → Value Node → List ℕ → List ℕ → Type 0
  -- the text is the beginning of a text with the token at its front
  pub opens : Token → List ℕ → Type 0
  -- the token at the front of the text, and what it leaves
  pub scan : Token → List ℕ → Option (Value Node × List ℕ)
  -- what is left of the text behind its longest front that opens the token
  pub seen : Token → List ℕ → ℕ
  -- the code of the fault that the token has at the front of the text: it stands there, or would, but against
  -- a limit of its own
  pub faults : Token → List ℕ → Option ℕ
  -- the grammar of a production
  pub rules : Production → Grammar Token Production Node
  -- what may follow a production, to the end of the text
  pub follows : Production → List ℕ → Type 0
  -- what may follow a production in a text that is cut off
  pub follows_cut : Production → List ℕ → Type 0

-- a grammar of the language
abbrev pub Part : Language → Type 0
Part L = Grammar L.Token L.Production L.Node

-- what a grammar of the language makes
abbrev pub Made : Language → Type 0
Made L = Value L.Node
