-- Tokens that never stand where a text begins.
use Rattle.std.specs.Prelude.{ℕ, List, [], ◌≡◌, ◌++◌, ◌⊎◌}
use Rattle.gx_grammar.specs.Language.{Language}
use Rattle.gx_grammar.specs.Decision.{Texts}
use Rattle.gx_grammar.specs.First.{IsIn, StandsFirst}

-- None of the tokens stands at the front of a text of K, with a fault or without; and where the beginning of such a
-- text, one of C, goes on so that one of them does, it is empty or opens one of them.
pub record Avoids (L : Language) (ts : List L.Token) (K C : Texts) : Type 0 where
  pub never : (x : List ℕ) → K x → StandsFirst L.derives L.faults ts x → ⊥
  pub opening : (x z : List ℕ) → C x → StandsFirst L.derives L.faults ts (x ++ z) → (x ≡ []) ⊎ ((t : L.Token) × IsIn ts t × L.opens t x)
