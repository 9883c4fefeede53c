-- What stands leftmost in a grammar.
use Rattle.std.specs.Prelude.{ℕ, List}
use Rattle.gx_grammar.specs.Grammar.{◌&◌, made}
use Rattle.gx_grammar.specs.Language.{Language, Part, Made}
use Rattle.gx_grammar.specs.First.{Fronts, first_behind}

-- What reads F stands in front of all else that P reads, and `vs` may follow it, where `us` may follow P.
pub data Leftmost (L : Language) (f : Fronts L) (F : Part L) : Part L → List L.Token → List L.Token → Type 0 where
  leftmost_here : {us : List L.Token} → Leftmost L f F F us us
  leftmost_made : {h : ℕ → Made L → Made L} {A : Part L} {us vs : List L.Token} → Leftmost L f F A us vs → Leftmost L f F (made h A) us vs
  leftmost_both : {A B : Part L} {us vs : List L.Token} → Leftmost L f F A (first_behind L f B us) vs → Leftmost L f F (A & B) us vs
