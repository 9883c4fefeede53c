-- Lists whose items are read as long as a guard takes them.
use Rattle.std.specs.Prelude.{ℕ, List, [], ◌∷◌}
use Rattle.gx_grammar.specs.Grammar.{Guard}
use Rattle.gx_grammar.specs.Value.{an_item}
use Rattle.gx_grammar.specs.Reading.{State, Reading, repeat}
use Rattle.gx_grammar.specs.Ran.{Standing, Ran}
use Rattle.gx_parse_grammar.specs.Nodes.{Made}
use Rattle.gx_parse_grammar.specs.Basics.{Phrase}
use Rattle.gx_parse_tokens.specs.Reading.{read_in}
use Rattle.gx_parse_tokens.specs.Reading.{Added}

-- items, in front of what else was read
abbrev pub listed_before : {A : Type 0} → (A → Made) → List A → Made → Made
listed_before value [] w = w
listed_before value (x ∷ xs) w = an_item (value x) (listed_before value xs w)

-- at most so many items
unfoldable pub read_many : List ℕ → ℕ → Guard → Phrase → ℕ → State → Reading Made
read_many text n g item count s = repeat g (λ t. read_in text n item t) count s

-- Items were read, of those that `whole` reads; further ones may follow, which `rest` reads.
abbrev pub Listing : {A : Type 0} → (A → Made) → List A → List A → Standing → Standing → (State → Reading Made) → (State → Reading Made) → Type 0
Listing value first list before here whole rest = Added first list (λ others. (w : Made) (z : Standing) → Ran w here z rest → Ran (listed_before value others w) before z whole)
