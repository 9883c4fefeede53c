-- Where a reader of type texts stands, and what it did.
use Rattle.std.specs.Prelude.{◌≡◌, ◌≢◌, ℕ, min, List, [], Option, Some, None}
use Rattle.gx_grammar.specs.Reading.{State, Unfit, Reading, taken}
use Rattle.gx_grammar.specs.Ran.{Standing, Going, GaveUp, Lost, Ran, IsDone}
use Rattle.gx_typetext.specs.declared.reader.End.{End}
use Rattle.gx_typetext.specs.declared.reader.End.TheVariants as ended
use Rattle.gx_typetext.specs.Nodes.{Made}
use Rattle.gx_typetext.specs.Grammar.{Production}
use Rattle.gx_typetext.specs.Tokens.{Token, scan, seen}

-- where a reader stands
abbrev pub reader_standing : List ℕ → ℕ → Option End → Standing
reader_standing rest far None = Going (record { rest = rest; far = far })
reader_standing rest far (Some (ended.Unfit left)) = GaveUp (Unfit left)
reader_standing rest far (Some ended.Lost) = Lost

-- a token
unfoldable pub read_type_token : Token → State → Reading Made
read_type_token t s = taken (scan t s.rest) (min s.far (seen t s.rest))

-- A part was read as this value, or reading has ended.
abbrev pub WasGiven : {A : Type 0} → (A → Made) → Option A → Standing → Standing → (State → Reading Made) → Type 0
WasGiven value None before after read = IsDone after × ((v : Made) → Ran v before after read)
WasGiven value (Some a) before after read = Ran (value a) before after read

-- how the reading of a whole text ended
abbrev pub HasEndedAs : Option End → Standing → Type 0
HasEndedAs None (Going s) = s.rest ≡ []
HasEndedAs (Some (ended.Unfit far)) (Going s) = (s.rest ≢ []) × (far ≡ s.far)
HasEndedAs (Some (ended.Unfit far)) (GaveUp e) = e ≡ Unfit far
HasEndedAs (Some ended.Lost) Lost = Unit {0}
HasEndedAs _ _ = ⊥

-- how productions are read
abbrev pub Calls : Type 0
Calls = Production → State → Reading Made
