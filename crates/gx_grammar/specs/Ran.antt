-- What a hand-written reader does.
use Rattle.std.specs.Prelude.{ℕ, length, ◌≡◌, Bool, Ok, Err}
use Rattle.gx_grammar.specs.Grammar.{Guard}
use Rattle.gx_grammar.specs.Reading.{State, Refusal, Reading, notes}

-- Where a hand-written reader stands: it goes on from a state; or it gave up with a refusal; or memory did
-- not suffice. Once it gave up it reads nothing more.
pub data Standing : Type 0 where
  Going : State → Standing
  GaveUp : Refusal → Standing
  Lost : Standing

-- From where it stood to where it stands, the reader did what the reading gives, with the value v. A lack
-- of memory says nothing of the reading.
abbrev pub Ran : {A : Type 0} → A → Standing → Standing → (State → Reading A) → Type 0
Ran v (Going s) (Going t) read = read s ≡ Ok (v, t)
Ran v (Going s) (GaveUp e) read = read s ≡ Err e
Ran v (Going s) Lost read = Unit {0}
Ran v (GaveUp e) after read = after ≡ GaveUp e
Ran v Lost after read = after ≡ Lost

-- The reader looked by the guard, and the answer is whether the guard takes the text.
abbrev pub Looked : Bool → Standing → Standing → Guard → Type 0
Looked taken (Going s) after g = (after ≡ Going (notes s (g.seen s.rest))) × (taken ≡ g.takes s.rest)
Looked taken (GaveUp e) after g = after ≡ GaveUp e
Looked taken Lost after g = after ≡ Lost

-- the reader does not go on
abbrev pub IsDone : Standing → Type 0
IsDone (Going s) = ⊥
IsDone (GaveUp e) = Unit {0}
IsDone Lost = Unit {0}

-- The value w was made, which is to be v, unless memory did not suffice.
abbrev pub Makes : {A : Type 0} → A → A → Standing → Standing → Type 0
Makes w v (Going s) (Going t) = (w ≡ v) × (t ≡ s)
Makes w v (Going s) (GaveUp e) = ⊥
Makes w v (Going s) Lost = Unit {0}
Makes w v (GaveUp e) after = after ≡ GaveUp e
Makes w v Lost after = after ≡ Lost

-- how many characters are left
abbrev pub left_of : Standing → ℕ
left_of (Going s) = length s.rest
left_of (GaveUp e) = 0
left_of Lost = 0

-- Reading ended for want of memory, if it had not ended before.
abbrev pub Loses : Standing → Standing → Type 0
Loses (Going s) after = after ≡ Lost
Loses (GaveUp e) after = after ≡ GaveUp e
Loses Lost after = after ≡ Lost
