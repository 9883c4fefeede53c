-- What tokens and languages owe.
use Rattle.std.specs.Prelude.{ℕ, List, [], ◌≡◌, ◌≢◌, ◌≤◌, ◌++◌, ◌⊎◌, length, Some, None, Ok, Err, IfOk}
use Rattle.gx_grammar.specs.Grammar.{token}
use Rattle.gx_grammar.specs.Language.{Language, Part, Made}
use Rattle.gx_grammar.specs.Derivation.{Derives}
use Rattle.gx_grammar.specs.Opening.{Opens, OpensUpTo}
use Rattle.gx_grammar.specs.Halting.{Halts, HaltsAt}
use Rattle.gx_grammar.specs.Reading.{State, Unfit, Faulty, TooDeep, Reading}
use Rattle.gx_grammar.specs.Decision.{Texts}

-- What the tokens of a language owe.
pub record LawfulTokens (L : Language) : Type 0 where
  -- what is scanned is derived, and the other way round
  pub sound : (t : L.Token) (v : Made L) (x y : List ℕ) → L.scan t x ≡ Some (v, y) → L.derives t v x y
  pub complete : (t : L.Token) (v : Made L) (x y : List ℕ) → L.derives t v x y → L.scan t x ≡ Some (v, y)
  -- what is left is the end of the text
  pub ends : (t : L.Token) (v : Made L) (x y : List ℕ) → L.derives t v x y → (a : List ℕ) × (x ≡ a ++ y)
  -- what follows may be cut off
  pub cut : (t : L.Token) (v : Made L) (x y z : List ℕ) → L.derives t v (x ++ z) (y ++ z) → L.derives t v x y
  -- whatever comes behind a text with the token at its front, the token stands there, or the text opens it
  pub goes_on : (t : L.Token) (v : Made L) (x y z : List ℕ) → L.derives t v x y → L.derives t v (x ++ z) (y ++ z) ⊎ L.opens t x
  -- each front of a token opens it
  pub fronts : (t : L.Token) (v : Made L) (x y z : List ℕ) → L.derives t v (x ++ z) y → length y ≤ length z → L.opens t x
  -- the longest opening
  pub sees : (t : L.Token) (x : List ℕ) → OpensUpTo L (token t) x (L.seen t x)
  pub longest : (t : L.Token) (x z : List ℕ) → L.opens t x → L.seen t (x ++ z) ≤ length z
  -- what stands has no fault, and none stands at the end
  pub firm : (t : L.Token) (v : Made L) (x y : List ℕ) → L.derives t v x y → L.faults t x ≡ None
  pub faultless : (t : L.Token) → L.faults t [] ≡ None

-- The furthest character that fitted lies within the last n; a fault says nothing of it.
abbrev pub Within : {A : Type 0} → Reading A → ℕ → Type 0
Within (Ok r) n = r.1.far ≤ n
Within (Err (Unfit far)) n = far ≤ n
Within (Err (Faulty code left)) n = Unit {0}
Within (Err TooDeep) n = Unit {0}

-- The reader leaves y, or has seen the text up to the last n characters.
abbrev pub Meets : {A : Type 0} → Reading A → List ℕ → ℕ → Type 0
Meets (Ok r) y n = (r.1.rest ≡ y) ⊎ (r.1.far ≤ n)
Meets (Err (Unfit far)) y n = far ≤ n
Meets (Err (Faulty code left)) y n = Unit {0}
Meets (Err TooDeep) y n = Unit {0}

-- The reader answers v and leaves y, unless the levels do not suffice.
abbrev pub Agrees : {A : Type 0} → Reading A → A → List ℕ → Type 0
Agrees (Ok r) v y = (r.0 ≡ v) × (r.1.rest ≡ y)
Agrees (Err (Unfit far)) v y = ⊥
Agrees (Err (Faulty code left)) v y = ⊥
Agrees (Err TooDeep) v y = Unit {0}

-- The reader answers the fault, unless the levels do not suffice.
abbrev pub Stops : {A : Type 0} → Reading A → ℕ → ℕ → Type 0
Stops (Ok r) code left = ⊥
Stops (Err (Unfit far)) code left = ⊥
Stops (Err (Faulty here there)) code left = (here ≡ code) × (there ≡ left)
Stops (Err TooDeep) code left = Unit {0}

-- The text opens the grammar up to `far`, or that was so before.
abbrev pub SeenUpTo : (L : Language) → Part L → State → ℕ → Type 0
SeenUpTo L A s far = (far ≡ s.far) ⊎ OpensUpTo L A s.rest far

abbrev pub Reaches : (L : Language) → Part L → State → Reading (Made L) → Type 0
Reaches L A s (Ok r) = SeenUpTo L A s r.1.far
Reaches L A s (Err (Unfit far)) = SeenUpTo L A s far
Reaches L A s (Err (Faulty code left)) = HaltsAt L A s.rest code left
Reaches L A s (Err TooDeep) = Unit {0}

-- A reader of a grammar is exact, where K may follow, and C where the text is cut off.
pub record IsExact (L : Language) (A : Part L) (K C : Texts) (read : State → Reading (Made L)) : Type 0 where
  -- what fitted stays noted
  pub kept : (s : State) (n : ℕ) → s.far ≤ n → Within (read s) n
  -- what is read is derived
  pub sound : (s : State) → IfOk (read s) (λ r. Derives L A r.0 s.rest r.1.rest)
  -- what is derived is read
  pub complete : (s : State) (v : Made L) (y : List ℕ) → Derives L A v s.rest y → K y → Agrees (read s) v y
  -- where the text halts, the reader stops
  pub halts : (s : State) (code : ℕ) (z : List ℕ) → Halts L A s.rest code z → Stops (read s) code (length z)
  -- the text is seen as far as it opens the grammar
  pub covers : (s : State) (x z : List ℕ) → s.rest ≡ x ++ z → s.far ≤ length s.rest → Opens L A x → Within (read s) (length z)
  pub meets : (s : State) (v : Made L) (x y z : List ℕ) → s.rest ≡ x ++ z → s.far ≤ length s.rest → Derives L A v x y → y ≢ [] → C y → Meets (read s) (y ++ z) (length z)
  -- and no further
  pub reaches : (s : State) → Reaches L A s (read s)
