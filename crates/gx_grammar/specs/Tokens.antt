-- What a token is, and what it owes.
use Rattle.std.specs.Prelude.{ℕ, List, [], ◌∷◌, ◌++◌, ◌≡◌, ◌≤◌, ◌==◌, ◌⊎◌, ◌&&◌, Bool, true, false, if◌then◌else◌, length, Option, Some, None}
use Rattle.gx_grammar.specs.First.{head_passes}

-- The text in front of the last `left` characters is empty or opens a token.
pub record SeesUpTo (opens : List ℕ → Type 0) (text : List ℕ) (left : ℕ) : Type 0 where
  pub front : List ℕ
  pub rest : List ℕ
  pub whole : text ≡ front ++ rest
  pub place : length rest ≡ left
  pub opened : (front ≡ []) ⊎ opens front

-- What one token owes; the laws of all tokens of a language are made of these.
pub record LawfulToken {V : Type 0} (derives : V → List ℕ → List ℕ → Type 0) (opens : List ℕ → Type 0) (scan : List ℕ → Option (V × List ℕ)) (seen : List ℕ → ℕ) (faults : List ℕ → Option ℕ) : Type 0 where
  pub sound : (v : V) (x y : List ℕ) → scan x ≡ Some (v, y) → derives v x y
  pub complete : (v : V) (x y : List ℕ) → derives v x y → scan x ≡ Some (v, y)
  pub ends : (v : V) (x y : List ℕ) → derives v x y → (a : List ℕ) × (x ≡ a ++ y)
  pub cut : (v : V) (x y z : List ℕ) → derives v (x ++ z) (y ++ z) → derives v x y
  pub goes_on : (v : V) (x y z : List ℕ) → derives v x y → derives v (x ++ z) (y ++ z) ⊎ opens x
  pub fronts : (v : V) (x y z : List ℕ) → derives v (x ++ z) y → length y ≤ length z → opens x
  pub sees : (x : List ℕ) → SeesUpTo opens x (seen x)
  pub longest : (x z : List ℕ) → opens x → seen (x ++ z) ≤ length z
  pub firm : (v : V) (x y : List ℕ) → derives v x y → faults x ≡ None
  pub faultless : faults [] ≡ None

-- a token without a limit
abbrev pub no_fault : List ℕ → Option ℕ
no_fault x = None

-- the text is a front of the other
abbrev pub IsFrontOf : List ℕ → List ℕ → Type 0
IsFrontOf x whole = (r : List ℕ) × (whole ≡ x ++ r)

-- what is left behind the characters
abbrev pub strip : List ℕ → List ℕ → Option (List ℕ)
strip [] x = Some x
strip (c ∷ w) [] = None
strip (c ∷ w) (d ∷ x) = if c == d then (strip w x) else None

-- what is left behind the longest front that a text has in common with the characters
abbrev pub behind_common : List ℕ → List ℕ → List ℕ
behind_common [] x = x
behind_common (c ∷ w) [] = []
behind_common (c ∷ w) (d ∷ x) = if c == d then (behind_common w x) else (d ∷ x)

abbrev pub unless_passes : {V : Type 0} → V → (ℕ → Bool) → Option (List ℕ) → Option (V × List ℕ)
unless_passes v test None = None
unless_passes v test (Some y) = if head_passes test y then None else (Some (v, y))

-- A word: these characters, behind which no character that passes the test follows. With a test that none
-- passes it is a symbol.
pub record IsWord {V : Type 0} (value : V) (word : List ℕ) (test : ℕ → Bool) (v : V) (x y : List ℕ) : Type 0 where
  pub same : v ≡ value
  pub spelled : x ≡ word ++ y
  pub ended : head_passes test y ≡ false

abbrev pub scan_word : {V : Type 0} → V → List ℕ → (ℕ → Bool) → List ℕ → Option (V × List ℕ)
scan_word v word test x = unless_passes v test (strip word x)

abbrev pub seen_word : List ℕ → List ℕ → ℕ
seen_word word x = length (behind_common word x)

abbrev pub all_pass : (ℕ → Bool) → List ℕ → Bool
all_pass test [] = true
all_pass test (c ∷ x) = test c && all_pass test x

-- the longest front whose characters pass the test, and what is behind it
abbrev pub run_of : (ℕ → Bool) → List ℕ → List ℕ
run_of test [] = []
run_of test (c ∷ x) = if test c then (c ∷ run_of test x) else []

abbrev pub behind_run : (ℕ → Bool) → List ℕ → List ℕ
behind_run test [] = []
behind_run test (c ∷ x) = if test c then (behind_run test x) else (c ∷ x)

-- A run: the longest front of characters that pass the test, which may be empty, behind which no character
-- that passes `stop` follows. Its value is made of its characters.
pub record IsRun {V : Type 0} (value : List ℕ → V) (test stop : ℕ → Bool) (v : V) (x y : List ℕ) : Type 0 where
  pub run : List ℕ
  pub same : v ≡ value run
  pub spelled : x ≡ run ++ y
  pub passes : all_pass test run ≡ true
  pub longest : head_passes test y ≡ false
  pub ended : head_passes stop y ≡ false

abbrev pub scan_run : {V : Type 0} → (List ℕ → V) → (ℕ → Bool) → (ℕ → Bool) → List ℕ → Option (V × List ℕ)
scan_run value test stop x = unless_passes (value (run_of test x)) stop (Some (behind_run test x))

abbrev pub opens_run : (ℕ → Bool) → List ℕ → Type 0
opens_run test x = all_pass test x ≡ true

abbrev pub seen_run : (ℕ → Bool) → List ℕ → ℕ
seen_run test x = length (behind_run test x)

-- A name: a character that passes `first`, and the longest run behind it.
pub record IsNamed {V : Type 0} (value : List ℕ → V) (first test stop : ℕ → Bool) (v : V) (x y : List ℕ) : Type 0 where
  pub head : ℕ
  pub tail : List ℕ
  pub whole : x ≡ head ∷ tail
  pub begins : first head ≡ true
  pub others : IsRun (λ r. value (head ∷ r)) test stop v tail y

abbrev pub scan_name : {V : Type 0} → (List ℕ → V) → (ℕ → Bool) → (ℕ → Bool) → (ℕ → Bool) → List ℕ → Option (V × List ℕ)
scan_name value first test stop [] = None
scan_name value first test stop (c ∷ x) = if first c then (scan_run (λ r. value (c ∷ r)) test stop x) else None

abbrev pub opens_name : (ℕ → Bool) → (ℕ → Bool) → List ℕ → Type 0
opens_name first test [] = Unit {0}
opens_name first test (c ∷ x) = (first c ≡ true) × (all_pass test x ≡ true)

abbrev pub seen_name : (ℕ → Bool) → (ℕ → Bool) → List ℕ → ℕ
seen_name first test [] = 0
seen_name first test (c ∷ x) = if first c then (seen_run test x) else (length (c ∷ x))
