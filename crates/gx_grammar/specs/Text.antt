-- Whole texts of a grammar, and what is answered on a text.
use Rattle.std.specs.Prelude.{ℕ, List, [], ◌∷◌, ◌++◌, ◌≡◌, ◌≤◌, length, Result, Ok, Err}
use Rattle.gx_grammar.specs.Language.{Language, Part, Made}
use Rattle.gx_grammar.specs.Derivation.{Derives}
use Rattle.gx_grammar.specs.Opening.{Opens, OpensUpTo}
use Rattle.gx_grammar.specs.Halting.{Halts}
use Rattle.gx_grammar.specs.Reading.{Refusal, Unfit, Faulty, TooDeep, Reading, start, read_with, reads}
use Rattle.gx_grammar.specs.Decision.{Texts, Decides}
use Rattle.gx_grammar.specs.Laws.{LawfulTokens}

-- Nothing follows a whole text.
abbrev pub AtEnd : Texts
AtEnd y = y ≡ []

abbrev pub Nowhere : Texts
Nowhere y = ⊥

-- The guards of every production decide.
abbrev pub AllDecide : Language → Type 0
AllDecide L = (p : L.Production) → Decides L (L.rules p) (L.follows p) (L.follows_cut p)

-- What an instance owes: its tokens keep their laws, and the guards of its productions and of the grammar
-- of a whole text decide.
pub record IsReadable (L : Language) (A : Part L) : Type 0 where
  pub tokens : LawfulTokens L
  pub productions : AllDecide L
  pub top : Decides L A AtEnd Nowhere

-- what stands behind the reading is empty
abbrev pub with_rest : {A : Type 0} → A → ℕ → List ℕ → Result A Refusal
with_rest v far [] = Ok v
with_rest v far (c ∷ x) = Err (Unfit far)

abbrev pub whole_only : {A : Type 0} → Reading A → Result A Refusal
whole_only (Ok r) = with_rest r.0 r.1.far r.1.rest
whole_only (Err e) = Err e

-- What a whole text reads as.
abbrev pub read_text : (L : Language) → ℕ → Part L → List ℕ → Result (Made L) Refusal
read_text L levels A text = whole_only (read_with L (reads L levels) A (start text))

-- The text in front of the last `far` characters is the longest front of the text that opens the grammar.
pub record IsLongestOpening (L : Language) (A : Part L) (text : List ℕ) (far : ℕ) : Type 0 where
  pub opens : OpensUpTo L A text far
  pub longest : (x z : List ℕ) → text ≡ x ++ z → Opens L A x → far ≤ length z

-- The text has this one value, and no fault stands in it.
pub record HasValue (L : Language) (A : Part L) (text : List ℕ) (v : Made L) : Type 0 where
  pub derived : Derives L A v text []
  pub only : (w : Made L) → Derives L A w text [] → w ≡ v
  pub sound : (code : ℕ) (z : List ℕ) → Halts L A text code z → ⊥

-- The text has no value, and no fault stands in it. In front of the last `far` characters its longest opening
-- ends.
pub record IsUnfit (L : Language) (A : Part L) (text : List ℕ) (far : ℕ) : Type 0 where
  pub none : (w : Made L) → Derives L A w text [] → ⊥
  pub sound : (code : ℕ) (z : List ℕ) → Halts L A text code z → ⊥
  pub longest : IsLongestOpening L A text far

-- The text has no value, and one fault, with this code, where `left` characters are left. All in front of it
-- opens the grammar.
pub record IsFaulty (L : Language) (A : Part L) (text : List ℕ) (code left : ℕ) : Type 0 where
  pub none : (w : Made L) → Derives L A w text [] → ⊥
  pub rest : List ℕ
  pub place : length rest ≡ left
  pub halts : Halts L A text code rest
  pub only : (other : ℕ) (z : List ℕ) → Halts L A text other z → (other ≡ code) × (z ≡ rest)
  pub opens : OpensUpTo L A text left

-- What an answer says of a text. That the levels do not suffice is no answer.
abbrev pub IsVerdict : (L : Language) → Part L → List ℕ → Result (Made L) Refusal → Type 0
IsVerdict L A text (Ok v) = HasValue L A text v
IsVerdict L A text (Err (Unfit far)) = IsUnfit L A text far
IsVerdict L A text (Err (Faulty code left)) = IsFaulty L A text code left
IsVerdict L A text (Err TooDeep) = ⊥
