-- Where a limit of a token refuses a text.
use Rattle.std.specs.Prelude.{ℕ, List, ◌≡◌, length, Some}
use Rattle.gx_grammar.specs.Grammar.{Guard, token, ◌&◌, keyed, choose, many, rule, made}
use Rattle.gx_grammar.specs.Language.{Language, Part, Made}
use Rattle.gx_grammar.specs.Derivation.{Derives}

-- A text halts in a grammar: behind what was derived from its front, a token of the grammar has the fault
-- with this code, at the front of the last text.
pub data Halts (L : Language) : Part L → List ℕ → ℕ → List ℕ → Type 0 where
  halt_token : {t : L.Token} {x : List ℕ} {code : ℕ} → L.faults t x ≡ Some code → Halts L (token t) x code x
  halt_first : {A B : Part L} {x z : List ℕ} {code : ℕ} → Halts L A x code z → Halts L (A & B) x code z
  halt_second : {A B : Part L} {v : Made L} {x y z : List ℕ} {code : ℕ} → Derives L A v x y → Halts L B y code z → Halts L (A & B) x code z
  halt_key : {t : L.Token} {f : Made L → Part L} {x : List ℕ} {code : ℕ} → L.faults t x ≡ Some code → Halts L (keyed t f) x code x
  halt_behind : {t : L.Token} {f : Made L → Part L} {v : Made L} {x y z : List ℕ} {code : ℕ} → L.derives t v x y → Halts L (f v) y code z → Halts L (keyed t f) x code z
  halt_left : {g : Guard} {A B : Part L} {x z : List ℕ} {code : ℕ} → Halts L A x code z → Halts L (choose g A B) x code z
  halt_right : {g : Guard} {A B : Part L} {x z : List ℕ} {code : ℕ} → Halts L B x code z → Halts L (choose g A B) x code z
  halt_item : {g : Guard} {A : Part L} {x z : List ℕ} {code : ℕ} → Halts L A x code z → Halts L (many g A) x code z
  halt_later : {g : Guard} {A : Part L} {v : Made L} {x y z : List ℕ} {code : ℕ} → Derives L A v x y → Halts L (many g A) y code z → Halts L (many g A) x code z
  halt_rule : {p : L.Production} {x z : List ℕ} {code : ℕ} → Halts L (L.rules p) x code z → Halts L (rule p) x code z
  halt_made : {f : ℕ → Made L → Made L} {A : Part L} {x z : List ℕ} {code : ℕ} → Halts L A x code z → Halts L (made f A) x code z

-- The text halts with this code where `left` characters are left.
pub record HaltsAt (L : Language) (A : Part L) (text : List ℕ) (code left : ℕ) : Type 0 where
  pub rest : List ℕ
  pub place : length rest ≡ left
  pub halts : Halts L A text code rest
