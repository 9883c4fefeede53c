-- How deep the productions of a grammar stand in one another without reading.
use Rattle.std.specs.Prelude.{ℕ, suc, List, length, Bool, true, false, ◌&&◌, ◌||◌, ◌≡◌, ◌<◌, ◌⊎◌, Ok, Err}
use Rattle.gx_grammar.specs.Grammar.{token, empty, ◌&◌, keyed, choose, many, rule, made}
use Rattle.gx_grammar.specs.Language.{Language, Part, Made}
use Rattle.gx_grammar.specs.Reading.{Unfit, Faulty, TooDeep, Reading}

-- Which tokens and productions never stand for the empty text.
pub record Takings (L : Language) : Type 0 where
  pub token_takes : L.Token → Bool
  pub production_takes : L.Production → Bool

-- the grammar never stands for the empty text
abbrev pub takes_some : (L : Language) → Takings L → Part L → Bool
takes_some L k (token t) = k.token_takes t
takes_some L k empty = false
takes_some L k (A & B) = takes_some L k A || takes_some L k B
takes_some L k (keyed t f) = k.token_takes t
takes_some L k (choose g A B) = takes_some L k A && takes_some L k B
takes_some L k (many g A) = false
takes_some L k (rule p) = k.production_takes p
takes_some L k (made f A) = takes_some L k A

-- Each production in the grammar has a rank below n.
abbrev pub HasRanksBelow : (L : Language) → (L.Production → ℕ) → ℕ → Part L → Type 0
HasRanksBelow L rank n (token t) = Unit {0}
HasRanksBelow L rank n empty = Unit {0}
HasRanksBelow L rank n (A & B) = HasRanksBelow L rank n A × HasRanksBelow L rank n B
HasRanksBelow L rank n (keyed t f) = (v : Made L) → HasRanksBelow L rank n (f v)
HasRanksBelow L rank n (choose g A B) = HasRanksBelow L rank n A × HasRanksBelow L rank n B
HasRanksBelow L rank n (many g A) = HasRanksBelow L rank n A
HasRanksBelow L rank n (rule p) = rank p < n
HasRanksBelow L rank n (made f A) = HasRanksBelow L rank n A

-- Each production in the grammar has a rank below n, or stands behind at least one character and has a rank
-- of at most n.
abbrev pub IsShielded : (L : Language) → Takings L → (L.Production → ℕ) → ℕ → Part L → Type 0
IsShielded L k rank n (token t) = Unit {0}
IsShielded L k rank n empty = Unit {0}
IsShielded L k rank n (A & B) = IsShielded L k rank n A × (((takes_some L k A ≡ true) × HasRanksBelow L rank (suc n) B) ⊎ IsShielded L k rank n B)
IsShielded L k rank n (keyed t f) = ((k.token_takes t ≡ true) × ((v : Made L) → HasRanksBelow L rank (suc n) (f v))) ⊎ ((v : Made L) → IsShielded L k rank n (f v))
IsShielded L k rank n (choose g A B) = IsShielded L k rank n A × IsShielded L k rank n B
IsShielded L k rank n (many g A) = IsShielded L k rank n A
IsShielded L k rank n (rule p) = rank p < n
IsShielded L k rank n (made f A) = IsShielded L k rank n A

-- The takings are right.
pub record AreTakings (L : Language) (k : Takings L) : Type 0 where
  pub tokens : (t : L.Token) (v : Made L) (x y : List ℕ) → k.token_takes t ≡ true → L.derives t v x y → length y < length x
  pub productions : (p : L.Production) → k.production_takes p ≡ true → takes_some L k (L.rules p) ≡ true

-- Besides, a production begins with productions of lower rank alone.
pub record IsLevelled (L : Language) (k : Takings L) : Type 0 where
  pub takings : AreTakings L k
  pub rank : L.Production → ℕ
  pub shielded : (p : L.Production) → IsShielded L k rank (rank p) (L.rules p)

-- The levels sufficed.
abbrev pub IsNotTooDeep : {A : Type 0} → Reading A → Type 0
IsNotTooDeep (Ok r) = Unit {0}
IsNotTooDeep (Err (Unfit far)) = Unit {0}
IsNotTooDeep (Err (Faulty code left)) = Unit {0}
IsNotTooDeep (Err TooDeep) = ⊥
