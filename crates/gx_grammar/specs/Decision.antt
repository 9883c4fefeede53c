-- When the guards of a grammar decide, and what its readings shorten.
use Rattle.std.specs.Prelude.{ℕ, List, [], ◌≡◌, ◌≢◌, ◌≤◌, ◌++◌, ◌⊎◌, length, true, false}
use Rattle.gx_grammar.specs.Grammar.{Guard, token, empty, ◌&◌, keyed, choose, many, rule, made}
use Rattle.gx_grammar.specs.Language.{Language, Part, Made}
use Rattle.gx_grammar.specs.Derivation.{Derives}
use Rattle.gx_grammar.specs.Opening.{Opens, OpensUpTo}
use Rattle.gx_grammar.specs.Halting.{Halts}

-- What may follow a grammar: texts.
abbrev pub Texts : Type 1
Texts = List ℕ → Type 0

-- a text that the grammar derives, with K behind it
pub record Before (L : Language) (A : Part L) (K : Texts) (x : List ℕ) : Type 0 where
  pub value : Made L
  pub rest : List ℕ
  pub derived : Derives L A value x rest
  pub behind : K rest

-- such a text, or one that halts in the grammar
abbrev pub Until : (L : Language) → Part L → Texts → Texts
Until L A K x = Before L A K x ⊎ ((code : ℕ) × (z : List ℕ) × Halts L A x code z)

-- the beginning of a text that the grammar derives, where C is the beginnings of K
abbrev pub BeforeCut : (L : Language) → Part L → Texts → Texts
BeforeCut L A C x = Opens L A x ⊎ Before L A C x

-- The text x opens A, or the guard has seen the text at least as far.
abbrev pub IsSeen : (L : Language) → Part L → Guard → List ℕ → List ℕ → Type 0
IsSeen L A g x z = Opens L A x ⊎ (g.seen (x ++ z) ≤ length z)

-- A guard decides between A and B, where K may follow, and C where the text is cut off. Up to where it
-- has seen the text, the text opens one of the two. It takes A exactly where the text goes on with A, or
-- halts in it.
-- Where it decides against a part, what is cut off in that part also fits the other part, or was seen.
pub record Chooses (L : Language) (g : Guard) (A B : Part L) (K C : Texts) : Type 0 where
  pub sees : (x : List ℕ) → OpensUpTo L (choose g A B) x (g.seen x)
  pub left : (v : Made L) (x y : List ℕ) → Derives L A v x y → K y → g.takes x ≡ true
  pub right : (v : Made L) (x y : List ℕ) → Derives L B v x y → K y → g.takes x ≡ false
  pub left_halts : (x z : List ℕ) (code : ℕ) → Halts L A x code z → g.takes x ≡ true
  pub right_halts : (x z : List ℕ) (code : ℕ) → Halts L B x code z → g.takes x ≡ false
  pub left_cut : (x z : List ℕ) → g.takes (x ++ z) ≡ false → Opens L A x → IsSeen L B g x z
  pub right_cut : (x z : List ℕ) → g.takes (x ++ z) ≡ true → Opens L B x → IsSeen L A g x z
  pub left_before : (v : Made L) (x y z : List ℕ) → g.takes (x ++ z) ≡ false → Derives L A v x y → y ≢ [] → C y → IsSeen L B g x z
  pub right_before : (v : Made L) (x y z : List ℕ) → g.takes (x ++ z) ≡ true → Derives L B v x y → y ≢ [] → C y → IsSeen L A g x z

-- A guard decides whether one more A stands in front of K.
pub record Repeats (L : Language) (g : Guard) (A : Part L) (K C : Texts) : Type 0 where
  pub sees : (x : List ℕ) → OpensUpTo L A x (g.seen x)
  pub item : (v : Made L) (x y : List ℕ) → Derives L A v x y → Until L (many g A) K y → g.takes x ≡ true
  pub item_halts : (x z : List ℕ) (code : ℕ) → Halts L A x code z → g.takes x ≡ true
  pub stop : (x : List ℕ) → K x → g.takes x ≡ false
  pub item_cut : (x z : List ℕ) → g.takes (x ++ z) ≡ false → Opens L A x → IsSeen L empty g x z
  pub item_before : (v : Made L) (x y z : List ℕ) → g.takes (x ++ z) ≡ false → Derives L A v x y → y ≢ [] → BeforeCut L (many g A) C y → IsSeen L empty g x z
  pub stop_before : (x z : List ℕ) → g.takes (x ++ z) ≡ true → x ≢ [] → C x → IsSeen L A g x z

-- An item takes at least one character.
abbrev pub Shortens : (L : Language) → Part L → Type 0
Shortens L A = (v : Made L) (x y : List ℕ) → Derives L A v x y → x ≢ y

-- Each guard of the grammar decides.
abbrev pub Decides : (L : Language) → Part L → (K C : Texts) → Type 0
Decides L (token t) K C = Unit {0}
Decides L empty K C = Unit {0}
Decides L (A & B) K C = Decides L A (Until L B K) (BeforeCut L B C) × Decides L B K C
Decides L (keyed t f) K C = (v : Made L) → Decides L (f v) K C
Decides L (choose g A B) K C = Chooses L g A B K C × Decides L A K C × Decides L B K C
Decides L (many g A) K C = Repeats L g A K C × Shortens L A × Decides L A (Until L (many g A) K) (BeforeCut L (many g A) C)
Decides L (rule p) K C = ((y : List ℕ) → K y → L.follows p y) × ((y : List ℕ) → C y → L.follows_cut p y)
Decides L (made f A) K C = Decides L A K C
