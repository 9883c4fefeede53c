-- What holds of the value of a derivation, where it holds of the parts.
use Rattle.std.proofs.Common.{◌≡◌, ℕ, List, length, ◌⊎◌, inl, inr, refl}
use Rattle.gx_grammar.specs.Value.{Value, nothing, pair}
use Rattle.gx_grammar.specs.Grammar.{token, empty, ◌&◌, keyed, choose, many, rule, made}
use Rattle.gx_grammar.specs.Language.{Language, Part, Made}
use Rattle.gx_grammar.specs.Derivation.{Derives, of_token, of_empty, of_both, of_keyed, of_left, of_right, of_none, of_item, of_rule, of_made}

-- a pair of such values
pub record IsPair {N : Type 0} (P Q : Value N → Type 0) (v : Value N) : Type 0 where
  pub first : Value N
  pub second : Value N
  pub is : v ≡ pair first second
  pub left : P first
  pub right : Q second

-- a pair, whose second value is such for the first one
pub record IsKeyedPair {N : Type 0} (P : Value N → Type 0) (Q : Value N → Value N → Type 0) (v : Value N) : Type 0 where
  pub first : Value N
  pub second : Value N
  pub is : v ≡ pair first second
  pub left : P first
  pub right : Q first second

-- made of such a value
pub record IsMade {N : Type 0} (f : ℕ → Value N → Value N) (P : Value N → Type 0) (v : Value N) : Type 0 where
  pub left : ℕ
  pub part : Value N
  pub is : v ≡ f left part
  pub of : P part

module _ (L : Language) (Q : L.Production → Made L → Type 0) where
  abbrev pub Holds : Part L → Made L → Type 0
  Holds (token t) v = (x : List ℕ) × ((y : List ℕ) × L.derives t v x y)
  Holds empty v = v ≡ nothing
  Holds (A & B) v = IsPair (λ a. Holds A a) (λ b. Holds B b) v
  Holds (keyed t f) v = IsKeyedPair (λ a. (x : List ℕ) × ((y : List ℕ) × L.derives t a x y)) (λ a b. Holds (f a) b) v
  Holds (choose g A B) v = Holds A v ⊎ Holds B v
  Holds (many g A) v = Unit {0}
  Holds (rule p) v = Q p v
  Holds (made f A) v = IsMade f (λ a. Holds A a) v

  pub holding : ((p : L.Production) (v : Made L) → Holds (L.rules p) v → Q p v) → {A : Part L} {v : Made L} {x y : List ℕ} → Derives L A v x y → Holds A v
  holding h (of_token {x = x} {y = y} d) = (x, (y, d))
  holding h of_empty = refl
  holding h (of_both {v = v} {w = w} d e) = record { first = v; second = w; is = refl; left = holding h d; right = holding h e }
  holding h (of_keyed {v = v} {w = w} {x = x} {y = y} d e) = record { first = v; second = w; is = refl; left = (x, (y, d)); right = holding h e }
  holding h (of_left d) = inl (holding h d)
  holding h (of_right d) = inr (holding h d)
  holding h of_none = tt
  holding h (of_item d e) = tt
  holding h (of_rule {p = p} {v = v} d) = h p v (holding h d)
  holding h (of_made {v = v} {x = x} d) = record { left = length x; part = v; is = refl; of = holding h d }
