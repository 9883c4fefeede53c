-- What the parts of a grammar make, where what the productions make is known.
use Rattle.std.proofs.Common.{◌≡◌, ◌⊎◌, ℕ, List, length, inl, inr, refl}
use Rattle.gx_grammar.specs.Value.{nothing, pair}
use Rattle.gx_grammar.specs.Grammar.{token, empty, ◌&◌, keyed, choose, many, rule, made}
use Rattle.gx_grammar.specs.Language.{Language, Part, Made}
use Rattle.gx_grammar.specs.Derivation.{Derives, of_token, of_empty, of_both, of_keyed, of_left, of_right, of_none, of_item, of_rule, of_made}

module _ (L : Language) where
  -- the token stands somewhere with this value
  abbrev pub IsWorth : L.Token → Made L → Type 0
  IsWorth t v = (x : List ℕ) × (y : List ℕ) × L.derives t v x y

  -- The part may make the value, where productions make those of V. Of repetitions nothing is said.
  abbrev pub MayMake : (L.Production → Made L → Type 0) → Part L → Made L → Type 0
  MayMake V (token t) v = IsWorth t v
  MayMake V empty v = v ≡ nothing
  MayMake V (A & B) v = (a : Made L) × (b : Made L) × (v ≡ pair a b) × MayMake V A a × MayMake V B b
  MayMake V (keyed t f) v = (a : Made L) × (b : Made L) × (v ≡ pair a b) × IsWorth t a × MayMake V (f a) b
  MayMake V (choose g A B) v = MayMake V A v ⊎ MayMake V B v
  MayMake V (many g A) v = Unit {0}
  MayMake V (rule p) v = V p v
  MayMake V (made f A) v = (n : ℕ) × (a : Made L) × (v ≡ f n a) × MayMake V A a

  -- What is derived is made.
  pub derived_made : (V : L.Production → Made L → Type 0) → ((p : L.Production) (v : Made L) → MayMake V (L.rules p) v → V p v)
      → {A : Part L} {v : Made L} {x y : List ℕ} → Derives L A v x y → MayMake V A v
  derived_made V closed (of_token {x = x} {y = y} d) = (x, y, d)
  derived_made V closed of_empty = refl
  derived_made V closed (of_both {v = a} {w = b} d e) = (a, b, refl, derived_made V closed d, derived_made V closed e)
  derived_made V closed (of_keyed {v = a} {w = b} {x = x} {y = y} d e) = (a, b, refl, (x, y, d), derived_made V closed e)
  derived_made V closed (of_left d) = inl (derived_made V closed d)
  derived_made V closed (of_right d) = inr (derived_made V closed d)
  derived_made V closed of_none = tt
  derived_made V closed (of_item d e) = tt
  derived_made V closed (of_rule {p = p} {v = v} d) = closed p v (derived_made V closed d)
  derived_made V closed (of_made {v = a} {x = x} d) = (length x, a, refl, derived_made V closed d)
