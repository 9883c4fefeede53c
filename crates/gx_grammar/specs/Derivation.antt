-- What a grammar derives from the front of a text.
use Rattle.std.specs.Prelude.{ℕ, List, length}
use Rattle.gx_grammar.specs.Value.{nothing, pair, no_item, an_item}
use Rattle.gx_grammar.specs.Grammar.{Guard, token, empty, ◌&◌, keyed, choose, many, rule, made}
use Rattle.gx_grammar.specs.Language.{Language, Part, Made}

-- A grammar derives a value from the front of a text, and leaves the rest of that text.
pub data Derives (L : Language) : Part L → Made L → List ℕ → List ℕ → Type 0 where
  of_token : {t : L.Token} {v : Made L} {x y : List ℕ} → L.derives t v x y → Derives L (token t) v x y
  of_empty : {x : List ℕ} → Derives L empty nothing x x
  of_both : {A B : Part L} {v w : Made L} {x y z : List ℕ} → Derives L A v x y → Derives L B w y z → Derives L (A & B) (pair v w) x z
  of_keyed : {t : L.Token} {f : Made L → Part L} {v w : Made L} {x y z : List ℕ} → L.derives t v x y → Derives L (f v) w y z → Derives L (keyed t f) (pair v w) x z
  of_left : {g : Guard} {A B : Part L} {v : Made L} {x y : List ℕ} → Derives L A v x y → Derives L (choose g A B) v x y
  of_right : {g : Guard} {A B : Part L} {v : Made L} {x y : List ℕ} → Derives L B v x y → Derives L (choose g A B) v x y
  of_none : {g : Guard} {A : Part L} {x : List ℕ} → Derives L (many g A) no_item x x
  of_item : {g : Guard} {A : Part L} {v w : Made L} {x y z : List ℕ} → Derives L A v x y → Derives L (many g A) w y z → Derives L (many g A) (an_item v w) x z
  of_rule : {p : L.Production} {v : Made L} {x y : List ℕ} → Derives L (L.rules p) v x y → Derives L (rule p) v x y
  of_made : {f : ℕ → Made L → Made L} {A : Part L} {v : Made L} {x y : List ℕ} → Derives L A v x y → Derives L (made f A) (f (length x) v) x y
