-- Texts that a text of a grammar may begin with.
use Rattle.std.specs.Prelude.{ℕ, List, [], ◌≡◌, ◌++◌, length}
use Rattle.gx_grammar.specs.Grammar.{Guard, token, ◌&◌, keyed, choose, many, rule, made}
use Rattle.gx_grammar.specs.Language.{Language, Part, Made}
use Rattle.gx_grammar.specs.Derivation.{Derives}

-- A text opens a grammar: some text that the grammar derives may begin so.
pub data Opens (L : Language) : Part L → List ℕ → Type 0 where
  open_end : {A : Part L} → Opens L A []
  open_token : {t : L.Token} {x : List ℕ} → L.opens t x → Opens L (token t) x
  open_first : {A B : Part L} {x : List ℕ} → Opens L A x → Opens L (A & B) x
  open_second : {A B : Part L} {v : Made L} {x y : List ℕ} → Derives L A v x y → Opens L B y → Opens L (A & B) x
  open_key : {t : L.Token} {f : Made L → Part L} {x : List ℕ} → L.opens t x → Opens L (keyed t f) x
  open_behind : {t : L.Token} {f : Made L → Part L} {v : Made L} {x y : List ℕ} → L.derives t v x y → Opens L (f v) y → Opens L (keyed t f) x
  open_left : {g : Guard} {A B : Part L} {x : List ℕ} → Opens L A x → Opens L (choose g A B) x
  open_right : {g : Guard} {A B : Part L} {x : List ℕ} → Opens L B x → Opens L (choose g A B) x
  open_item : {g : Guard} {A : Part L} {x : List ℕ} → Opens L A x → Opens L (many g A) x
  open_later : {g : Guard} {A : Part L} {v : Made L} {x y : List ℕ} → Derives L A v x y → Opens L (many g A) y → Opens L (many g A) x
  open_rule : {p : L.Production} {x : List ℕ} → Opens L (L.rules p) x → Opens L (rule p) x
  open_made : {f : ℕ → Made L → Made L} {A : Part L} {x : List ℕ} → Opens L A x → Opens L (made f A) x

-- The text in front of the last `left` characters opens the grammar.
pub record OpensUpTo (L : Language) (A : Part L) (text : List ℕ) (left : ℕ) : Type 0 where
  pub front : List ℕ
  pub rest : List ℕ
  pub whole : text ≡ front ++ rest
  pub place : length rest ≡ left
  pub opens : Opens L A front
