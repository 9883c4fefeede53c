use Rattle.std.proofs.Common.{◌≡◌, ℕ, zero, suc, Bool, true, false, if◌then◌else◌, length, refl, sym, ap, subst, ◌∙◌, Ok}
use Rattle.gx_grammar.specs.Value.{Value, nothing, pair, no_item, an_item}
use Rattle.gx_grammar.specs.Grammar.{Guard, empty, ◌&◌, keyed, choose, made}
use Rattle.gx_grammar.specs.Language.{Language, Part, Made}
use Rattle.gx_grammar.specs.Reading.{State, Reading, go_on, notes, read_token, repeat, read_with}
use Rattle.gx_grammar.specs.Ran.{Standing, Going, GaveUp, Lost, Ran, Looked, IsDone, Makes, left_of}

-- nothing was done, since the reader gave up before
pub ran_idle : {A : Type 0} (v : A) (here : Standing) (read : State → Reading A) → IsDone here → Ran v here here read
ran_idle v (Going s) read d = absurd d
ran_idle v (GaveUp e) read d = refl
ran_idle v Lost read d = refl

-- a step, and another behind it
pub ran_then : {A B C : Type 0} (v : A) (w : B) (f : A → B → C) (a b c : Standing) (first : State → Reading A) (second : A → State → Reading B)
    → Ran v a b first → Ran w b c (second v) → Ran (f v w) a c (λ s. go_on (first s) (λ x t. go_on (second x t) (λ y u. Ok (f x y, u))))
ran_then v w f (Going s) (Going t) (Going u) first second h k = ap (λ r. go_on r (λ x t. go_on (second x t) (λ y u. Ok (f x y, u)))) h ∙ ap (λ r. go_on r (λ y u. Ok (f v y, u))) k
ran_then v w f (Going s) (Going t) (GaveUp e) first second h k = ap (λ r. go_on r (λ x t. go_on (second x t) (λ y u. Ok (f x y, u)))) h ∙ ap (λ r. go_on r (λ y u. Ok (f v y, u))) k
ran_then v w f (Going s) (Going t) Lost first second h k = tt
ran_then v w f (Going s) (GaveUp e) c first second h k =
    subst (λ d. Ran (f v w) (Going s) d (λ s. go_on (first s) (λ x t. go_on (second x t) (λ y u. Ok (f x y, u))))) (sym k) (ap (λ r. go_on r (λ x t. go_on (second x t) (λ y u. Ok (f x y, u)))) h)
ran_then v w f (Going s) Lost c first second h k = subst (λ d. Ran (f v w) (Going s) d (λ s. go_on (first s) (λ x t. go_on (second x t) (λ y u. Ok (f x y, u))))) (sym k) tt
ran_then v w f (GaveUp e) b c first second h k = let g : Ran w (GaveUp e) c (second v) = subst (λ d. Ran w d c (second v)) h k in g
ran_then v w f Lost b c first second h k = let g : Ran w Lost c (second v) = subst (λ d. Ran w d c (second v)) h k in g

-- a last step that keeps the state
pub ran_map : {A B : Type 0} (v : A) (f : A → B) (a b : Standing) (first : State → Reading A) → Ran v a b first → Ran (f v) a b (λ s. go_on (first s) (λ x t. Ok (f x, t)))
ran_map v f (Going s) (Going t) first h = ap (λ r. go_on r (λ x t. Ok (f x, t))) h
ran_map v f (Going s) (GaveUp e) first h = ap (λ r. go_on r (λ x t. Ok (f x, t))) h
ran_map v f (Going s) Lost first h = tt
ran_map v f (GaveUp e) b first h = h
ran_map v f Lost b first h = h

-- what was made of the value
pub ran_makes : {A : Type 0} (v w : A) (a b c : Standing) (read : State → Reading A) → Ran v a b read → Makes w v b c → Ran w a c read
ran_makes v w (Going s) (Going t) (Going u) read h k = h ∙ ap (λ x. Ok (x, t)) (sym k.0) ∙ ap (λ x. Ok (w, x)) (sym k.1)
ran_makes v w (Going s) (Going t) (GaveUp e) read h k = absurd k
ran_makes v w (Going s) (Going t) Lost read h k = tt
ran_makes v w (Going s) (GaveUp e) c read h k = subst (λ d. Ran w (Going s) d read) (sym k) h
ran_makes v w (Going s) Lost c read h k = subst (λ d. Ran w (Going s) d read) (sym k) tt
ran_makes v w (GaveUp e) b c read h k = let g : Makes w v (GaveUp e) c = subst (λ d. Makes w v d c) h k in g
ran_makes v w Lost b c read h k = let g : Makes w v Lost c = subst (λ d. Makes w v d c) h k in g

-- a step behind a look, by the state that it left
pub ran_looked : {A : Type 0} (v : A) (taken : Bool) (a b c : Standing) (g : Guard) (inner outer : State → Reading A)
    → Looked taken a b g → Ran v b c inner → ((s : State) → taken ≡ g.takes s.rest → outer s ≡ inner (notes s (g.seen s.rest))) → Ran v a c outer
ran_looked v taken (Going s) b (Going u) g inner outer h k same = same s h.1 ∙ (let q : Ran v (Going (notes s (g.seen s.rest))) (Going u) inner = subst (λ d. Ran v d (Going u) inner) h.0 k in q)
ran_looked v taken (Going s) b (GaveUp e) g inner outer h k same = same s h.1 ∙ (let q : Ran v (Going (notes s (g.seen s.rest))) (GaveUp e) inner = subst (λ d. Ran v d (GaveUp e) inner) h.0 k in q)
ran_looked v taken (Going s) b Lost g inner outer h k same = tt
ran_looked v taken (GaveUp e) b c g inner outer h k same = let q : Ran v (GaveUp e) c inner = subst (λ d. Ran v d c inner) h k in q
ran_looked v taken Lost b c g inner outer h k same = let q : Ran v Lost c inner = subst (λ d. Ran v d c inner) h k in q

module _ (L : Language) (call : L.Production → State → Reading (Made L)) where
  abbrev reader : Part L → State → Reading (Made L)
  reader A = read_with L call A

  pub ran_both : (A B : Part L) (v w : Made L) (a b c : Standing) → Ran v a b (reader A) → Ran w b c (reader B) → Ran (pair v w) a c (reader (A & B))
  ran_both A B v w a b c h k = ran_then v w pair a b c (reader A) (λ _. reader B) h k

  pub ran_keyed : (t : L.Token) (f : Made L → Part L) (v w : Made L) (a b c : Standing) → Ran v a b (read_token L t) → Ran w b c (reader (f v)) → Ran (pair v w) a c (reader (keyed t f))
  ran_keyed t f v w a b c h k = ran_then v w pair a b c (read_token L t) (λ x. reader (f x)) h k

  pub ran_empty : (a : Standing) → Ran nothing a a (reader empty)
  ran_empty (Going s) = refl
  ran_empty (GaveUp e) = refl
  ran_empty Lost = refl

  pub ran_left : (g : Guard) (A B : Part L) (v : Made L) (taken : Bool) (a b c : Standing) → taken ≡ true → Looked taken a b g → Ran v b c (reader A) → Ran v a c (reader (choose g A B))
  ran_left g A B v taken a b c e h k = ran_looked v taken a b c g (reader A) (reader (choose g A B)) h k
      (λ s q. ap (λ x. if x then (reader A (notes s (g.seen s.rest))) else (reader B (notes s (g.seen s.rest)))) (sym q ∙ e))

  pub ran_right : (g : Guard) (A B : Part L) (v : Made L) (taken : Bool) (a b c : Standing) → taken ≡ false → Looked taken a b g → Ran v b c (reader B) → Ran v a c (reader (choose g A B))
  ran_right g A B v taken a b c e h k = ran_looked v taken a b c g (reader B) (reader (choose g A B)) h k
      (λ s q. ap (λ x. if x then (reader A (notes s (g.seen s.rest))) else (reader B (notes s (g.seen s.rest)))) (sym q ∙ e))

  pub ran_made : (f : ℕ → Made L → Made L) (A : Part L) (v : Made L) (a b : Standing) → Ran v a b (reader A) → Ran (f (left_of a) v) a b (reader (made f A))
  ran_made f A v (Going s) (Going t) h = ap (λ r. go_on r (λ x u. Ok (f (length s.rest) x, u))) h
  ran_made f A v (Going s) (GaveUp e) h = ap (λ r. go_on r (λ x u. Ok (f (length s.rest) x, u))) h
  ran_made f A v (Going s) Lost h = tt
  ran_made f A v (GaveUp e) b h = h
  ran_made f A v Lost b h = h

-- the items of a repetition, at most so many

module _ {Node : Type 0} (g : Guard) (item : State → Reading (Value Node)) where
  pub ran_full : (a : Standing) → Ran no_item a a (repeat g item zero)
  ran_full (Going s) = refl
  ran_full (GaveUp e) = refl
  ran_full Lost = refl

  pub ran_none : (count : ℕ) (taken : Bool) (a b : Standing) → taken ≡ false → Looked taken a b g → Ran no_item a b (repeat g item (suc count))
  ran_none count taken (Going s) b e h =
      subst (λ d. Ran no_item (Going s) d (repeat g item (suc count))) (sym h.0)
      (ap (λ x. if x then (go_on (item (notes s (g.seen s.rest))) (λ v t. go_on (repeat g item count t) (λ w u. Ok (an_item v w, u)))) else (Ok (no_item, notes s (g.seen s.rest)))) (sym h.1 ∙ e))
  ran_none count taken (GaveUp r) b e h = h
  ran_none count taken Lost b e h = h

  pub ran_item : (count : ℕ) (v w : Value Node) (taken : Bool) (a b c d : Standing) → taken ≡ true → Looked taken a b g → Ran v b c item → Ran w c d (repeat g item count) → Ran (an_item v w) a d (repeat g item (suc count))
  ran_item count v w taken a b c d e h k l =
      ran_looked (an_item v w) taken a b d g (λ s. go_on (item s) (λ v t. go_on (repeat g item count t) (λ w u. Ok (an_item v w, u)))) (repeat g item (suc count)) h
      (ran_then v w an_item b c d item (λ _. repeat g item count) k l)
      (λ s q. ap (λ x. if x then (go_on (item (notes s (g.seen s.rest))) (λ v t. go_on (repeat g item count t) (λ w u. Ok (an_item v w, u)))) else (Ok (no_item, notes s (g.seen s.rest)))) (sym q ∙ e))
