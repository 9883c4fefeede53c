-- Tokens are apart, or begin with a character, where their shapes show it.
use Rattle.std.proofs.Common.{◌≡◌, ◌≢◌, ℕ, ◌==◌, ◌||◌, Bool, true, false, not, List, [], ◌∷◌, ◌++◌, inl, inr, refl, sym, ap, ap₂, subst, ◌∙◌, append-nil, eqb-true, eq-eqb}
use Rattle.std.specs.List.{list_all}
use Rattle.gx_grammar.specs.Language.{Language}
use Rattle.gx_grammar.specs.First.{AllOf, AreApart, HasHead, Stands, head_passes}
use Rattle.gx_grammar.specs.Tokens.{IsFrontOf}
use Rattle.gx_grammar.specs.Words.{Spelling}
use Rattle.gx_grammar.specs.Apart.{Shape, spelled, headed, shapeless, one_word, HasShape, Spells, OpensWord, words_apart, apart_from, word_begins, words_begin, shapes_apart, all_apart, is, shape_begins}
use Rattle.gx_grammar.proofs.Readings.{is_empty}
use Rattle.gx_grammar.proofs.First.{all_by}
use Rattle.gx_grammar.proofs.Tokens.{and_parts}
use Rattle.gx_grammar.proofs.ByCharacter.{head_front}

not_true : (b : Bool) → not b ≡ true → b ≡ false
not_true true e = absurd (cc)
not_true false e = refl

differs : (c d : ℕ) (b : Bool) → (not (c == d) || b) ≡ true → c ≡ d → b ≡ true
differs c d b e f = go (c == d) (eq f) e
  where
    eq : c ≡ d → (c == d) ≡ true
    eq g = subst (λ k. (c == k) ≡ true) g (eq-eqb c c refl)

    go : (q : Bool) → q ≡ true → (not q || b) ≡ true → b ≡ true
    go true g h = h
    go false g h = absurd (cc)

-- two such words never stand at one place
pub words_never : (x : List ℕ) (first : ℕ → Bool) (y : List ℕ) (second : ℕ → Bool) → words_apart x first y second ≡ true → (p q : List ℕ) → x ++ p ≡ y ++ q → head_passes first p ≡ false → head_passes second q ≡ false → ⊥
words_never [] first [] second e p q f g h = absurd (cc)
words_never [] first (d ∷ y) second e p q f g h = let k : head_passes first p ≡ true = ap (head_passes first) f ∙ e in absurd (cc (g, k))
words_never (c ∷ x) first [] second e p q f g h = let k : head_passes second q ≡ true = sym (ap (head_passes second) f) ∙ e in absurd (cc (h, k))
words_never (c ∷ x) first (d ∷ y) second e p q f g h =
    let k : c ≡ d = cc f in
    let r : x ++ p ≡ y ++ q = cc f in
    words_never x first y second (differs c d (words_apart x first y second) e k) p q r g h

-- where a front of the second goes on with the first, it is a front of the first
words_open : (x : List ℕ) (first : ℕ → Bool) (y : List ℕ) (second : ℕ → Bool) → words_apart x first y second ≡ true → (w z p : List ℕ) → IsFrontOf w y → w ++ z ≡ x ++ p → head_passes first p ≡ false → IsFrontOf w x
words_open x first y second e [] z p o f g = (x, refl)
words_open [] first [] second e (b ∷ w) z p o f g = absurd (let h = o.1 in cc h)
words_open [] first (d ∷ y) second e (b ∷ w) z p o f g =
    let h = o.1 in
    let k : d ≡ b = cc h in
    let m : head_passes first p ≡ true = sym (ap (head_passes first) f) ∙ sym (ap first k) ∙ e in
    absurd (cc (g, m))
words_open (c ∷ x) first [] second e (b ∷ w) z p o f g = absurd (let h = o.1 in cc h)
words_open (c ∷ x) first (d ∷ y) second e (b ∷ w) z p o f g =
    let h = o.1 in
    let k : d ≡ b = cc h in
    let l : y ≡ w ++ o.0 = cc h in
    let m : b ≡ c = cc f in
    let r : w ++ z ≡ x ++ p = cc f in
    let n = words_open x first y second (differs c d (words_apart x first y second) e (sym m ∙ sym k)) w z p (o.0, l) r g in
    (n.0, ap₂ (λ a b. a ∷ b) (sym m) n.1)

-- the same of a word and others

one_never : (s : Spelling) (rs : List Spelling) → apart_from rs s ≡ true → (x p : List ℕ) → x ≡ s.word ++ p → head_passes s.test p ≡ false → Spells rs x → ⊥
one_never s [] e x p f g h = h
one_never s (r ∷ rs) e x p f g (inl h) =
    let a = and_parts (words_apart s.word s.test r.word r.test) (apart_from rs s) e in
    words_never s.word s.test r.word r.test a.0 p h.0 (sym f ∙ h.1) g h.2
one_never s (r ∷ rs) e x p f g (inr h) = let a = and_parts (words_apart s.word s.test r.word r.test) (apart_from rs s) e in one_never s rs a.1 x p f g h

one_open : (s : Spelling) (rs : List Spelling) → apart_from rs s ≡ true → (w z p : List ℕ) → OpensWord rs w → w ++ z ≡ s.word ++ p → head_passes s.test p ≡ false → IsFrontOf w s.word
one_open s [] e w z p o f g = absurd o
one_open s (r ∷ rs) e w z p (inl o) f g =
    let a = and_parts (words_apart s.word s.test r.word r.test) (apart_from rs s) e in
    words_open s.word s.test r.word r.test a.0 w z p o f g
one_open s (r ∷ rs) e w z p (inr o) f g = let a = and_parts (words_apart s.word s.test r.word r.test) (apart_from rs s) e in one_open s rs a.1 w z p o f g

spells_never : (ss rs : List Spelling) → list_all (apart_from rs) ss ≡ true → (x : List ℕ) → Spells ss x → Spells rs x → ⊥
spells_never [] rs e x h k = h
spells_never (s ∷ ss) rs e x (inl h) k = let a = and_parts (apart_from rs s) (list_all (apart_from rs) ss) e in one_never s rs a.0 x h.0 h.1 h.2 k
spells_never (s ∷ ss) rs e x (inr h) k = let a = and_parts (apart_from rs s) (list_all (apart_from rs) ss) e in spells_never ss rs a.1 x h k

spells_open : (ss rs : List Spelling) → list_all (apart_from rs) ss ≡ true → (w z : List ℕ) → OpensWord rs w → Spells ss (w ++ z) → OpensWord ss w
spells_open [] rs e w z o h = h
spells_open (s ∷ ss) rs e w z o (inl h) = let a = and_parts (apart_from rs s) (list_all (apart_from rs) ss) e in inl (one_open s rs a.0 w z h.0 o h.1 h.2)
spells_open (s ∷ ss) rs e w z o (inr h) = let a = and_parts (apart_from rs s) (list_all (apart_from rs) ss) e in inr (spells_open ss rs a.1 w z o h)

-- with what words begin

word_head : (test : ℕ → Bool) (b : Bool) (word : List ℕ) → word_begins test b word ≡ true → (x y : List ℕ) → x ≡ word ++ y → (x ≢ []) × (head_passes test x ≡ b)
word_head test true [] e x y f = absurd (cc)
word_head test false [] e x y f = absurd (cc)
word_head test true (c ∷ word) e x y f = ((λ n. absurd (cc (n, f))), ap (head_passes test) f ∙ e)
word_head test false (c ∷ word) e x y f = ((λ n. absurd (cc (n, f))), ap (head_passes test) f ∙ not_true (test c) e)

front_head : (test : ℕ → Bool) (b : Bool) (word : List ℕ) → word_begins test b word ≡ true → (x : List ℕ) → IsFrontOf x word → x ≢ [] → head_passes test x ≡ b
front_head test b word e [] o n = absurd (n refl)
front_head test b word e (d ∷ x) o n = sym (ap (head_passes test) o.1) ∙ (word_head test b word e word [] (sym (append-nil word))).1

spells_head : (test : ℕ → Bool) (b : Bool) (ss : List Spelling) → list_all (λ s. word_begins test b s.word) ss ≡ true → (x : List ℕ) → Spells ss x → (x ≢ []) × (head_passes test x ≡ b)
spells_head test b [] e x h = absurd h
spells_head test b (s ∷ ss) e x (inl h) = let a = and_parts (word_begins test b s.word) (list_all (λ s. word_begins test b s.word) ss) e in word_head test b s.word a.0 x h.0 h.1
spells_head test b (s ∷ ss) e x (inr h) = let a = and_parts (word_begins test b s.word) (list_all (λ s. word_begins test b s.word) ss) e in spells_head test b ss a.1 x h

opens_head : (test : ℕ → Bool) (b : Bool) (ss : List Spelling) → list_all (λ s. word_begins test b s.word) ss ≡ true → (x : List ℕ) → OpensWord ss x → x ≢ [] → head_passes test x ≡ b
opens_head test b [] e x o n = absurd o
opens_head test b (s ∷ ss) e x (inl o) n = let a = and_parts (word_begins test b s.word) (list_all (λ s. word_begins test b s.word) ss) e in front_head test b s.word a.0 x o n
opens_head test b (s ∷ ss) e x (inr o) n = let a = and_parts (word_begins test b s.word) (list_all (λ s. word_begins test b s.word) ss) e in opens_head test b ss a.1 x o n

module _ (L : Language) where
  -- the shape of one word
  pub word_shape : (t : L.Token) (word : List ℕ) (test : ℕ → Bool)
      → ((x : List ℕ) → Stands L.derives L.faults t x → (y : List ℕ) × (x ≡ word ++ y) × (head_passes test y ≡ false)) × ((x : List ℕ) → L.opens t x → IsFrontOf x word) × ((x : List ℕ) → IsFrontOf x word → L.opens t x)
      → HasShape L t (one_word word test)
  word_shape t word test h = ((λ x s. inl (h.0 x s)), (λ x o. inl (h.1 x o)), opened)
    where
      opened : (x : List ℕ) → OpensWord (record { word = word; test = test } ∷ []) x → L.opens t x
      opened x (inl o) = h.2 x o
      opened x (inr o) = absurd o

  spelled_head : (t : L.Token) (ss : List Spelling) (test : ℕ → Bool) (b : Bool) → HasShape L t (spelled ss) → words_begin test b (spelled ss) ≡ true → HasHead L test b t
  spelled_head t ss test b h e = record { stands = λ x s. spells_head test b ss e x (h.0 x s); opened = λ x o n. opens_head test b ss e x (h.1 x o) n }

  headed_head : (t : L.Token) (test : ℕ → Bool) → HasShape L t (headed test) → HasHead L test true t
  headed_head t test h = record { stands = h.0; opened = h.1 }

  pub apart_by_heads : (test : ℕ → Bool) (b c : Bool) (t u : L.Token) → (b ≡ c → ⊥) → HasHead L test b t → HasHead L test c u → AreApart L t u
  apart_by_heads test b c t u n ht hu = record {
    never = λ x d e. n (sym (ht.stands x d).1 ∙ (hu.stands x e).1);
    opening = λ x z o d. elim (is_empty x) [
      | inl e ↦ inl e
      | inr k ↦ absurd (n (sym (ht.stands (x ++ z) d).1 ∙ head_front test x z k ∙ hu.opened x o k))
    ];
  }

  spelled_apart : (t u : L.Token) (ss rs : List Spelling) → HasShape L t (spelled ss) → HasShape L u (spelled rs) → list_all (apart_from rs) ss ≡ true → AreApart L t u
  spelled_apart t u ss rs ht hu e = record {
    never = λ w d f. spells_never ss rs e w (ht.0 w d) (hu.0 w f);
    opening = λ w z o d. inr (ht.2 w (spells_open ss rs e w z (hu.1 w o) (ht.0 (w ++ z) d)));
  }

  spelled_headed : (t u : L.Token) (ss : List Spelling) (test : ℕ → Bool) → HasShape L t (spelled ss) → HasShape L u (headed test) → words_begin test false (spelled ss) ≡ true → AreApart L t u
  spelled_headed t u ss test ht hu e = apart_by_heads test false true t u (λ n. absurd (cc)) (spelled_head t ss test false ht e) (headed_head u test hu)

  headed_spelled : (t u : L.Token) (test : ℕ → Bool) (rs : List Spelling) → HasShape L t (headed test) → HasShape L u (spelled rs) → words_begin test false (spelled rs) ≡ true → AreApart L t u
  headed_spelled t u test rs ht hu e = apart_by_heads test true false t u (λ n. absurd (cc)) (headed_head t test ht) (spelled_head u rs test false hu e)

  pub shapes_are_apart : (t u : L.Token) (s r : Shape) → HasShape L t s → HasShape L u r → shapes_apart s r ≡ true → AreApart L t u
  shapes_are_apart t u (spelled ss) (spelled rs) ht hu e = spelled_apart t u ss rs ht hu e
  shapes_are_apart t u (spelled ss) (headed test) ht hu e = spelled_headed t u ss test ht hu e
  shapes_are_apart t u (spelled ss) shapeless ht hu e = absurd (cc)
  shapes_are_apart t u (headed test) (spelled rs) ht hu e = headed_spelled t u test rs ht hu e
  shapes_are_apart t u (headed test) (headed other) ht hu e = absurd (cc)
  shapes_are_apart t u (headed test) shapeless ht hu e = absurd (cc)
  shapes_are_apart t u shapeless r ht hu e = absurd (cc)

  module _ (shape : L.Token → Shape) (shaped : (t : L.Token) → HasShape L t (shape t)) where
    -- Tokens whose shapes are apart are apart.
    pub computed_apart : (ts us : List L.Token) → all_apart shape ts us ≡ true → AllOf (λ u. AllOf (λ t. AreApart L t u) ts) us
    computed_apart ts us e =
        all_by (λ u. AllOf (λ t. AreApart L t u) ts) (λ u. list_all (λ t. shapes_apart (shape t) (shape u)) ts)
        (λ u f. all_by (λ t. AreApart L t u) (λ t. shapes_apart (shape t) (shape u)) (λ t g. shapes_are_apart t u (shape t) (shape u) (shaped t) (shaped u) g) ts f) us e

    heads_by_shape : (k : ℕ) (b : Bool) (t : L.Token) (s : Shape) → HasShape L t s → shape_begins k b s ≡ true → HasHead L (is k) b t
    heads_by_shape k true t (spelled ss) h e = spelled_head t ss (is k) true h e
    heads_by_shape k false t (spelled ss) h e = spelled_head t ss (is k) false h e
    heads_by_shape k true t (headed test) h e = absurd (cc)
    heads_by_shape k false t (headed test) h e = record {
      stands = λ x s. (let r = h.0 x s in (r.0, other x r.1));
      opened = λ x o n. other x (h.1 x o n);
    }
      where
        differ : (c : ℕ) (b : Bool) → test c ≡ true → (c == k) ≡ b → b ≡ false
        differ c true f g = let q : test c ≡ test k = ap test (eqb-true c k g) in let r : test k ≡ false = not_true (test k) e in absurd (cc (f, q, r))
        differ c false f g = refl

        other : (x : List ℕ) → head_passes test x ≡ true → head_passes (is k) x ≡ false
        other [] f = refl
        other (c ∷ x) f = differ c (c == k) f refl
    heads_by_shape k true t shapeless h e = absurd (cc)
    heads_by_shape k false t shapeless h e = absurd (cc)

    -- Tokens whose shapes begin with the character, or with others, do so.
    pub computed_heads : (k : ℕ) (b : Bool) (ts : List L.Token) → list_all (λ t. shape_begins k b (shape t)) ts ≡ true → AllOf (HasHead L (is k) b) ts
    computed_heads k b ts e = all_by (HasHead L (is k) b) (λ t. shape_begins k b (shape t)) (λ t f. heads_by_shape k b t (shape t) (shaped t) f) ts e

    words_by_shape : (test : ℕ → Bool) (b : Bool) (t : L.Token) (s : Shape) → HasShape L t s → words_begin test b s ≡ true → HasHead L test b t
    words_by_shape test b t (spelled ss) h e = spelled_head t ss test b h e
    words_by_shape test b t (headed other) h e = absurd (cc)
    words_by_shape test b t shapeless h e = absurd (cc)

    -- Tokens that are words begin with characters that pass the test, or fail it, where their spellings do.
    pub computed_words : (test : ℕ → Bool) (b : Bool) (ts : List L.Token) → list_all (λ t. words_begin test b (shape t)) ts ≡ true → AllOf (HasHead L test b) ts
    computed_words test b ts e = all_by (HasHead L test b) (λ t. words_begin test b (shape t)) (λ t f. words_by_shape test b t (shape t) (shaped t) f) ts e
