use Rattle.std.proofs.Common.{◌≡◌, ℕ, List, [], ◌∷◌, ◌++◌, ◌≤◌, ◌⊎◌, inl, inr, length, refl, sym, ap, subst, ◌∙◌, append_assoc, append-nil, length-append, drop, arith}
use Rattle.std.proofs.lemmas.List.{append_cancel_right}
use Rattle.gx_grammar.specs.Value.{nothing, pair, no_item, an_item}
use Rattle.gx_grammar.specs.Grammar.{empty, ◌&◌, keyed, many}
use Rattle.gx_grammar.specs.Language.{Language, Part, Made}
use Rattle.gx_grammar.specs.Derivation.{Derives, of_token, of_empty, of_both, of_keyed, of_left, of_right, of_none, of_item, of_rule, of_made}
use Rattle.gx_grammar.specs.Opening.{Opens, open_end, open_token, open_first, open_second, open_key, open_behind, open_left, open_right, open_item, open_later, open_rule, open_made}
use Rattle.gx_grammar.specs.Laws.{LawfulTokens}

nothing_in : (x z : List ℕ) → length (x ++ z) ≤ length z → x ≡ []
nothing_in [] z h = refl
nothing_in (c ∷ x) z h = absurd (omega (arith, length-append (c ∷ x) z))

module _ (L : Language) (lawful : LawfulTokens L) where
  -- what is left is the end of the text
  pub suffix : {A : Part L} {v : Made L} {x y : List ℕ} → Derives L A v x y → (a : List ℕ) × (x ≡ a ++ y)
  suffix (of_token {t = t} {v = v} {x = x} {y = y} d) = lawful.ends t v x y d
  suffix of_empty = ([], refl)
  suffix (of_both {x = x} {y = y} {z = z} d e) = joined (suffix d) (suffix e)
    where
      joined : (a : List ℕ) × (x ≡ a ++ y) → (b : List ℕ) × (y ≡ b ++ z) → (c : List ℕ) × (x ≡ c ++ z)
      joined p q = (p.0 ++ q.0, p.1 ∙ ap (λ w. p.0 ++ w) q.1 ∙ sym (append_assoc p.0 q.0 z))
  suffix (of_keyed {t = t} {v = v} {x = x} {y = y} {z = z} d e) = joined (lawful.ends t v x y d) (suffix e)
    where
      joined : (a : List ℕ) × (x ≡ a ++ y) → (b : List ℕ) × (y ≡ b ++ z) → (c : List ℕ) × (x ≡ c ++ z)
      joined p q = (p.0 ++ q.0, p.1 ∙ ap (λ w. p.0 ++ w) q.1 ∙ sym (append_assoc p.0 q.0 z))
  suffix (of_left d) = suffix d
  suffix (of_right d) = suffix d
  suffix of_none = ([], refl)
  suffix (of_item {x = x} {y = y} {z = z} d e) = joined (suffix d) (suffix e)
    where
      joined : (a : List ℕ) × (x ≡ a ++ y) → (b : List ℕ) × (y ≡ b ++ z) → (c : List ℕ) × (x ≡ c ++ z)
      joined p q = (p.0 ++ q.0, p.1 ∙ ap (λ w. p.0 ++ w) q.1 ∙ sym (append_assoc p.0 q.0 z))
  suffix (of_rule d) = suffix d
  suffix (of_made d) = suffix d

  -- a text that is derived whole opens the grammar
  pub whole : {A : Part L} {v : Made L} {x y : List ℕ} → Derives L A v x y → y ≡ [] → Opens L A x
  whole (of_token {t = t} {v = v} {x = x} {y = y} d) e = open_token (lawful.fronts t v x y [] (subst (λ w. L.derives t v w y) (sym (append-nil x)) d) (subst (λ w. length w ≤ 0) (sym e) (omega arith)))
  whole (of_empty {x = x}) e = subst (λ w. Opens L empty w) (sym e) open_end
  whole (of_both d f) e = open_second d (whole f e)
  whole (of_keyed d f) e = open_behind d (whole f e)
  whole (of_left d) e = open_left (whole d e)
  whole (of_right d) e = open_right (whole d e)
  whole (of_none {g = g} {A = A} {x = x}) e = subst (λ w. Opens L (many g A) w) (sym e) open_end
  whole (of_item d f) e = open_later d (whole f e)
  whole (of_rule d) e = open_rule (whole d e)
  whole (of_made d) e = open_made (whole d e)

  -- what follows may be cut off
  pub cut : {A : Part L} {v : Made L} {p q : List ℕ} → Derives L A v p q → (x y z : List ℕ) → p ≡ x ++ z → q ≡ y ++ z → (w : Made L) × Derives L A w x y
  cut (of_token {t = t} {v = v} {x = p} {y = q} d) x y z e f = (v, of_token (lawful.cut t v x y z (subst (λ w. L.derives t v (x ++ z) w) f (subst (λ w. L.derives t v w q) e d))))
  cut of_empty x y z e f = (nothing, subst (λ w. Derives L empty nothing x w) (append_cancel_right x y z (sym e ∙ f)) of_empty)
  cut (of_both {A = A} {B = B} {x = p} {y = m} {z = q} d g) x y z e f = second (suffix g) (λ w h. cut d x w z e h) (λ w h. cut g w y z h f)
    where
      second : (b : List ℕ) × (m ≡ b ++ q) → ((w : List ℕ) → m ≡ w ++ z → (u : Made L) × Derives L A u x w) → ((w : List ℕ) → m ≡ w ++ z → (u : Made L) × Derives L B u w y) → (u : Made L) × Derives L (A & B) u x y
      second s left right =
          let h : m ≡ (s.0 ++ y) ++ z = s.1 ∙ ap (λ w. s.0 ++ w) f ∙ sym (append_assoc s.0 y z) in
          let l = left (s.0 ++ y) h in
          let r = right (s.0 ++ y) h in
          (pair l.0 r.0, of_both l.1 r.1)
  cut (of_keyed {t = t} {f = k} {v = v} {x = p} {y = m} {z = q} d g) x y z e f = second (suffix g) (λ w h. cut g w y z h f)
    where
      second : (b : List ℕ) × (m ≡ b ++ q) → ((w : List ℕ) → m ≡ w ++ z → (u : Made L) × Derives L (k v) u w y) → (u : Made L) × Derives L (keyed t k) u x y
      second s right =
          let h : m ≡ (s.0 ++ y) ++ z = s.1 ∙ ap (λ w. s.0 ++ w) f ∙ sym (append_assoc s.0 y z) in
          let r = right (s.0 ++ y) h in
          (pair v r.0, of_keyed (lawful.cut t v x (s.0 ++ y) z (subst (λ w. L.derives t v (x ++ z) w) h (subst (λ w. L.derives t v w m) e d))) r.1)
  cut (of_left d) x y z e f = let r = cut d x y z e f in (r.0, of_left r.1)
  cut (of_right d) x y z e f = let r = cut d x y z e f in (r.0, of_right r.1)
  cut (of_none {g = g} {A = A}) x y z e f = (no_item, subst (λ w. Derives L (many g A) no_item x w) (append_cancel_right x y z (sym e ∙ f)) of_none)
  cut (of_item {g = k} {A = A} {x = p} {y = m} {z = q} d g) x y z e f = second (suffix g) (λ w h. cut d x w z e h) (λ w h. cut g w y z h f)
    where
      second : (b : List ℕ) × (m ≡ b ++ q) → ((w : List ℕ) → m ≡ w ++ z → (u : Made L) × Derives L A u x w) → ((w : List ℕ) → m ≡ w ++ z → (u : Made L) × Derives L (many k A) u w y) → (u : Made L) × Derives L (many k A) u x y
      second s left right =
          let h : m ≡ (s.0 ++ y) ++ z = s.1 ∙ ap (λ w. s.0 ++ w) f ∙ sym (append_assoc s.0 y z) in
          let l = left (s.0 ++ y) h in
          let r = right (s.0 ++ y) h in
          (an_item l.0 r.0, of_item l.1 r.1)
  cut (of_rule d) x y z e f = let r = cut d x y z e f in (r.0, of_rule r.1)
  cut (of_made {f = make} d) x y z e f = let r = cut d x y z e f in (make (length x) r.0, of_made r.1)

  -- whatever comes behind a text, the grammar derives its front, or the text opens the grammar
  pub goes_on : {A : Part L} {v : Made L} {x y : List ℕ} → Derives L A v x y → (z : List ℕ) → ((w : Made L) × Derives L A w (x ++ z) (y ++ z)) ⊎ Opens L A x
  goes_on (of_token {t = t} {v = v} {x = x} {y = y} d) z = elim (lawful.goes_on t v x y z d) [ inl e ↦ inl (v, of_token e) | inr o ↦ inr (open_token o) ]
  goes_on of_empty z = inl (nothing, of_empty)
  goes_on (of_both d e) z = elim (goes_on d z) [ inl r ↦ elim (goes_on e z) [ inl q ↦ inl (pair r.0 q.0, of_both r.1 q.1) | inr o ↦ inr (open_second d o) ] | inr o ↦ inr (open_first o) ]
  goes_on (of_keyed {t = t} {v = v} {x = x} {y = y} d e) z = elim (lawful.goes_on t v x y z d) [ inl r ↦ elim (goes_on e z) [ inl q ↦ inl (pair v q.0, of_keyed r q.1) | inr o ↦ inr (open_behind d o) ] | inr o ↦ inr (open_key o) ]
  goes_on (of_left d) z = elim (goes_on d z) [ inl r ↦ inl (r.0, of_left r.1) | inr o ↦ inr (open_left o) ]
  goes_on (of_right d) z = elim (goes_on d z) [ inl r ↦ inl (r.0, of_right r.1) | inr o ↦ inr (open_right o) ]
  goes_on of_none z = inl (no_item, of_none)
  goes_on (of_item d e) z = elim (goes_on d z) [ inl r ↦ elim (goes_on e z) [ inl q ↦ inl (an_item r.0 q.0, of_item r.1 q.1) | inr o ↦ inr (open_later d o) ] | inr o ↦ inr (open_item o) ]
  goes_on (of_rule d) z = elim (goes_on d z) [ inl r ↦ inl (r.0, of_rule r.1) | inr o ↦ inr (open_rule o) ]
  goes_on (of_made {f = make} {x = x} d) z = elim (goes_on d z) [ inl r ↦ inl (make (length (x ++ z)) r.0, of_made r.1) | inr o ↦ inr (open_made o) ]

  -- a front of a text ends in what was derived from it, or behind that
  parts : {A : Part L} {v : Made L} {p m : List ℕ} → Derives L A v p m → (x z : List ℕ) → p ≡ x ++ z → (length m ≤ length z) ⊎ ((w : List ℕ) × (m ≡ w ++ z))
  parts {p = p} {m = m} d x z e = let a = suffix d in go a.0 x (sym a.1 ∙ e)
    where
      go : (a x : List ℕ) → a ++ m ≡ x ++ z → (length m ≤ length z) ⊎ ((w : List ℕ) × (m ≡ w ++ z))
      go [] x f = inr (x, f)
      go (c ∷ a) [] f = inl (omega (arith, ap length f, length-append (c ∷ a) m))
      go (c ∷ a) (b ∷ x) f = go a x (ap (drop 1) f)

  -- each front of what is derived opens the grammar
  pub front_opens : {A : Part L} {v : Made L} {p y : List ℕ} → Derives L A v p y → (x z : List ℕ) → p ≡ x ++ z → length y ≤ length z → Opens L A x
  front_opens (of_token {t = t} {v = v} {x = p} {y = y} d) x z e h = open_token (lawful.fronts t v x y z (subst (λ w. L.derives t v w y) e d) h)
  front_opens (of_empty {x = p}) x z e h = subst (λ w. Opens L empty w) (sym (nothing_in x z (subst (λ w. length w ≤ length z) e h))) open_end
  front_opens (of_both {A = A} {B = B} {x = p} {y = m} {z = q} d f) x z e h =
      elim (parts d x z e) [ inl k ↦ open_first (front_opens d x z e k) | inr k ↦ open_second (cut d x k.0 z e k.1).1 (front_opens f k.0 z k.1 h) ]
  front_opens (of_keyed {t = t} {v = v} {x = p} {y = m} {z = q} d f) x z e h =
      elim (parts (of_token d) x z e) [
        | inl k ↦ open_key (lawful.fronts t v x m z (subst (λ w. L.derives t v w m) e d) k)
        | inr k ↦ open_behind (lawful.cut t v x k.0 z (subst (λ w. L.derives t v (x ++ z) w) k.1 (subst (λ w. L.derives t v w m) e d))) (front_opens f k.0 z k.1 h)
      ]
  front_opens (of_left d) x z e h = open_left (front_opens d x z e h)
  front_opens (of_right d) x z e h = open_right (front_opens d x z e h)
  front_opens (of_none {g = g} {A = A} {x = p}) x z e h = subst (λ w. Opens L (many g A) w) (sym (nothing_in x z (subst (λ w. length w ≤ length z) e h))) open_end
  front_opens (of_item {y = m} d f) x z e h =
      elim (parts d x z e) [ inl k ↦ open_item (front_opens d x z e k) | inr k ↦ open_later (cut d x k.0 z e k.1).1 (front_opens f k.0 z k.1 h) ]
  front_opens (of_rule d) x z e h = open_rule (front_opens d x z e h)
  front_opens (of_made d) x z e h = open_made (front_opens d x z e h)
