use Rattle.std.proofs.Common.{◌≡◌, ℕ, List, length, inl, refl, sym, ap, ap₂, subst, ◌∙◌, Some}
use Rattle.gx_grammar.specs.Value.{pair, an_item}
use Rattle.gx_grammar.specs.Grammar.{many}
use Rattle.gx_grammar.specs.Language.{Language, Part, Made}
use Rattle.gx_grammar.specs.Derivation.{Derives, of_token, of_empty, of_both, of_keyed, of_left, of_right, of_none, of_item, of_rule, of_made}
use Rattle.gx_grammar.specs.Decision.{Texts, Until, BeforeCut, Decides}
use Rattle.gx_grammar.specs.Text.{AllDecide}
use Rattle.gx_grammar.specs.Laws.{LawfulTokens}

pub same_some : {X : Type 0} (p q : X × List ℕ) → Some p ≡ Some q → (p.0 ≡ q.0) × (p.1 ≡ q.1)
same_some p q e = let f : p ≡ q = cc in (ap (λ r. r.0) f, ap (λ r. r.1) f)

module _ (L : Language) (lawful : LawfulTokens L) (decided : AllDecide L) where
  one_token : (t : L.Token) (v w : Made L) (x y z : List ℕ) → L.derives t v x y → L.derives t w x z → (v ≡ w) × (y ≡ z)
  one_token t v w x y z d e = same_some (v, y) (w, z) (sym (lawful.complete t v x y d) ∙ lawful.complete t w x z e)

  -- A text has at most one value, and one end of it.
  pub unique : {A : Part L} {v w : Made L} {x y z : List ℕ} → Derives L A v x y → Derives L A w x z → (K C : Texts) → Decides L A K C → K y → K z → (v ≡ w) × (y ≡ z)
  unique (of_token {t = t} {v = v} {x = x} {y = y} d) (of_token {v = w} {y = z} e) K C s k l = one_token t v w x y z d e
  unique of_empty of_empty K C s k l = (refl, refl)
  unique (of_both {A = A} {B = B} {v = a} {w = b} {y = m} d f) (of_both {v = a'} {w = b'} {x = x} {y = m'} {z = z} e g) K C s k l =
      let first = unique d e (Until L B K) (BeforeCut L B C) s.0 (inl (record { value = b; rest = _; derived = f; behind = k })) (inl (record { value = b'; rest = z; derived = g; behind = l })) in
      let second = unique f (subst (λ q. Derives L B b' q z) (sym first.1) g) K C s.1 k l in
      (ap₂ pair first.0 second.0, second.1)
  unique (of_keyed {t = t} {f = h} {v = a} {y = m} d f) (of_keyed {v = a'} {w = b'} {x = x} {y = m'} {z = z} e g) K C s k l =
      let first = one_token t a a' x m m' d e in
      let g' : Derives L (h a) b' m z = subst (λ q. Derives L (h a) b' q z) (sym first.1) (subst (λ q. Derives L (h q) b' m' z) (sym first.0) g) in
      let second = unique f g' K C (s a) k l in
      (ap₂ pair first.0 second.0, second.1)
  unique (of_left d) (of_left e) K C s k l = unique d e K C s.1 k l
  unique (of_left {g = g} {v = v} {x = x} {y = y} d) (of_right {v = w} {y = z} e) K C s k l = let t = s.0.left v x y d k in let f = s.0.right w x z e l in absurd (cc (t, f))
  unique (of_right {g = g} {v = v} {x = x} {y = y} d) (of_left {v = w} {y = z} e) K C s k l = let t = s.0.left w x z e l in let f = s.0.right v x y d k in absurd (cc (t, f))
  unique (of_right d) (of_right e) K C s k l = unique d e K C s.2 k l
  unique of_none of_none K C s k l = (refl, refl)
  unique (of_none {x = x}) (of_item {v = v} {w = w} {y = m} {z = z} d e) K C s k l = let f = s.0.stop x k in let t = s.0.item v x m d (inl (record { value = w; rest = z; derived = e; behind = l })) in absurd (cc (t, f))
  unique (of_item {v = v} {w = w} {y = m} {z = z} d e) (of_none {x = x}) K C s k l = let f = s.0.stop x l in let t = s.0.item v x m d (inl (record { value = w; rest = z; derived = e; behind = k })) in absurd (cc (t, f))
  unique (of_item {g = h} {A = A} {v = a} {w = b} {y = m} d f) (of_item {v = a'} {w = b'} {x = x} {y = m'} {z = z} e g) K C s k l =
      let first = unique d e (Until L (many h A) K) (BeforeCut L (many h A) C) s.2 (inl (record { value = b; rest = _; derived = f; behind = k })) (inl (record { value = b'; rest = z; derived = g; behind = l })) in
      let second = unique f (subst (λ q. Derives L (many h A) b' q z) (sym first.1) g) K C s k l in
      (ap₂ an_item first.0 second.0, second.1)
  unique (of_rule {p = p} {y = y} d) (of_rule {y = z} e) K C s k l = unique d e (L.follows p) (L.follows_cut p) (decided p) (s.0 y k) (s.0 z l)
  unique (of_made {f = h} {x = x} d) (of_made e) K C s k l = let r = unique d e K C s k l in (ap (h (length x)) r.0, r.1)
