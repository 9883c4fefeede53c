use Rattle.std.proofs.Common.{◌≡◌, ℕ, List, [], ◌++◌, refl, sym, ap, subst, ◌∙◌, append_assoc}
use Rattle.gx_grammar.specs.Grammar.{◌&◌, keyed, many}
use Rattle.gx_grammar.specs.Language.{Language, Part}
use Rattle.gx_grammar.specs.Opening.{Opens, open_end, open_first, open_second, open_behind, open_left, open_right, open_item, open_later, open_rule, open_made}
use Rattle.gx_grammar.specs.Halting.{Halts, halt_token, halt_first, halt_second, halt_key, halt_behind, halt_left, halt_right, halt_item, halt_later, halt_rule, halt_made}
use Rattle.gx_grammar.specs.Laws.{LawfulTokens}
use Rattle.gx_grammar.proofs.Derived.{suffix, cut}

module _ (L : Language) (lawful : LawfulTokens L) where
  -- All in front of a fault opens the grammar.
  pub opens_front : {A : Part L} {x z : List ℕ} {code : ℕ} → Halts L A x code z → (a : List ℕ) × (x ≡ a ++ z) × Opens L A a
  opens_front (halt_token h) = ([], refl, open_end)
  opens_front (halt_first h) = let r = opens_front h in (r.0, r.1, open_first r.2)
  opens_front (halt_second {A = A} {B = B} {v = v} {x = x} {y = y} {z = z} d h) = behind (suffix L lawful d) (opens_front h)
    where
      behind : (a : List ℕ) × (x ≡ a ++ y) → (b : List ℕ) × (y ≡ b ++ z) × Opens L B b → (c : List ℕ) × (x ≡ c ++ z) × Opens L (A & B) c
      behind s r =
          let w : x ≡ (s.0 ++ r.0) ++ z = s.1 ∙ ap (λ q. s.0 ++ q) r.1 ∙ sym (append_assoc s.0 r.0 z) in
          (s.0 ++ r.0, w, open_second (cut L lawful d (s.0 ++ r.0) r.0 z w r.1).1 r.2)
  opens_front (halt_key h) = ([], refl, open_end)
  opens_front (halt_behind {t = t} {f = f} {v = v} {x = x} {y = y} {z = z} d h) = behind (lawful.ends t v x y d) (opens_front h)
    where
      behind : (a : List ℕ) × (x ≡ a ++ y) → (b : List ℕ) × (y ≡ b ++ z) × Opens L (f v) b → (c : List ℕ) × (x ≡ c ++ z) × Opens L (keyed t f) c
      behind s r =
          let w : x ≡ (s.0 ++ r.0) ++ z = s.1 ∙ ap (λ q. s.0 ++ q) r.1 ∙ sym (append_assoc s.0 r.0 z) in
          (s.0 ++ r.0, w, open_behind (lawful.cut t v (s.0 ++ r.0) r.0 z (subst (λ q. L.derives t v q (r.0 ++ z)) w (subst (λ q. L.derives t v x q) r.1 d))) r.2)
  opens_front (halt_left h) = let r = opens_front h in (r.0, r.1, open_left r.2)
  opens_front (halt_right h) = let r = opens_front h in (r.0, r.1, open_right r.2)
  opens_front (halt_item h) = let r = opens_front h in (r.0, r.1, open_item r.2)
  opens_front (halt_later {g = g} {A = A} {v = v} {x = x} {y = y} {z = z} d h) = behind (suffix L lawful d) (opens_front h)
    where
      behind : (a : List ℕ) × (x ≡ a ++ y) → (b : List ℕ) × (y ≡ b ++ z) × Opens L (many g A) b → (c : List ℕ) × (x ≡ c ++ z) × Opens L (many g A) c
      behind s r =
          let w : x ≡ (s.0 ++ r.0) ++ z = s.1 ∙ ap (λ q. s.0 ++ q) r.1 ∙ sym (append_assoc s.0 r.0 z) in
          (s.0 ++ r.0, w, open_later (cut L lawful d (s.0 ++ r.0) r.0 z w r.1).1 r.2)
  opens_front (halt_rule h) = let r = opens_front h in (r.0, r.1, open_rule r.2)
  opens_front (halt_made h) = let r = opens_front h in (r.0, r.1, open_made r.2)
