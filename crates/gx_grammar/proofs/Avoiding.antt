-- Which tokens never stand where a grammar begins.
use Rattle.std.proofs.Common.{◌≡◌, ℕ, true, List, [], ◌∷◌, ◌++◌, ◌⊎◌, inl, inr, refl, sym, subst, ◌∙◌, Option}
use Rattle.gx_grammar.specs.Grammar.{token, empty, ◌&◌, made}
use Rattle.gx_grammar.specs.Language.{Language, Part, Made}
use Rattle.gx_grammar.specs.Derivation.{Derives, of_token, of_empty, of_both, of_made}
use Rattle.gx_grammar.specs.Opening.{Opens, open_end, open_token, open_first, open_second, open_made}
use Rattle.gx_grammar.specs.Halting.{Halts, halt_token, halt_first, halt_second, halt_made}
use Rattle.gx_grammar.specs.Decision.{Texts, Until, BeforeCut, Decides}
use Rattle.gx_grammar.specs.Laws.{LawfulTokens}
use Rattle.gx_grammar.specs.First.{IsIn, AllOf, StandsFirst, EndsOrStarts, BeginsWith, begins_empty, begins_opening, begins_token, Fronts, first_of, first_behind, AreApart, AreFronts, IsSorted}
use Rattle.gx_grammar.specs.Tokens.{LawfulToken}
use Rattle.gx_grammar.specs.Joined.{AreJoined, OpensJoined}
use Rattle.gx_grammar.specs.Avoiding.{Avoids}
use Rattle.gx_grammar.specs.Leftmost.{Leftmost, leftmost_here, leftmost_made, leftmost_both}
use Rattle.gx_grammar.proofs.First.{starts, halting, begins, first_stands, until_starts, before_begins}
use Rattle.gx_grammar.proofs.ByTokens.{apart_avoids}
use Rattle.gx_grammar.proofs.Sorted.{decides_less, sorted_decides}
use Rattle.gx_grammar.proofs.Unique.{same_some}

-- Two tokens as one are avoided behind the first of them, where the second is.
module _ {V : Type 0} (first second : V → List ℕ → List ℕ → Type 0) (opens_first opens_second : List ℕ → Type 0) (scan : List ℕ → Option (V × List ℕ)) (seen : List ℕ → ℕ) (faults : List ℕ → Option ℕ) (lawful : LawfulToken first opens_first scan seen faults) (value : V → V → V) where
  pub joined_never : (K : Texts) → ((y z : List ℕ) (v : V) → K y → second v y z → ⊥) → (x y z : List ℕ) (v w : V) → first v x y → K y → AreJoined first second value w x z → ⊥
  joined_never K never x y z v w d k j = let e = same_some (v, y) (j.front, j.between) (sym (lawful.complete v x y d) ∙ lawful.complete j.front x j.between j.begins) in never j.between z j.back (subst K e.1 k) j.ends

  pub joined_opening : (C : Texts) → opens_second [] → ((y z w : List ℕ) (v : V) → C y → second v (y ++ z) w → (y ≡ []) ⊎ opens_second y) → (x y z r : List ℕ) (v w : V) → first v x y → C y → AreJoined first second value w (x ++ z) r → OpensJoined first opens_first opens_second x
  joined_opening C none opening x y z r v w d c j = elim (lawful.goes_on v x y z d) [
    | inr o ↦ inl o
    | inl q ↦ (let e = same_some (v, y ++ z) (j.front, j.between) (sym (lawful.complete v (x ++ z) (y ++ z) q) ∙ lawful.complete j.front (x ++ z) j.between j.begins) in
        elim (opening y z r j.back c (subst (λ m. second j.back m r) (sym e.1) j.ends)) [ inl n ↦ inr (v, y, d, subst opens_second (sym n) none) | inr o ↦ inr (v, y, d, o) ])
  ]

module _ (L : Language) where
  pub avoids_made : (ts : List L.Token) (h : ℕ → Made L → Made L) (A : Part L) (K C : Texts) → Avoids L ts (Until L A K) (BeforeCut L A C) → Avoids L ts (Until L (made h A) K) (BeforeCut L (made h A) C)
  avoids_made ts h A K C a = record { never = λ x k s. a.never x (inside x k) s; opening = λ x z c s. a.opening x z (cut x c) s }
    where
      before : (x y : List ℕ) (v : Made L) → Derives L (made h A) v x y → (w : Made L) × Derives L A w x y
      before x y v (of_made {v = w} d) = (w, d)

      halts : (x z : List ℕ) (code : ℕ) → Halts L (made h A) x code z → Halts L A x code z
      halts x z code (halt_made e) = e

      inside : (x : List ℕ) → Until L (made h A) K x → Until L A K x
      inside x (inl b) = let d = before x b.rest b.value b.derived in inl (record { value = d.0; rest = b.rest; derived = d.1; behind = b.behind })
      inside x (inr e) = inr (e.0, e.1, halts x e.1 e.0 e.2)

      opened : (x : List ℕ) → Opens L (made h A) x → Opens L A x
      opened x open_end = open_end
      opened x (open_made o) = o

      cut : (x : List ℕ) → BeforeCut L (made h A) C x → BeforeCut L A C x
      cut x (inl o) = inl (opened x o)
      cut x (inr b) = let d = before x b.rest b.value b.derived in inr (record { value = d.0; rest = b.rest; derived = d.1; behind = b.behind })

  pub avoids_empty : (ts : List L.Token) (K C : Texts) → Avoids L ts K C → Avoids L ts (Until L empty K) (BeforeCut L empty C)
  avoids_empty ts K C a = record { never = λ x k s. a.never x (inside x k) s; opening = λ x z c s. cut x z c s }
    where
      same : (x y : List ℕ) (v : Made L) → Derives L empty v x y → x ≡ y
      same x y v of_empty = refl

      halts : (x z : List ℕ) (code : ℕ) → Halts L empty x code z → ⊥
      halts x z code e = elim e [ ]

      inside : (x : List ℕ) → Until L empty K x → K x
      inside x (inl b) = subst K (sym (same x b.rest b.value b.derived)) b.behind
      inside x (inr e) = absurd (halts x e.1 e.0 e.2)

      opened : (x : List ℕ) → Opens L empty x → x ≡ []
      opened x open_end = refl

      cut : (x z : List ℕ) → BeforeCut L empty C x → StandsFirst L.derives L.faults ts (x ++ z) → (x ≡ []) ⊎ ((t : L.Token) × IsIn ts t × L.opens t x)
      cut x z (inl o) s = inl (opened x o)
      cut x z (inr b) s = a.opening x z (subst C (sym (same x b.rest b.value b.derived)) b.behind) s

  pub avoids_more : (t : L.Token) (ts : List L.Token) (K C : Texts) → Avoids L (t ∷ []) K C → Avoids L ts K C → Avoids L (t ∷ ts) K C
  avoids_more t ts K C one others = record { never = never; opening = opening }
    where
      split : (x : List ℕ) → StandsFirst L.derives L.faults (t ∷ ts) x → StandsFirst L.derives L.faults (t ∷ []) x ⊎ StandsFirst L.derives L.faults ts x
      split x s = elim s.among [ inl e ↦ inl (record { token = s.token; among = inl e; stands = s.stands }) | inr i ↦ inr (record { token = s.token; among = i; stands = s.stands }) ]

      never : (x : List ℕ) → K x → StandsFirst L.derives L.faults (t ∷ ts) x → ⊥
      never x k s = elim (split x s) [ inl a ↦ one.never x k a | inr a ↦ others.never x k a ]

      first : (x : List ℕ) → (x ≡ []) ⊎ ((u : L.Token) × IsIn (t ∷ []) u × L.opens u x) → (x ≡ []) ⊎ ((u : L.Token) × IsIn (t ∷ ts) u × L.opens u x)
      first x (inl e) = inl e
      first x (inr (u, inl e, o)) = inr (u, inl e, o)
      first x (inr (u, inr i, o)) = absurd i

      later : (x : List ℕ) → (x ≡ []) ⊎ ((u : L.Token) × IsIn ts u × L.opens u x) → (x ≡ []) ⊎ ((u : L.Token) × IsIn (t ∷ ts) u × L.opens u x)
      later x (inl e) = inl e
      later x (inr (u, i, o)) = inr (u, inr i, o)

      opening : (x z : List ℕ) → C x → StandsFirst L.derives L.faults (t ∷ ts) (x ++ z) → (x ≡ []) ⊎ ((u : L.Token) × IsIn (t ∷ ts) u × L.opens u x)
      opening x z c s = elim (split (x ++ z) s) [ inl a ↦ first x (one.opening x z c a) | inr a ↦ later x (others.opening x z c a) ]

  module _ (f : Fronts L) (right : AreFronts L f) where
    abbrev Followed : Part L → List L.Token → List ℕ → Type 0
    Followed A us x = Until L A (EndsOrStarts L.derives L.faults us) x

    abbrev FollowedCut : Part L → List L.Token → List ℕ → Type 0
    FollowedCut A us x = BeforeCut L A (BeginsWith L.derives L.opens us) x

    made_followed : (h : ℕ → Made L → Made L) (A : Part L) (us : List L.Token) {v : Made L} {x y : List ℕ} → Derives L (made h A) v x y → EndsOrStarts L.derives L.faults us y → Followed A us x
    made_followed h A us {y = y} (of_made {v = w} d) b = inl (record { value = w; rest = y; derived = d; behind = b })

    made_halts : (h : ℕ → Made L → Made L) (A : Part L) {x z : List ℕ} {code : ℕ} → Halts L (made h A) x code z → Halts L A x code z
    made_halts h A (halt_made e) = e

    both_followed : (A B : Part L) (us : List L.Token) {v : Made L} {x y : List ℕ} → Derives L (A & B) v x y → EndsOrStarts L.derives L.faults us y → Followed A (first_behind L f B us) x
    both_followed A B us {y = y} (of_both {v = v} {w = w} {y = m} d e) b = inl (record { value = v; rest = m; derived = d; behind = until_starts L f right B us m (inl (record { value = w; rest = y; derived = e; behind = b })) })

    both_halts : (A B : Part L) (us : List L.Token) {x z : List ℕ} {code : ℕ} → Halts L (A & B) x code z → Followed A (first_behind L f B us) x
    both_halts A B us {z = z} {code = code} (halt_first h) = inr (code, z, h)
    both_halts A B us {z = z} {code = code} (halt_second {v = v} {y = m} d h) = inl (record { value = v; rest = m; derived = d; behind = until_starts L f right B us m (inr (code, z, h)) })

    pub leftmost_until : {F P : Part L} {us vs : List L.Token} → Leftmost L f F P us vs → (x : List ℕ) → Followed P us x → Followed F vs x
    leftmost_until leftmost_here x k = k
    leftmost_until (leftmost_made {h = h} {A = A} {us = us} l) x (inl b) = leftmost_until l x (made_followed h A us b.derived b.behind)
    leftmost_until (leftmost_made {h = h} {A = A} l) x (inr e) = leftmost_until l x (inr (e.0, e.1, made_halts h A e.2))
    leftmost_until (leftmost_both {A = A} {B = B} {us = us} l) x (inl b) = leftmost_until l x (both_followed A B us b.derived b.behind)
    leftmost_until (leftmost_both {A = A} {B = B} {us = us} l) x (inr e) = leftmost_until l x (both_halts A B us e.2)

    made_cut : (h : ℕ → Made L → Made L) (A : Part L) (us : List L.Token) {v : Made L} {x y : List ℕ} → Derives L (made h A) v x y → BeginsWith L.derives L.opens us y → FollowedCut A us x
    made_cut h A us {y = y} (of_made {v = w} d) b = inr (record { value = w; rest = y; derived = d; behind = b })

    made_opens : (h : ℕ → Made L → Made L) (A : Part L) {x : List ℕ} → Opens L (made h A) x → Opens L A x
    made_opens h A open_end = open_end
    made_opens h A (open_made o) = o

    both_cut : (A B : Part L) (us : List L.Token) {v : Made L} {x y : List ℕ} → Derives L (A & B) v x y → BeginsWith L.derives L.opens us y → FollowedCut A (first_behind L f B us) x
    both_cut A B us {y = y} (of_both {v = v} {w = w} {y = m} d e) b = inr (record { value = v; rest = m; derived = d; behind = before_begins L f right B us m (inr (record { value = w; rest = y; derived = e; behind = b })) })

    both_opens : (A B : Part L) (us : List L.Token) {x : List ℕ} → Opens L (A & B) x → FollowedCut A (first_behind L f B us) x
    both_opens A B us open_end = inl open_end
    both_opens A B us (open_first o) = inl o
    both_opens A B us (open_second {v = v} {y = m} d o) = inr (record { value = v; rest = m; derived = d; behind = before_begins L f right B us m (inl o) })

    pub leftmost_cut : {F P : Part L} {us vs : List L.Token} → Leftmost L f F P us vs → (x : List ℕ) → FollowedCut P us x → FollowedCut F vs x
    leftmost_cut leftmost_here x c = c
    leftmost_cut (leftmost_made {h = h} {A = A} {us = us} l) x (inl o) = leftmost_cut l x (inl (made_opens h A o))
    leftmost_cut (leftmost_made {h = h} {A = A} {us = us} l) x (inr b) = leftmost_cut l x (made_cut h A us b.derived b.behind)
    leftmost_cut (leftmost_both {A = A} {B = B} {us = us} l) x (inl o) = leftmost_cut l x (both_opens A B us o)
    leftmost_cut (leftmost_both {A = A} {B = B} {us = us} l) x (inr b) = leftmost_cut l x (both_cut A B us b.derived b.behind)

    module _ (lawful : LawfulTokens L) where
      -- What begins with tokens that are apart from these, or is empty and stands where these are avoided, avoids them.
      pub avoids_behind : (ts : List L.Token) (A B : Part L) (K C : Texts) → AllOf (λ t. f.takings.token_takes t ≡ true) ts → AllOf (λ u. AllOf (λ t. AreApart L t u) ts) (first_of L f A) → Avoids L ts (Until L B K) (BeforeCut L B C)
          → Avoids L ts (Until L (A & B) K) (BeforeCut L (A & B) C)
      avoids_behind ts A B K C full apart a = record { never = never; opening = opening }
        where
          aside : Avoids L ts (EndsOrStarts L.derives L.faults (first_of L f A)) (BeginsWith L.derives L.opens (first_of L f A))
          aside = apart_avoids L lawful f right ts (first_of L f A) full apart

          begun : {v : Made L} {x m : List ℕ} → Derives L A v x m → Until L B K m → StandsFirst L.derives L.faults ts x → ⊥
          begun {x = x} d k s = elim (starts L f right d) [
            | inl q ↦ aside.never x (inr (first_stands L.derives L.faults (first_of L f A) x q)) s
            | inr p ↦ a.never x (subst (Until L B K) (sym p.0) k) s
          ]

          derived : {v : Made L} {x y : List ℕ} → Derives L (A & B) v x y → K y → StandsFirst L.derives L.faults ts x → ⊥
          derived {y = y} (of_both {w = w} d e) k s = begun d (inl (record { value = w; rest = y; derived = e; behind = k })) s

          halted : {x z : List ℕ} {code : ℕ} → Halts L (A & B) x code z → StandsFirst L.derives L.faults ts x → ⊥
          halted {x = x} (halt_first h) s = aside.never x (inr (halting L f right h)) s
          halted {z = z} {code = code} (halt_second d h) s = begun d (inr (code, z, h)) s

          never : (x : List ℕ) → Until L (A & B) K x → StandsFirst L.derives L.faults ts x → ⊥
          never x (inl b) s = derived b.derived b.behind s
          never x (inr e) s = halted e.2 s

          cut : {v : Made L} {x m : List ℕ} (z : List ℕ) → Derives L A v x m → BeforeCut L B C m → StandsFirst L.derives L.faults ts (x ++ z) → (x ≡ []) ⊎ ((t : L.Token) × IsIn ts t × L.opens t x)
          cut {x = x} z d c s = elim (starts L f right d) [
            | inl q ↦ aside.opening x z (begins_token q) s
            | inr p ↦ a.opening x z (subst (BeforeCut L B C) (sym p.0) c) s
          ]

          derived_cut : {v : Made L} {x y : List ℕ} (z : List ℕ) → Derives L (A & B) v x y → C y → StandsFirst L.derives L.faults ts (x ++ z) → (x ≡ []) ⊎ ((t : L.Token) × IsIn ts t × L.opens t x)
          derived_cut {y = y} z (of_both {w = w} d e) c s = cut z d (inr (record { value = w; rest = y; derived = e; behind = c })) s

          opened : {x : List ℕ} (z : List ℕ) → Opens L (A & B) x → StandsFirst L.derives L.faults ts (x ++ z) → (x ≡ []) ⊎ ((t : L.Token) × IsIn ts t × L.opens t x)
          opened z open_end s = inl refl
          opened {x = x} z (open_first o) s = aside.opening x z (begins L f right o) s
          opened z (open_second d o) s = cut z d (inl o) s

          opening : (x z : List ℕ) → BeforeCut L (A & B) C x → StandsFirst L.derives L.faults ts (x ++ z) → (x ≡ []) ⊎ ((t : L.Token) × IsIn ts t × L.opens t x)
          opening x z (inl o) s = opened z o s
          opening x z (inr b) s = derived_cut z b.derived b.behind s

      -- Whatever follows, a grammar that ends with a token decides where it does before that token.
      pub closed_decides : (A : Part L) (t u : L.Token) (K C : Texts) → f.takings.token_takes t ≡ true → IsSorted L f A (t ∷ []) → Decides L (A & (token t & token u)) K C
      closed_decides A t u K C takes s =
          (decides_less L A (EndsOrStarts L.derives L.faults (t ∷ [])) (BeginsWith L.derives L.opens (t ∷ [])) (Until L (token t & token u) K) (BeforeCut L (token t & token u) C) follows follows_cut (sorted_decides L lawful f right A (t ∷ []) s), (tt, tt))
        where
          derived : {v : Made L} {x y : List ℕ} → Derives L (token t & token u) v x y → (w : Made L) × (m : List ℕ) × L.derives t w x m
          derived (of_both (of_token {v = w} {y = m} d) e) = (w, m, d)

          halted : {x z : List ℕ} {code : ℕ} → Halts L (token t & token u) x code z → EndsOrStarts L.derives L.faults (t ∷ []) x
          halted (halt_first (halt_token {code = code} e)) = inr (record { token = t; among = inl refl; stands = inr (code, e) })
          halted (halt_second (of_token {v = w} {y = m} d) h) = inr (record { token = t; among = inl refl; stands = inl (w, m, d) })

          follows : (y : List ℕ) → Until L (token t & token u) K y → EndsOrStarts L.derives L.faults (t ∷ []) y
          follows y (inl b) = let d = derived b.derived in inr (record { token = t; among = inl refl; stands = inl d })
          follows y (inr e) = halted e.2

          opened : {x : List ℕ} → Opens L (token t & token u) x → BeginsWith L.derives L.opens (t ∷ []) x
          opened open_end = begins_empty
          opened (open_first open_end) = begins_empty
          opened (open_first (open_token o)) = begins_opening t (inl refl) o
          opened (open_second {x = x} (of_token {v = w} {y = m} d) o) = begins_token (record { token = t; among = inl refl; value = w; rest = m; derived = d })

          follows_cut : (y : List ℕ) → BeforeCut L (token t & token u) C y → BeginsWith L.derives L.opens (t ∷ []) y
          follows_cut y (inl o) = opened o
          follows_cut y (inr b) = let d = derived b.derived in begins_token (record { token = t; among = inl refl; value = d.0; rest = d.1; derived = d.2 })
