use Rattle.std.proofs.Common.{◌≡◌, ℕ, Bool, true, false, if◌then◌else◌, ◌||◌, ◌&&◌, List, [], ◌∷◌, ◌++◌, ◌⊎◌, inl, inr, refl, sym, subst, ◌∙◌, Option}
use Rattle.std.specs.List.{list_all}
use Rattle.gx_grammar.specs.Value.{Value}
use Rattle.gx_grammar.specs.Grammar.{◌&◌, choose}
use Rattle.gx_grammar.specs.Language.{Language, Part, Made}
use Rattle.gx_grammar.specs.Derivation.{Derives, of_token, of_empty, of_both, of_keyed, of_left, of_right, of_none, of_item, of_rule, of_made}
use Rattle.gx_grammar.specs.Opening.{Opens, open_end, open_token, open_first, open_second, open_key, open_behind, open_left, open_right, open_item, open_later, open_rule, open_made}
use Rattle.gx_grammar.specs.Halting.{Halts, halt_token, halt_first, halt_second, halt_key, halt_behind, halt_left, halt_right, halt_item, halt_later, halt_rule, halt_made}
use Rattle.gx_grammar.specs.Decision.{Before, Until, BeforeCut}
use Rattle.gx_grammar.specs.Levels.{takes_some}
use Rattle.gx_grammar.specs.First.{IsIn, AllOf, StandsFirst, StartsWith, EndsOrStarts, BeginsWith, begins_empty, begins_opening, begins_token, Fronts, first_of, first_behind, AreFronts}

and_true : (a b : Bool) → (a && b) ≡ true → (a ≡ true) × (b ≡ true)
and_true true b e = (refl, e)
and_true false b e = absurd (cc)

pub all_in : {X : Type 0} (P : X → Type 0) (ts : List X) → AllOf P ts → (u : X) → IsIn ts u → P u
all_in P (t ∷ ts) a u (inl e) = subst P (sym e) a.0
all_in P (t ∷ ts) a u (inr i) = all_in P ts a.1 u i
all_in P [] a u i = absurd i

-- a test that shows the fact, of each element
pub all_by : {X : Type 0} (P : X → Type 0) (test : X → Bool) → ((t : X) → test t ≡ true → P t) → (ts : List X) → list_all test ts ≡ true → AllOf P ts
all_by P test f [] e = tt
all_by P test f (t ∷ ts) e = let p = and_true (test t) (list_all test ts) e in (f t p.0, all_by P test f ts p.1)

pub in_left : {X : Type 0} (xs ys : List X) (u : X) → IsIn xs u → IsIn (xs ++ ys) u
in_left [] ys u i = absurd i
in_left (a ∷ xs) ys u (inl e) = inl e
in_left (a ∷ xs) ys u (inr i) = inr (in_left xs ys u i)

pub in_right : {X : Type 0} (xs ys : List X) (u : X) → IsIn ys u → IsIn (xs ++ ys) u
in_right [] ys u i = i
in_right (a ∷ xs) ys u i = inr (in_right xs ys u i)

pub in_either : {X : Type 0} (xs ys : List X) (u : X) → IsIn (xs ++ ys) u → IsIn xs u ⊎ IsIn ys u
in_either [] ys u i = inr i
in_either (a ∷ xs) ys u (inl e) = inl (inl e)
in_either (a ∷ xs) ys u (inr i) = elim (in_either xs ys u i) [ inl j ↦ inl (inr j) | inr j ↦ inr j ]

or_false : (a b : Bool) → a ≡ false → b ≡ false → (a || b) ≡ false
or_false a b e f = subst (λ c. (c || b) ≡ false) (sym e) f

and_false : (a b : Bool) → b ≡ false → (a && b) ≡ false
and_false true b e = e
and_false false b e = refl

module _ {Token Node : Type 0} (derives : Token → Value Node → List ℕ → List ℕ → Type 0) (faults : Token → List ℕ → Option ℕ) where
  pub first_in : (ts us : List Token) (x : List ℕ) → ((u : Token) → IsIn ts u → IsIn us u) → StandsFirst derives faults ts x → StandsFirst derives faults us x
  first_in ts us x f s = record { token = s.token; among = f s.token s.among; stands = s.stands }

  pub ends_in : (ts us : List Token) (x : List ℕ) → ((u : Token) → IsIn ts u → IsIn us u) → EndsOrStarts derives faults ts x → EndsOrStarts derives faults us x
  ends_in ts us x f (inl e) = inl e
  ends_in ts us x f (inr s) = inr (first_in ts us x f s)

  pub first_stands : (ts : List Token) (x : List ℕ) → StartsWith derives ts x → StandsFirst derives faults ts x
  first_stands ts x s = record { token = s.token; among = s.among; stands = inl (s.value, s.rest, s.derived) }

module _ {Token Node : Type 0} (derives : Token → Value Node → List ℕ → List ℕ → Type 0) (opens : Token → List ℕ → Type 0) where
  pub starts_in : (ts us : List Token) (x : List ℕ) → ((u : Token) → IsIn ts u → IsIn us u) → StartsWith derives ts x → StartsWith derives us x
  starts_in ts us x f s = record { token = s.token; among = f s.token s.among; value = s.value; rest = s.rest; derived = s.derived }

  pub begins_in : (ts us : List Token) (x : List ℕ) → ((u : Token) → IsIn ts u → IsIn us u) → BeginsWith derives opens ts x → BeginsWith derives opens us x
  begins_in ts us x f begins_empty = begins_empty
  begins_in ts us x f (begins_opening u i o) = begins_opening u (f u i) o
  begins_in ts us x f (begins_token s) = begins_token (starts_in ts us x f s)

module _ (L : Language) (f : Fronts L) (right : AreFronts L f) where
  abbrev Starts : List L.Token → List ℕ → Type 0
  Starts ts x = StartsWith L.derives ts x

  abbrev First : List L.Token → List ℕ → Type 0
  First ts x = StandsFirst L.derives L.faults ts x

  abbrev Begins : List L.Token → List ℕ → Type 0
  Begins ts x = BeginsWith L.derives L.opens ts x

  abbrev takes : Part L → Bool
  takes A = takes_some L f.takings A

  in_behind : (A : Part L) (ts : List L.Token) → takes A ≡ false → (u : L.Token) → IsIn ts u → IsIn (first_behind L f A ts) u
  in_behind A ts e u i = in_right (first_of L f A) (if takes A then [] else ts) u (subst (λ b. IsIn (if b then [] else ts) u) (sym e) i)

  -- What is derived starts with a first token, or is empty.
  pub starts : {A : Part L} {v : Made L} {x y : List ℕ} → Derives L A v x y → Starts (first_of L f A) x ⊎ ((x ≡ y) × (takes A ≡ false))
  starts (of_token {t = t} {v = v} {x = x} {y = y} d) = inl (record { token = t; among = inl refl; value = v; rest = y; derived = d })
  starts of_empty = inr (refl, refl)
  starts (of_both {A = A} {B = B} {x = x} {y = m} {z = z} d e) = elim (starts d) [
    | inl s ↦ inl (starts_in L.derives L.opens (first_of L f A) (first_of L f (A & B)) x (λ u i. in_left (first_of L f A) _ u i) s)
    | inr p ↦ elim (starts e) [
      | inl s ↦ inl (subst (λ w. Starts (first_of L f (A & B)) w) (sym p.0) (starts_in L.derives L.opens (first_of L f B) (first_of L f (A & B)) m (in_behind A (first_of L f B) p.1) s))
      | inr q ↦ inr (p.0 ∙ q.0, or_false (takes A) (takes B) p.1 q.1)
    ]
  ]
  starts (of_keyed {t = t} {v = v} {x = x} {y = y} d e) = inl (record { token = t; among = inl refl; value = v; rest = y; derived = d })
  starts (of_left {g = g} {A = A} {B = B} {x = x} d) = elim (starts d) [
    | inl s ↦ inl (starts_in L.derives L.opens (first_of L f A) (first_of L f (choose g A B)) x (λ u i. in_left (first_of L f A) (first_of L f B) u i) s)
    | inr p ↦ inr (p.0, subst (λ b. (b && takes B) ≡ false) (sym p.1) refl)
  ]
  starts (of_right {g = g} {A = A} {B = B} {x = x} d) = elim (starts d) [
    | inl s ↦ inl (starts_in L.derives L.opens (first_of L f B) (first_of L f (choose g A B)) x (λ u i. in_right (first_of L f A) (first_of L f B) u i) s)
    | inr p ↦ inr (p.0, and_false (takes A) (takes B) p.1)
  ]
  starts of_none = inr (refl, refl)
  starts (of_item {g = g} {A = A} {x = x} {y = m} d e) = elim (starts d) [
    | inl s ↦ inl s
    | inr p ↦ elim (starts e) [ inl s ↦ inl (subst (λ w. Starts (first_of L f A) w) (sym p.0) s) | inr q ↦ inr (p.0 ∙ q.0, refl) ]
  ]
  starts (of_rule {p = p} {x = x} d) = elim (starts d) [
    | inl s ↦ inl (starts_in L.derives L.opens (first_of L f (L.rules p)) (f.first p) x (λ u i. all_in (IsIn (f.first p)) (first_of L f (L.rules p)) (right.firsts p) u i) s)
    | inr q ↦ inr (q.0, not_taken (f.takings.production_takes p) refl q.1)
  ]
    where
      not_taken : (b : Bool) → f.takings.production_takes p ≡ b → takes (L.rules p) ≡ false → b ≡ false
      not_taken true e q = let h = right.taken.productions p e in absurd (cc)
      not_taken false e q = refl
  starts (of_made d) = starts d

  -- What halts in a grammar starts with a first token, or has its fault there.
  pub halting : {A : Part L} {x z : List ℕ} {code : ℕ} → Halts L A x code z → First (first_of L f A) x
  halting (halt_token {t = t} {code = code} e) = record { token = t; among = inl refl; stands = inr (code, e) }
  halting (halt_first {A = A} {B = B} {x = x} h) = first_in L.derives L.faults (first_of L f A) (first_of L f (A & B)) x (λ u i. in_left (first_of L f A) _ u i) (halting h)
  halting (halt_second {A = A} {B = B} {x = x} {y = y} d h) = elim (starts d) [
    | inl s ↦ first_in L.derives L.faults (first_of L f A) (first_of L f (A & B)) x (λ u i. in_left (first_of L f A) _ u i) (first_stands L.derives L.faults (first_of L f A) x s)
    | inr p ↦ subst (λ w. First (first_of L f (A & B)) w) (sym p.0) (first_in L.derives L.faults (first_of L f B) (first_of L f (A & B)) y (in_behind A (first_of L f B) p.1) (halting h))
  ]
  halting (halt_key {t = t} {code = code} e) = record { token = t; among = inl refl; stands = inr (code, e) }
  halting (halt_behind {t = t} {v = v} {y = y} d h) = record { token = t; among = inl refl; stands = inl (v, y, d) }
  halting (halt_left {g = g} {A = A} {B = B} {x = x} h) = first_in L.derives L.faults (first_of L f A) (first_of L f (choose g A B)) x (λ u i. in_left (first_of L f A) (first_of L f B) u i) (halting h)
  halting (halt_right {g = g} {A = A} {B = B} {x = x} h) = first_in L.derives L.faults (first_of L f B) (first_of L f (choose g A B)) x (λ u i. in_right (first_of L f A) (first_of L f B) u i) (halting h)
  halting (halt_item h) = halting h
  halting (halt_later {A = A} {x = x} {y = y} d h) = elim (starts d) [
    | inl s ↦ first_stands L.derives L.faults (first_of L f A) x s
    | inr p ↦ subst (λ w. First (first_of L f A) w) (sym p.0) (halting h)
  ]
  halting (halt_rule {p = p} {x = x} h) = first_in L.derives L.faults (first_of L f (L.rules p)) (f.first p) x (λ u i. all_in (IsIn (f.first p)) (first_of L f (L.rules p)) (right.firsts p) u i) (halting h)
  halting (halt_made h) = halting h

  -- What opens a grammar begins with a first token.
  pub begins : {A : Part L} {x : List ℕ} → Opens L A x → Begins (first_of L f A) x
  begins open_end = begins_empty
  begins (open_token {t = t} o) = begins_opening t (inl refl) o
  begins (open_first {A = A} {B = B} {x = x} o) = begins_in L.derives L.opens (first_of L f A) (first_of L f (A & B)) x (λ u i. in_left (first_of L f A) _ u i) (begins o)
  begins (open_second {A = A} {B = B} {x = x} {y = y} d o) = elim (starts d) [
    | inl s ↦ begins_token (starts_in L.derives L.opens (first_of L f A) (first_of L f (A & B)) x (λ u i. in_left (first_of L f A) _ u i) s)
    | inr p ↦ subst (λ w. Begins (first_of L f (A & B)) w) (sym p.0) (begins_in L.derives L.opens (first_of L f B) (first_of L f (A & B)) y (in_behind A (first_of L f B) p.1) (begins o))
  ]
  begins (open_key {t = t} o) = begins_opening t (inl refl) o
  begins (open_behind {t = t} {v = v} {x = x} {y = y} d o) = begins_token (record { token = t; among = inl refl; value = v; rest = y; derived = d })
  begins (open_left {g = g} {A = A} {B = B} {x = x} o) = begins_in L.derives L.opens (first_of L f A) (first_of L f (choose g A B)) x (λ u i. in_left (first_of L f A) (first_of L f B) u i) (begins o)
  begins (open_right {g = g} {A = A} {B = B} {x = x} o) = begins_in L.derives L.opens (first_of L f B) (first_of L f (choose g A B)) x (λ u i. in_right (first_of L f A) (first_of L f B) u i) (begins o)
  begins (open_item o) = begins o
  begins (open_later {A = A} {x = x} {y = y} d o) = elim (starts d) [
    | inl s ↦ begins_token s
    | inr p ↦ subst (λ w. Begins (first_of L f A) w) (sym p.0) (begins o)
  ]
  begins (open_rule {p = p} {x = x} o) = begins_in L.derives L.opens (first_of L f (L.rules p)) (f.first p) x (λ u i. all_in (IsIn (f.first p)) (first_of L f (L.rules p)) (right.firsts p) u i) (begins o)
  begins (open_made o) = begins o

  -- What stands in front of the end, or of one of the tokens, starts with a first token or one of these.
  pub before_starts : (A : Part L) (ts : List L.Token) (x : List ℕ) → Before L A (EndsOrStarts L.derives L.faults ts) x → EndsOrStarts L.derives L.faults (first_behind L f A ts) x
  before_starts A ts x b = elim (starts b.derived) [
    | inl s ↦ inr (first_in L.derives L.faults (first_of L f A) (first_behind L f A ts) x (λ u i. in_left (first_of L f A) _ u i) (first_stands L.derives L.faults (first_of L f A) x s))
    | inr p ↦ subst (λ w. EndsOrStarts L.derives L.faults (first_behind L f A ts) w) (sym p.0) (ends_in L.derives L.faults ts (first_behind L f A ts) b.rest (in_behind A ts p.1) b.behind)
  ]

  pub until_starts : (A : Part L) (ts : List L.Token) (x : List ℕ) → Until L A (EndsOrStarts L.derives L.faults ts) x → EndsOrStarts L.derives L.faults (first_behind L f A ts) x
  until_starts A ts x (inl b) = before_starts A ts x b
  until_starts A ts x (inr h) = inr (first_in L.derives L.faults (first_of L f A) (first_behind L f A ts) x (λ u i. in_left (first_of L f A) _ u i) (halting h.2))

  pub before_begins : (A : Part L) (ts : List L.Token) (x : List ℕ) → BeforeCut L A (Begins ts) x → Begins (first_behind L f A ts) x
  before_begins A ts x (inl o) = begins_in L.derives L.opens (first_of L f A) (first_behind L f A ts) x (λ u i. in_left (first_of L f A) _ u i) (begins o)
  before_begins A ts x (inr b) = elim (starts b.derived) [
    | inl s ↦ begins_token (starts_in L.derives L.opens (first_of L f A) (first_behind L f A ts) x (λ u i. in_left (first_of L f A) _ u i) s)
    | inr p ↦ subst (λ w. Begins (first_behind L f A ts) w) (sym p.0) (begins_in L.derives L.opens ts (first_behind L f A ts) b.rest (in_behind A ts p.1) b.behind)
  ]
