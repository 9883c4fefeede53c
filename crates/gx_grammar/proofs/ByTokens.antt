use Rattle.std.proofs.Common.{◌≡◌, ℕ, ◌≤◌, Bool, true, false, ◌||◌, List, [], ◌∷◌, ◌++◌, ◌⊎◌, inl, inr, length, refl, sym, ap, subst, ◌∙◌, Option, Some, None, is_some, arith}
use Rattle.gx_grammar.specs.Grammar.{token, empty}
use Rattle.gx_grammar.specs.Language.{Language, Part, Made}
use Rattle.gx_grammar.specs.Derivation.{Derives}
use Rattle.gx_grammar.specs.Opening.{Opens, open_end, open_left, open_token, OpensUpTo}
use Rattle.gx_grammar.specs.Halting.{Halts}
use Rattle.gx_grammar.specs.Decision.{Texts, Until, BeforeCut, Chooses, Repeats}
use Rattle.gx_grammar.specs.Levels.{takes_some}
use Rattle.gx_grammar.specs.Avoiding.{Avoids}
use Rattle.gx_grammar.specs.Laws.{LawfulTokens}
use Rattle.gx_grammar.specs.First.{IsIn, AllOf, Stands, StandsFirst, StartsWith, EndsOrStarts, BeginsWith, begins_empty, begins_opening, begins_token, Fronts, first_of, first_behind, scans_any, seen_any, by_tokens, AreApart, AreFronts, TokensChoose}
use Rattle.gx_grammar.proofs.Readings.{min_is}
use Rattle.gx_grammar.proofs.Exact.{opens_as}
use Rattle.gx_grammar.proofs.First.{all_in, starts, halting, begins, until_starts, before_begins}

module _ (L : Language) (lawful : LawfulTokens L) where
  abbrev First : List L.Token → List ℕ → Type 0
  First ts x = StandsFirst L.derives L.faults ts x

  abbrev scans_one : List L.Token → List ℕ → Bool
  scans_one ts x = scans_any L.scan L.faults ts x

  later : (t : L.Token) (ts : List L.Token) (x : List ℕ) → First ts x → First (t ∷ ts) x
  later t ts x s = record { token = s.token; among = inr s.among; stands = s.stands }

  pub scanned : (ts : List L.Token) (x : List ℕ) → scans_one ts x ≡ true → First ts x
  scanned [] x e = absurd (cc)
  scanned (t ∷ ts) x e = go (L.scan t x) (L.faults t x) refl refl (λ h. scanned ts x h)
    where
      go : (q : Option (Made L × List ℕ)) (fault : Option ℕ) → L.scan t x ≡ q → L.faults t x ≡ fault → (scans_one ts x ≡ true → First ts x) → First (t ∷ ts) x
      go (Some r) fault h k next = record { token = t; among = inl refl; stands = inl (r.0, r.1, lawful.sound t r.0 x r.1 h) }
      go None (Some code) h k next = record { token = t; among = inl refl; stands = inr (code, k) }
      go None None h k next = later t ts x (next (sym (ap (λ q. is_some q || (is_some (L.faults t x) || scans_one ts x)) h ∙ ap (λ q. is_some q || scans_one ts x) k) ∙ e))

  or_right : (a b : Bool) → b ≡ true → (a || b) ≡ true
  or_right true b e = refl
  or_right false b e = e

  stands_scanned : (t : L.Token) (x : List ℕ) (b : Bool) → Stands L.derives L.faults t x → (is_some (L.scan t x) || (is_some (L.faults t x) || b)) ≡ true
  stands_scanned t x b (inl d) = ap (λ q. is_some q || (is_some (L.faults t x) || b)) (lawful.complete t d.0 x d.1 d.2)
  stands_scanned t x b (inr h) = or_right (is_some (L.scan t x)) (is_some (L.faults t x) || b) (ap (λ q. is_some q || b) h.1)

  pub scans : (ts : List L.Token) (u : L.Token) (x : List ℕ) → IsIn ts u → Stands L.derives L.faults u x → scans_one ts x ≡ true
  scans [] u x i d = absurd i
  scans (t ∷ ts) u x (inl e) d = stands_scanned t x (scans_one ts x) (subst (λ w. Stands L.derives L.faults w x) e d)
  scans (t ∷ ts) u x (inr i) d = or_right (is_some (L.scan t x)) (is_some (L.faults t x) || scans_one ts x) (or_right (is_some (L.faults t x)) (scans_one ts x) (scans ts u x i d))

  pub scans_none : (ts : List L.Token) (x : List ℕ) → (First ts x → ⊥) → scans_one ts x ≡ false
  scans_none ts x n = go (scans_one ts x) refl
    where
      go : (b : Bool) → scans_one ts x ≡ b → b ≡ false
      go true e = absurd (n (scanned ts x e))
      go false e = refl

  pub seen_least : (ts : List L.Token) (t : L.Token) (x : List ℕ) → IsIn ts t → seen_any L.seen ts x ≤ L.seen t x
  seen_least [] t x i = absurd i
  seen_least (u ∷ ts) t x (inl e) = let h : L.seen u x ≡ L.seen t x = ap (λ w. L.seen w x) (sym e) in omega (arith, h)
  seen_least (u ∷ ts) t x (inr i) = let h = seen_least ts t x i in omega (arith, h)

  pub seen_within : (ts : List L.Token) (x : List ℕ) → seen_any L.seen ts x ≤ length x
  seen_within [] x = omega arith
  seen_within (t ∷ ts) x = let h = seen_within ts x in omega (arith, h)

  pub seen_opens : (A : Part L) (ts : List L.Token) (x : List ℕ) → AllOf (λ t. (x : List ℕ) → L.opens t x → Opens L A x) ts → OpensUpTo L A x (seen_any L.seen ts x)
  seen_opens A [] x a = record { front = []; rest = x; whole = refl; place = refl; opens = open_end }
  seen_opens A (t ∷ ts) x a = elim (min_is (L.seen t x) (seen_any L.seen ts x)) [
    | inl e ↦ subst (λ n. OpensUpTo L A x n) (sym e) (opens_as (λ w o. of_token_opens w o) (lawful.sees t x))
    | inr e ↦ subst (λ n. OpensUpTo L A x n) (sym e) (seen_opens A ts x a.1)
  ]
    where
      of_token_opens : (w : List ℕ) → Opens L (token t) w → Opens L A w
      of_token_opens w open_end = open_end
      of_token_opens w (open_token o) = a.0 w o

  module _ (f : Fronts L) (right : AreFronts L f) (ts : List L.Token) (A : Part L) (takes : takes_some L f.takings A ≡ true) (begins_so : AllOf (IsIn ts) (first_of L f A)) (opening : AllOf (λ t. (x : List ℕ) → L.opens t x → Opens L A x) ts) where
    starts_first : {v : Made L} {x y : List ℕ} → Derives L A v x y → StartsWith L.derives (first_of L f A) x
    starts_first d = elim (starts L f right d) [ inl s ↦ s | inr p ↦ (let e = takes in let g = p.1 in absurd (cc (e, g))) ]

    starts_scanned : {v : Made L} {x y : List ℕ} → Derives L A v x y → scans_one ts x ≡ true
    starts_scanned {x = x} d = let s = starts_first d in scans ts s.token x (all_in (IsIn ts) (first_of L f A) begins_so s.token s.among) (inl (s.value, s.rest, s.derived))

    halts_scanned : {x z : List ℕ} {code : ℕ} → Halts L A x code z → scans_one ts x ≡ true
    halts_scanned {x = x} h = let s = halting L f right h in scans ts s.token x (all_in (IsIn ts) (first_of L f A) begins_so s.token s.among) s.stands

    -- where no token was scanned, A is opened no further than was seen
    passed_token : (u : L.Token) (x z : List ℕ) → IsIn ts u → L.opens u x → seen_any L.seen ts (x ++ z) ≤ length z
    passed_token u x z i o = let h = seen_least ts u (x ++ z) i in let k = lawful.longest u x z o in omega (arith, h, k)

    passed_start : (x z : List ℕ) → scans_one ts (x ++ z) ≡ false → StartsWith L.derives (first_of L f A) x → seen_any L.seen ts (x ++ z) ≤ length z
    passed_start x z e s =
        let i = all_in (IsIn ts) (first_of L f A) begins_so s.token s.among in
        elim (lawful.goes_on s.token s.value x s.rest z s.derived) [
          | inl d ↦ (let t = scans ts s.token (x ++ z) i (inl (s.value, s.rest ++ z, d)) in absurd (cc (e, t)))
          | inr o ↦ passed_token s.token x z i o
        ]

    passed : (x z : List ℕ) → scans_one ts (x ++ z) ≡ false → BeginsWith L.derives L.opens (first_of L f A) x → seen_any L.seen ts (x ++ z) ≤ length z
    passed x z e begins_empty = seen_within ts z
    passed x z e (begins_opening u i o) = passed_token u x z (all_in (IsIn ts) (first_of L f A) begins_so u i) o
    passed x z e (begins_token s) = passed_start x z e s

    -- where a token was scanned, what began otherwise opens A
    against : (K C : Texts) → Avoids L ts K C → (x z : List ℕ) → scans_one ts (x ++ z) ≡ true → C x → Opens L A x
    against K C avoids x z e c = elim (avoids.opening x z c (scanned ts (x ++ z) e)) [
      | inl n ↦ subst (λ w. Opens L A w) (sym n) open_end
      | inr o ↦ all_in (λ t. (x : List ℕ) → L.opens t x → Opens L A x) ts opening o.0 o.1 x o.2
    ]

    not_scanned : (K C : Texts) → Avoids L ts K C → (x : List ℕ) → K x → scans_one ts x ≡ false
    not_scanned K C avoids x k = scans_none ts x (λ s. avoids.never x k s)

    -- A guard by tokens decides before what avoids them.
    pub avoided_choose : (B : Part L) (K C : Texts) → Avoids L ts (Until L B K) (BeforeCut L B C) → Chooses L (by_tokens L.scan L.faults L.seen ts) A B K C
    avoided_choose B K C avoids = record {
      sees = λ x. opens_as (λ w o. open_left o) (seen_opens A ts x opening);
      left = λ v x y d k. starts_scanned d;
      right = λ v x y d k. not_scanned (Until L B K) (BeforeCut L B C) avoids x (inl (record { value = v; rest = y; derived = d; behind = k }));
      left_halts = λ x z code h. halts_scanned h;
      right_halts = λ x z code h. not_scanned (Until L B K) (BeforeCut L B C) avoids x (inr (code, z, h));
      left_cut = λ x z e o. inr (passed x z e (begins L f right o));
      right_cut = λ x z e o. inl (against (Until L B K) (BeforeCut L B C) avoids x z e (inl o));
      left_before = λ v x y z e d n c. inr (passed_start x z e (starts_first d));
      right_before = λ v x y z e d n c. inl (against (Until L B K) (BeforeCut L B C) avoids x z e (inr (record { value = v; rest = y; derived = d; behind = c })));
    }

    pub avoided_repeat : (K C : Texts) → Avoids L ts K C → Repeats L (by_tokens L.scan L.faults L.seen ts) A K C
    avoided_repeat K C avoids = record {
      sees = λ x. seen_opens A ts x opening;
      item = λ v x y d k. starts_scanned d;
      item_halts = λ x z code h. halts_scanned h;
      stop = λ x k. not_scanned K C avoids x k;
      item_cut = λ x z e o. inr (passed x z e (begins L f right o));
      item_before = λ v x y z e d n c. inr (passed_start x z e (starts_first d));
      stop_before = λ x z e n c. inl (against K C avoids x z e c);
    }

  module _ (f : Fronts L) (right : AreFronts L f) (ts us : List L.Token) (full : AllOf (λ t. f.takings.token_takes t ≡ true) ts) (apart : AllOf (λ u. AllOf (λ t. AreApart L t u) ts) us) where
    not_at_end : (t : L.Token) (x : List ℕ) → f.takings.token_takes t ≡ true → x ≡ [] → Stands L.derives L.faults t x → ⊥
    not_at_end t x takes e (inl d) = let h = right.taken.tokens t d.0 x d.1 takes d.2 in let k : length x ≡ 0 = ap length e in absurd (omega (arith, h, k))
    not_at_end t x takes e (inr h) = let k : L.faults t x ≡ None = ap (L.faults t) e ∙ lawful.faultless t in let g = h.1 in absurd (cc (k, g))

    pair_apart : (t u : L.Token) → IsIn ts t → IsIn us u → AreApart L t u
    pair_apart t u i j = all_in (λ t. AreApart L t u) ts (all_in (λ u. AllOf (λ t. AreApart L t u) ts) us apart u j) t i

    not_first : (x : List ℕ) → EndsOrStarts L.derives L.faults us x → First ts x → ⊥
    not_first x (inl e) s = not_at_end s.token x (all_in (λ t. f.takings.token_takes t ≡ true) ts full s.token s.among) e s.stands
    not_first x (inr b) s = (pair_apart s.token b.token s.among b.among).never x s.stands b.stands

    opens_one : (u : L.Token) (x z : List ℕ) → IsIn us u → L.opens u x → First ts (x ++ z) → (x ≡ []) ⊎ ((t : L.Token) × IsIn ts t × L.opens t x)
    opens_one u x z i o s = elim ((pair_apart s.token u s.among i).opening x z o s.stands) [ inl n ↦ inl n | inr q ↦ inr (s.token, s.among, q) ]

    first_opens : (x z : List ℕ) → BeginsWith L.derives L.opens us x → First ts (x ++ z) → (x ≡ []) ⊎ ((t : L.Token) × IsIn ts t × L.opens t x)
    first_opens x z begins_empty s = inl refl
    first_opens x z (begins_opening u i o) s = opens_one u x z i o s
    first_opens x z (begins_token b) s = elim (lawful.goes_on b.token b.value x b.rest z b.derived) [
      | inl d ↦ absurd ((pair_apart s.token b.token s.among b.among).never (x ++ z) s.stands (inl (b.value, b.rest ++ z, d)))
      | inr o ↦ opens_one b.token x z b.among o s
    ]

    -- Tokens are avoided where others stand that are apart from them.
    pub apart_avoids : Avoids L ts (EndsOrStarts L.derives L.faults us) (BeginsWith L.derives L.opens us)
    apart_avoids = record { never = not_first; opening = first_opens }

  -- what avoids tokens does so where less may follow
  pub avoids_less : (ts : List L.Token) (K C M D : Texts) → ((y : List ℕ) → M y → K y) → ((y : List ℕ) → D y → C y) → Avoids L ts K C → Avoids L ts M D
  avoids_less ts K C M D k c a = record { never = λ x m s. a.never x (k x m) s; opening = λ x z d s. a.opening x z (c x d) s }

  module _ (f : Fronts L) (right : AreFronts L f) (ts : List L.Token) (A B : Part L) (us : List L.Token) (given : TokensChoose L f ts A B us) where
    pub tokens_choose : Chooses L (by_tokens L.scan L.faults L.seen ts) A B (EndsOrStarts L.derives L.faults us) (BeginsWith L.derives L.opens us)
    tokens_choose =
        avoided_choose f right ts A given.takes given.first given.opening B (EndsOrStarts L.derives L.faults us) (BeginsWith L.derives L.opens us)
        (avoids_less ts _ _ _ _ (until_starts L f right B us) (before_begins L f right B us) (apart_avoids f right ts (first_behind L f B us) given.full given.apart))

  module _ (f : Fronts L) (right : AreFronts L f) (ts : List L.Token) (A : Part L) (us : List L.Token) (given : TokensChoose L f ts A empty us) where
    pub tokens_repeat : Repeats L (by_tokens L.scan L.faults L.seen ts) A (EndsOrStarts L.derives L.faults us) (BeginsWith L.derives L.opens us)
    tokens_repeat = avoided_repeat f right ts A given.takes given.first given.opening (EndsOrStarts L.derives L.faults us) (BeginsWith L.derives L.opens us) (apart_avoids f right ts us given.full given.apart)
