-- Tokens that are one of several words keep the laws of tokens, and how they look.
use Rattle.std.proofs.Common.{◌≡◌, ℕ, ◌≤◌, true, List, [], ◌∷◌, ◌++◌, ◌⊎◌, inl, inr, length, refl, sym, ap, subst, ◌∙◌, Option, Some, None, min, arith}
use Rattle.gx_grammar.specs.Tokens.{LawfulToken, SeesUpTo, IsWord, IsFrontOf, no_fault, scan_word, seen_word}
use Rattle.gx_grammar.specs.Words.{Entry, IsOneOf, OpensOneOf, or_else, scan_one_of, seen_one_of, spellings}
use Rattle.gx_grammar.specs.Apart.{Spells, OpensWord, words_apart, apart_from, all_words_apart}
use Rattle.gx_grammar.proofs.Readings.{min_is}
use Rattle.gx_grammar.proofs.Tokens.{lawful_word, and_parts}
use Rattle.gx_grammar.proofs.Apart.{words_never}

-- two tokens of which never both stand
module _ {V : Type 0} (first : V → List ℕ → List ℕ → Type 0) (opens1 : List ℕ → Type 0) (scan1 : List ℕ → Option (V × List ℕ)) (seen1 : List ℕ → ℕ) (left : LawfulToken first opens1 scan1 seen1 no_fault)
    (second : V → List ℕ → List ℕ → Type 0) (opens2 : List ℕ → Type 0) (scan2 : List ℕ → Option (V × List ℕ)) (seen2 : List ℕ → ℕ) (right : LawfulToken second opens2 scan2 seen2 no_fault)
    (never : (v w : V) (x y z : List ℕ) → first v x y → second w x z → ⊥) where
  abbrev Either : V → List ℕ → List ℕ → Type 0
  Either v x y = first v x y ⊎ second v x y

  abbrev opens : List ℕ → Type 0
  opens x = opens1 x ⊎ opens2 x

  either_sound : (v : V) (x y : List ℕ) → or_else (scan1 x) (scan2 x) ≡ Some (v, y) → Either v x y
  either_sound v x y e = go (scan1 x) refl e
    where
      go : (q : Option (V × List ℕ)) → scan1 x ≡ q → or_else q (scan2 x) ≡ Some (v, y) → Either v x y
      go None f g = inr (right.sound v x y g)
      go (Some r) f g = inl (left.sound v x y (f ∙ g))

  either_complete : (v : V) (x y : List ℕ) → Either v x y → or_else (scan1 x) (scan2 x) ≡ Some (v, y)
  either_complete v x y (inl d) = ap (λ q. or_else q (scan2 x)) (left.complete v x y d)
  either_complete v x y (inr d) = go (scan1 x) refl
    where
      go : (q : Option (V × List ℕ)) → scan1 x ≡ q → or_else q (scan2 x) ≡ Some (v, y)
      go None f = right.complete v x y d
      go (Some r) f = absurd (never r.0 v x r.1 y (left.sound r.0 x r.1 f) d)

  either_ends : (v : V) (x y : List ℕ) → Either v x y → (a : List ℕ) × (x ≡ a ++ y)
  either_ends v x y (inl d) = left.ends v x y d
  either_ends v x y (inr d) = right.ends v x y d

  either_cut : (v : V) (x y z : List ℕ) → Either v (x ++ z) (y ++ z) → Either v x y
  either_cut v x y z (inl d) = inl (left.cut v x y z d)
  either_cut v x y z (inr d) = inr (right.cut v x y z d)

  either_goes_on : (v : V) (x y z : List ℕ) → Either v x y → Either v (x ++ z) (y ++ z) ⊎ opens x
  either_goes_on v x y z (inl d) = elim (left.goes_on v x y z d) [ inl e ↦ inl (inl e) | inr o ↦ inr (inl o) ]
  either_goes_on v x y z (inr d) = elim (right.goes_on v x y z d) [ inl e ↦ inl (inr e) | inr o ↦ inr (inr o) ]

  either_fronts : (v : V) (x y z : List ℕ) → Either v (x ++ z) y → length y ≤ length z → opens x
  either_fronts v x y z (inl d) h = inl (left.fronts v x y z d h)
  either_fronts v x y z (inr d) h = inr (right.fronts v x y z d h)

  first_sees : (x : List ℕ) → SeesUpTo opens x (seen1 x)
  first_sees x = let s = left.sees x in record { front = s.front; rest = s.rest; whole = s.whole; place = s.place; opened = elim s.opened [ inl e ↦ inl e | inr o ↦ inr (inl o) ] }

  second_sees : (x : List ℕ) → SeesUpTo opens x (seen2 x)
  second_sees x = let s = right.sees x in record { front = s.front; rest = s.rest; whole = s.whole; place = s.place; opened = elim s.opened [ inl e ↦ inl e | inr o ↦ inr (inr o) ] }

  either_sees : (x : List ℕ) → SeesUpTo opens x (min (seen1 x) (seen2 x))
  either_sees x = elim (min_is (seen1 x) (seen2 x)) [
    | inl f ↦ subst (λ n. SeesUpTo opens x n) (sym f) (first_sees x)
    | inr f ↦ subst (λ n. SeesUpTo opens x n) (sym f) (second_sees x)
  ]

  either_longest : (x z : List ℕ) → opens x → min (seen1 (x ++ z)) (seen2 (x ++ z)) ≤ length z
  either_longest x z (inl o) = let k = left.longest x z o in omega (arith, k)
  either_longest x z (inr o) = let k = right.longest x z o in omega (arith, k)

  lawful_either : LawfulToken Either opens (λ x. or_else (scan1 x) (scan2 x)) (λ x. min (seen1 x) (seen2 x)) no_fault
  lawful_either = record {
    sound = either_sound;
    complete = either_complete;
    ends = either_ends;
    cut = either_cut;
    goes_on = either_goes_on;
    fronts = either_fronts;
    sees = either_sees;
    longest = either_longest;
    firm = λ v x y d. refl;
    faultless = refl;
  }

module _ {V : Type 0} where
  entry_never : (e : Entry V) (es : List (Entry V)) → apart_from (spellings es) e.spelling ≡ true → (v w : V) (x y z : List ℕ) → IsWord e.value e.spelling.word e.spelling.test v x y → IsOneOf es w x z → ⊥
  entry_never e [] f v w x y z d h = h
  entry_never e (r ∷ es) f v w x y z d (inl h) =
      let a = and_parts (words_apart e.spelling.word e.spelling.test r.spelling.word r.spelling.test) (apart_from (spellings es) e.spelling) f in
      words_never e.spelling.word e.spelling.test r.spelling.word r.spelling.test a.0 y z (sym d.spelled ∙ h.spelled) d.ended h.ended
  entry_never e (r ∷ es) f v w x y z d (inr h) =
      let a = and_parts (words_apart e.spelling.word e.spelling.test r.spelling.word r.spelling.test) (apart_from (spellings es) e.spelling) f in
      entry_never e es a.1 v w x y z d h

  none_lawful : LawfulToken {V = V} (IsOneOf []) (OpensOneOf {V = V} []) (scan_one_of []) (seen_one_of {V = V} []) no_fault
  none_lawful = record {
    sound = λ v x y e. absurd (cc);
    complete = λ v x y d. absurd d;
    ends = λ v x y d. absurd d;
    cut = λ v x y z d. d;
    goes_on = λ v x y z d. absurd d;
    fronts = λ v x y z d h. absurd d;
    sees = λ x. record { front = []; rest = x; whole = refl; place = refl; opened = inl refl };
    longest = λ x z o. absurd o;
    firm = λ v x y d. refl;
    faultless = refl;
  }

  -- Words of which no two stand at one place are a token.
  pub lawful_one_of : (es : List (Entry V)) → all_words_apart (spellings es) ≡ true → LawfulToken (IsOneOf es) (OpensOneOf es) (scan_one_of es) (seen_one_of es) no_fault
  lawful_one_of [] f = none_lawful
  lawful_one_of (e ∷ es) f =
      let a = and_parts (apart_from (spellings es) e.spelling) (all_words_apart (spellings es)) f in
      lawful_either (IsWord e.value e.spelling.word e.spelling.test) (λ x. IsFrontOf x e.spelling.word) (scan_word e.value e.spelling.word e.spelling.test) (seen_word e.spelling.word)
      (lawful_word e.value e.spelling.word e.spelling.test) (IsOneOf es) (OpensOneOf es) (scan_one_of es) (seen_one_of es) (lawful_one_of es a.1) (entry_never e es a.0)

  pub one_of_spells : (es : List (Entry V)) (v : V) (x y : List ℕ) → IsOneOf es v x y → Spells (spellings es) x
  one_of_spells [] v x y d = d
  one_of_spells (e ∷ es) v x y (inl d) = inl (y, d.spelled, d.ended)
  one_of_spells (e ∷ es) v x y (inr d) = inr (one_of_spells es v x y d)

  pub one_of_opened : (es : List (Entry V)) (x : List ℕ) → OpensOneOf es x → OpensWord (spellings es) x
  one_of_opened [] x o = o
  one_of_opened (e ∷ es) x (inl o) = inl o
  one_of_opened (e ∷ es) x (inr o) = inr (one_of_opened es x o)

  pub one_of_opening : (es : List (Entry V)) (x : List ℕ) → OpensWord (spellings es) x → OpensOneOf es x
  one_of_opening [] x o = o
  one_of_opening (e ∷ es) x (inl o) = inl o
  one_of_opening (e ∷ es) x (inr o) = inr (one_of_opening es x o)
