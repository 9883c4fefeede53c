use Rattle.std.proofs.Common.{◌≡◌, ℕ, ◌≤◌, List, ◌++◌, inl, inr, length, refl, sym, ap, subst, ◌∙◌, Option, Some, None, arith}
use Rattle.gx_grammar.specs.Tokens.{LawfulToken, SeesUpTo, no_fault}
use Rattle.gx_grammar.specs.Words.{or_else}
use Rattle.gx_grammar.specs.Either.{IsEither, OpensEither, scan_either, seen_either, IsMapped, map_value, scan_mapped}
use Rattle.gx_grammar.proofs.Readings.{min_is}
use Rattle.gx_grammar.proofs.Unique.{same_some}

module _ {V : Type 0} (first : V → List ℕ → List ℕ → Type 0) (opens1 : List ℕ → Type 0) (scan1 : List ℕ → Option (V × List ℕ)) (seen1 : List ℕ → ℕ) (left : LawfulToken first opens1 scan1 seen1 no_fault)
    (second : V → List ℕ → List ℕ → Type 0) (opens2 : List ℕ → Type 0) (scan2 : List ℕ → Option (V × List ℕ)) (seen2 : List ℕ → ℕ) (right : LawfulToken second opens2 scan2 seen2 no_fault)
    (never : (v u : V) (x y z : List ℕ) → first v x y → second u x z → ⊥) where
  sound : (v : V) (x y : List ℕ) → scan_either scan1 scan2 x ≡ Some (v, y) → IsEither first second v x y
  sound v x y e = go (scan1 x) refl e
    where
      go : (q : Option (V × List ℕ)) → scan1 x ≡ q → or_else q (scan2 x) ≡ Some (v, y) → IsEither first second v x y
      go (Some r) f g = inl (left.sound v x y (f ∙ g))
      go None f g = inr (right.sound v x y g)

  complete : (v : V) (x y : List ℕ) → IsEither first second v x y → scan_either scan1 scan2 x ≡ Some (v, y)
  complete v x y (inl d) = ap (λ q. or_else q (scan2 x)) (left.complete v x y d)
  complete v x y (inr d) = go (scan1 x) refl
    where
      go : (q : Option (V × List ℕ)) → scan1 x ≡ q → or_else q (scan2 x) ≡ Some (v, y)
      go (Some r) f = absurd (never r.0 v x r.1 y (left.sound r.0 x r.1 f) d)
      go None f = right.complete v x y d

  sees : (x : List ℕ) → SeesUpTo (OpensEither opens1 opens2) x (seen_either seen1 seen2 x)
  sees x = elim (min_is (seen1 x) (seen2 x)) [
    | inl e ↦ (let s = left.sees x in record { front = s.front; rest = s.rest; whole = s.whole; place = s.place ∙ sym e; opened = elim s.opened [ inl n ↦ inl n | inr o ↦ inr (inl o) ] })
    | inr e ↦ (let s = right.sees x in record { front = s.front; rest = s.rest; whole = s.whole; place = s.place ∙ sym e; opened = elim s.opened [ inl n ↦ inl n | inr o ↦ inr (inr o) ] })
  ]

  longest : (x z : List ℕ) → OpensEither opens1 opens2 x → seen_either seen1 seen2 (x ++ z) ≤ length z
  longest x z (inl o) = let h = left.longest x z o in omega (arith, h)
  longest x z (inr o) = let h = right.longest x z o in omega (arith, h)

  -- One of two tokens that never stand at one place.
  pub lawful_either : LawfulToken (IsEither first second) (OpensEither opens1 opens2) (scan_either scan1 scan2) (seen_either seen1 seen2) no_fault
  lawful_either = record {
    sound = sound;
    complete = complete;
    ends = λ v x y d. elim d [ inl e ↦ left.ends v x y e | inr e ↦ right.ends v x y e ];
    cut = λ v x y z d. elim d [ inl e ↦ inl (left.cut v x y z e) | inr e ↦ inr (right.cut v x y z e) ];
    goes_on = λ v x y z d. elim d [
      | inl e ↦ elim (left.goes_on v x y z e) [ inl f ↦ inl (inl f) | inr o ↦ inr (inl o) ]
      | inr e ↦ elim (right.goes_on v x y z e) [ inl f ↦ inl (inr f) | inr o ↦ inr (inr o) ]
    ];
    fronts = λ v x y z d h. elim d [ inl e ↦ inl (left.fronts v x y z e h) | inr e ↦ inr (right.fronts v x y z e h) ];
    sees = sees;
    longest = longest;
    firm = λ v x y d. refl;
    faultless = refl;
  }

module _ {V : Type 0} (derives : V → List ℕ → List ℕ → Type 0) (opens : List ℕ → Type 0) (scan : List ℕ → Option (V × List ℕ)) (seen : List ℕ → ℕ) (faults : List ℕ → Option ℕ) (base : LawfulToken derives opens scan seen faults) (value : V → V) where
  mapped_sound : (v : V) (x y : List ℕ) → scan_mapped scan value x ≡ Some (v, y) → IsMapped derives value v x y
  mapped_sound v x y e = go (scan x) refl e
    where
      go : (q : Option (V × List ℕ)) → scan x ≡ q → map_value value q ≡ Some (v, y) → IsMapped derives value v x y
      go None f g = absurd (cc)
      go (Some r) f g =
          let s = same_some (value r.0, r.1) (v, y) g in
          record { inner = r.0; stands = subst (λ z. derives r.0 x z) s.1 (base.sound r.0 x r.1 f); same = sym s.0 }

  -- A token with a value of its own.
  pub lawful_mapped : LawfulToken (IsMapped derives value) opens (scan_mapped scan value) seen faults
  lawful_mapped = record {
    sound = mapped_sound;
    complete = λ v x y d. ap (map_value value) (base.complete d.inner x y d.stands) ∙ ap (λ u. Some (u, y)) (sym d.same);
    ends = λ v x y d. base.ends d.inner x y d.stands;
    cut = λ v x y z d. record { inner = d.inner; stands = base.cut d.inner x y z d.stands; same = d.same };
    goes_on = λ v x y z d. elim (base.goes_on d.inner x y z d.stands) [ inl e ↦ inl (record { inner = d.inner; stands = e; same = d.same }) | inr o ↦ inr o ];
    fronts = λ v x y z d h. base.fronts d.inner x y z d.stands h;
    sees = base.sees;
    longest = base.longest;
    firm = λ v x y d. base.firm d.inner x y d.stands;
    faultless = base.faultless;
  }
