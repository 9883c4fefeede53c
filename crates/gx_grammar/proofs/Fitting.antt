use Rattle.std.proofs.Common.{◌≡◌, ℕ, Bool, true, false, if◌then◌else◌, List, [], inl, inr, refl, ap, subst, ◌∙◌, Option, Some, None, length, length-append, arith}
use Rattle.gx_grammar.specs.Tokens.{LawfulToken}
use Rattle.gx_grammar.specs.Fitting.{IsFitting, keep_fitting, scan_fitting, fault_of, Never, scan_never, IsEmpty}
use Rattle.gx_grammar.proofs.Unique.{same_some}

module _ {V : Type 0} (derives : V → List ℕ → List ℕ → Type 0) (opens : List ℕ → Type 0) (scan : List ℕ → Option (V × List ℕ)) (seen : List ℕ → ℕ) (limits : List ℕ → Option ℕ)
    (base : LawfulToken derives opens scan seen limits) where
  kept : (test : V → Bool) (q : Option (V × List ℕ)) (v : V) (y : List ℕ) → keep_fitting test q ≡ Some (v, y) → (q ≡ Some (v, y)) × (test v ≡ true)
  kept test None v y e = absurd (cc)
  kept test (Some r) v y e = go (test r.0) refl e
    where
      go : (b : Bool) → test r.0 ≡ b → (if b then (Some r) else None) ≡ Some (v, y) → (Some r ≡ Some (v, y)) × (test v ≡ true)
      go true f g = (g, subst (λ w. test w ≡ true) (same_some r (v, y) g).0 f)
      go false f g = absurd (cc)

  -- A token with a test on its value. What stands has no fault.
  pub lawful_fitting : (test : V → Bool) (faults : List ℕ → Option ℕ) → ((v : V) (x y : List ℕ) → derives v x y → test v ≡ true → faults x ≡ None) → faults [] ≡ None
      → LawfulToken (IsFitting derives test) opens (scan_fitting scan test) seen faults
  lawful_fitting test faults firm faultless = record {
    sound = λ v x y e. (let k = kept test (scan x) v y e in record { stands = base.sound v x y k.0; fits = k.1 });
    complete = λ v x y d. ap (keep_fitting test) (base.complete v x y d.stands) ∙ ap (λ b. if b then (Some (v, y)) else None) d.fits;
    ends = λ v x y d. base.ends v x y d.stands;
    cut = λ v x y z d. record { stands = base.cut v x y z d.stands; fits = d.fits };
    goes_on = λ v x y z d. elim (base.goes_on v x y z d.stands) [ inl e ↦ inl (record { stands = e; fits = d.fits }) | inr o ↦ inr o ];
    fronts = λ v x y z d h. base.fronts v x y z d.stands h;
    sees = base.sees;
    longest = base.longest;
    firm = λ v x y d. firm v x y d.stands d.fits;
    faultless = faultless;
  }

  -- the fault where the token stands and its value fails the test
  pub fitting_firm : (code : ℕ) (test : V → Bool) (v : V) (x y : List ℕ) → derives v x y → test v ≡ true → fault_of code test (scan x) ≡ None
  fitting_firm code test v x y d f = ap (fault_of code test) (base.complete v x y d) ∙ ap (λ b. if b then None else (Some code)) f

  -- A token that may not stand, and is opened as another.
  pub lawful_stop : (faults : List ℕ → Option ℕ) → faults [] ≡ None → LawfulToken (Never {V = V}) opens scan_never seen faults
  lawful_stop faults faultless = record {
    sound = λ v x y e. absurd (cc);
    complete = λ v x y d. absurd d;
    ends = λ v x y d. absurd d;
    cut = λ v x y z d. d;
    goes_on = λ v x y z d. absurd d;
    fronts = λ v x y z d h. absurd d;
    sees = base.sees;
    longest = base.longest;
    firm = λ v x y d. absurd d;
    faultless = faultless;
  }

-- A token that may not stand, and is known by its first character.
pub lawful_barred : {V : Type 0} (faults : List ℕ → Option ℕ) → faults [] ≡ None → LawfulToken (Never {V = V}) IsEmpty scan_never length faults
lawful_barred faults faultless = record {
  sound = λ v x y e. absurd (cc);
  complete = λ v x y d. absurd d;
  ends = λ v x y d. absurd d;
  cut = λ v x y z d. d;
  goes_on = λ v x y z d. absurd d;
  fronts = λ v x y z d h. absurd d;
  sees = λ x. record { front = []; rest = x; whole = refl; place = refl; opened = inl refl };
  longest = λ x z o. omega (arith, ap length o, length-append x z);
  firm = λ v x y d. absurd d;
  faultless = faultless;
}
