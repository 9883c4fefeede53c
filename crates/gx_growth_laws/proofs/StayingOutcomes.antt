-- Outcomes that stay where the forest grows, and what is made of them in turn.
use Rattle.std.proofs.Common.{◌≡◌, Bool, true, false, Option, None, Some, refl, sym, ap, subst, if◌then◌else◌}
use Rattle.gx_model.specs.Forest.{Forest}
use Rattle.gx_core.specs.Outcome.{Outcome, gives, raises, wrong, after, given}

-- an outcome in one forest, and that in another one: a value leaves the forest as it is, is as it has to be, and is the value in the
-- other forest, too, which it leaves as it is
abbrev pub Stays : {R : Type 0} → (There : R → Type 0) → (before now : Forest) → Outcome R → Outcome R → Type 0
Stays There before now (gives value left) other = (left ≡ before) × There value × (other ≡ gives value now)
Stays There before now (raises code) other = Unit {0}
Stays There before now wrong other = Unit {0}

module _ (before now : Forest) where
  pub stays_after : {R S : Type 0} (There : R → Type 0) (Then : S → Type 0) (x : Forest → Outcome R) (next : R → Forest → Outcome S)
      → Stays There before now (x before) (x now)
      → ((value : R) → There value → Stays Then before now (next value before) (next value now))
      → Stays Then before now (after (x before) next) (after (x now) next)
  stays_after {R = R} {S = S} There Then x next h k = by_outcome (x before) (x now) h
    where
      by_outcome : (o other : Outcome R) → Stays There before now o other → Stays Then before now (after o next) (after other next)
      by_outcome (gives value left) other g =
          subst (λ (o : Outcome R). Stays Then before now (next value left) (after o next)) (sym g.2)
          (subst (λ (forest : Forest). Stays Then before now (next value forest) (next value now)) (sym g.0) (k value g.1))
      by_outcome (raises code) other g = tt
      by_outcome wrong other g = tt

  pub stays_given : {R S : Type 0} (Then : S → Type 0) (find : Forest → Option R) (next : R → Forest → Outcome S) → find now ≡ find before
      → ((value : R) → find before ≡ Some value → Stays Then before now (next value before) (next value now))
      → Stays Then before now (given (find before) (λ value. next value before)) (given (find now) (λ value. next value now))
  stays_given {R = R} {S = S} Then find next e k =
      subst (λ (found : Option R). Stays Then before now (given (find before) (λ value. next value before)) (given found (λ value. next value now)))
      (sym e) (by_found (find before) refl)
    where
      by_found : (found : Option R) → find before ≡ found
          → Stays Then before now (given found (λ value. next value before)) (given found (λ value. next value now))
      by_found None f = tt
      by_found (Some value) f = k value f

  pub stays_if : {S : Type 0} (Then : S → Type 0) (test : Forest → Bool) (chosen otherwise : Forest → Outcome S) → test now ≡ test before
      → Stays Then before now (chosen before) (chosen now) → Stays Then before now (otherwise before) (otherwise now)
      → Stays Then before now (if test before then chosen before else otherwise before) (if test now then chosen now else otherwise now)
  stays_if {S = S} Then test chosen otherwise e h k =
      subst (λ (b : Bool). Stays Then before now (if test before then chosen before else otherwise before) (if b then chosen now else otherwise now))
      (sym e) (by_test (test before))
    where
      by_test : (b : Bool) → Stays Then before now (if b then chosen before else otherwise before) (if b then chosen now else otherwise now)
      by_test true = h
      by_test false = k

  -- a value that is the same in the other forest
  pub stays_so : {R : Type 0} (There : R → Type 0) (value : Forest → R) → value now ≡ value before → There (value before)
      → Stays There before now (gives (value before) before) (gives (value now) now)
  stays_so There value e h = (refl, h, ap (λ v. gives v now) e)
