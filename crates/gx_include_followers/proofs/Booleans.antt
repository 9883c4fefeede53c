-- Equations of tests, shown at all values of their parts.
use Rattle.std.proofs.Common.{◌≡◌, ℕ, zero, suc, Bool, true, false, ◌&&◌, refl}
use Rattle.std.specs.Cmp.{booleans_Decides}
use Rattle.std.proofs.lemmas.Bool.{and_parts}
use mathlib.Core.Bool.{beq}

-- a test of so many parts
abbrev pub Test : ℕ → Type 0
Test zero = Bool
Test (suc n) = Bool → Test n

abbrev pub at_all_values : (n : ℕ) → Test n → Bool
at_all_values zero test = test
at_all_values (suc n) test = at_all_values n (test true) && at_all_values n (test false)

abbrev pub Always : (n : ℕ) → Test n → Type 0
Always zero test = test ≡ true
Always (suc n) test = (b : Bool) → Always n (test b)

pub always : (n : ℕ) (test : Test n) → at_all_values n test ≡ true → Always n test
always zero test h = h
always (suc n) test h =
    let both = and_parts (at_all_values n (test true)) (at_all_values n (test false)) h in by_value (always n (test true) both.0) (always n (test false) both.1)
  where
    by_value : Always n (test true) → Always n (test false) → (b : Bool) → Always n (test b)
    by_value one other true = one
    by_value one other false = other

pub same_tests : (x y : Bool) → beq x y ≡ true → x ≡ y
same_tests x y h = (booleans_Decides x y).0 h
