-- Division truncated toward zero.
use Rattle.std.proofs.Common.{◌<◌, ℤ, pos, negsuc, unsigned_abs, int_div, int_rem, arith}
use Rattle.std.specs.Prelude.{◌≤ℤ◌}
use Rattle.std.proofs.Math.Nat.{mod-le}
use Rattle.std.proofs.lemmas.Int.{ints, quot-rem, rem_below}
use Rattle.gx_num.specs.Laws.{IsTruncatedDivision}

rem_not_negative : (a d : ℤ) → pos 0 ≤ℤ a → pos 0 ≤ℤ int_rem a d
rem_not_negative (pos a) d h = omega (arith, ints)
rem_not_negative (negsuc a) d h = absurd (omega (arith, ints))

rem_not_positive : (a d : ℤ) → a ≤ℤ pos 0 → int_rem a d ≤ℤ pos 0
rem_not_positive (pos a) d h = omega (arith, ints, mod-le a (unsigned_abs d))
rem_not_positive (negsuc a) d h = omega (arith, ints)

pub division : (a d : ℤ) → 0 < unsigned_abs d → IsTruncatedDivision a d (int_div a d) (int_rem a d)
division a d some = record {
  adds_up = quot-rem a d;
  smaller = rem_below a d some;
  not_negative = rem_not_negative a d;
  not_positive = rem_not_positive a d;
}
