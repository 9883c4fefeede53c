-- What the operations mean, in the words of arithmetic.
use Rattle.std.specs.Prelude.{◌<◌, ◌≡◌, ℤ, pos, ◌+ℤ◌, ◌*ℤ◌, ◌≤ℤ◌, ◌<ℤ◌, unsigned_abs}

-- q and r are what dividing a by d toward zero gives and leaves: r is smaller than d and has the sign of a
pub record IsTruncatedDivision (a d q r : ℤ) : Type 0 where
  pub adds_up : q *ℤ d +ℤ r ≡ a
  pub smaller : unsigned_abs r < unsigned_abs d
  pub not_negative : pos 0 ≤ℤ a → pos 0 ≤ℤ r
  pub not_positive : a ≤ℤ pos 0 → r ≤ℤ pos 0

-- w is the greatest multiple of d that is not above a
pub record IsGreatestMultipleBelow (d a w : ℤ) : Type 0 where
  pub multiple : (n : ℤ) × (w ≡ n *ℤ d)
  pub not_above : w ≤ℤ a
  pub next_above : a <ℤ (w +ℤ d)
