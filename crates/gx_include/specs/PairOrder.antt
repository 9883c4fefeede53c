-- When two pairs are equal.
use Rattle.std.specs.Prelude.{ℕ, Bool, ◌==◌, ◌++◌, List}
use Rattle.std.specs.Ordering.{on, eq_of_both}
use Rattle.std.specs.Cmp.{unsigned_Decides}
use Rattle.std.specs.Hash as fed
use Rattle.std.specs.Hash.{Alike, and-Alike, on_Alike, same_Alike}
use Rattle.gx_include_followers.specs.NumberSet.{flagged}
use Rattle.gx_include_followers.specs.NumberSetOrder.{same_number_sets, number_sets_are_alike}

abbrev pub same_pair : ℕ × List Bool → ℕ × List Bool → Bool
same_pair = eq_of_both (on (λ (p : ℕ × List Bool). p.0) ◌==◌) (on (λ (p : ℕ × List Bool). p.1) same_number_sets)

-- equal pairs are hashed alike
pub pairs_are_alike : Alike same_pair (λ (p : ℕ × List Bool). fed.usize p.0 ++ fed.slice fed.usize (flagged p.1))
pairs_are_alike =
    and-Alike (on_Alike (λ (p : ℕ × List Bool). p.0) (same_Alike fed.usize unsigned_Decides)) (on_Alike (λ (p : ℕ × List Bool). p.1) number_sets_are_alike)
