-- When two sets are equal.
use Rattle.std.specs.Prelude.{ℕ, Bool, List, refl}
use Rattle.std.specs.Cmp.Lexicographic.{pointwise}
use Rattle.std.specs.Cmp.{booleans_Decides}
use Rattle.std.specs.Hash as fed
use Rattle.std.specs.Hash.{Alike, same_Alike}
use Rattle.std.proofs.lemmas.Slice.Eq.{slice_eq-Decides}
use Rattle.gx_include_followers.specs.NumberSet.{flagged}
use mathlib.Core.Bool.{beq}

abbrev pub same_number_sets : List Bool → List Bool → Bool
same_number_sets = pointwise beq

-- equal sets are hashed alike
pub number_sets_are_alike : Alike same_number_sets (λ (flags : List Bool). fed.slice fed.usize (flagged flags))
number_sets_are_alike = same_Alike (λ (flags : List Bool). fed.slice fed.usize (flagged flags)) (λ x y. slice_eq-Decides booleans_Decides x y (same_number_sets x y) refl)
