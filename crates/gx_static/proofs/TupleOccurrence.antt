-- How often tuples occur behind all clauses.
use Rattle.std.proofs.Common.{◌≡◌, ℕ, zero, suc, min, List, [], ◌∷◌, length, drop, refl, arith}
use Rattle.gx_types.specs.SequenceType.{SequenceType}
use Rattle.gx_types.specs.Occurrence.{occurs}
use Rattle.gx_core.specs.declared.operator.ClauseKind.{ClauseKind}
use Rattle.gx_static.specs.Rule.{tuples_occur}

-- behind all clauses that have a part there is one tuple
pub none_behind : (kinds : List ClauseKind) (types : List SequenceType) (n : ℕ) → n ≡ min (length kinds) (length types) → tuples_occur (drop n kinds) (drop n types) ≡ occurs 1 1
none_behind [] types zero e = refl
none_behind [] types (suc n) e = absurd (omega (arith, e))
none_behind (kind ∷ kinds) [] zero e = refl
none_behind (kind ∷ kinds) [] (suc n) e = absurd (omega (arith, e))
none_behind (kind ∷ kinds) (t ∷ types) zero e = absurd (omega (arith, e))
none_behind (kind ∷ kinds) (t ∷ types) (suc n) e = none_behind kinds types n (omega (arith, e))
