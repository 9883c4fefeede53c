-- Types that are joined from the last to the first.
use Rattle.std.proofs.Common.{◌≡◌, List, [], ◌∷◌, ◌++◌, refl, ap}
use Rattle.gx_types.specs.SequenceType.{SequenceType, nothing}
use Rattle.gx_types.specs.TypeRules.{joined_types}
use Rattle.gx_static.specs.Rule.{joined_in_order}

-- types in front of one that is there
abbrev pub joined_before : List SequenceType → SequenceType → SequenceType
joined_before [] behind = behind
joined_before (t ∷ types) behind = joined_types t (joined_before types behind)

pub all_joined_before : (types : List SequenceType) → joined_before types nothing ≡ joined_in_order types
all_joined_before [] = refl
all_joined_before (t ∷ types) = ap (joined_types t) (all_joined_before types)

pub last_joined : (types : List SequenceType) (t behind : SequenceType) → joined_before (types ++ t ∷ []) behind ≡ joined_before types (joined_types t behind)
last_joined [] t behind = refl
last_joined (u ∷ types) t behind = ap (joined_types u) (last_joined types t behind)
