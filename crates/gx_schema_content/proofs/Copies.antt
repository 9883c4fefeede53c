-- Copies of an empty content, and of none.
use Rattle.std.proofs.Common.{◌≡◌, ℕ, zero, suc, ◌<◌, refl, ◌∙◌, ap, arith}
use Rattle.gx_types.specs.SequenceType.{SequenceType, never, nothing, item, both, either, optional, star, plus}
use Rattle.gx_types.specs.TypeRules.{joined_types}
use Rattle.gx_types.specs.Indicator.{optional_of}
use Rattle.gx_schema_content.specs.Occurrences.{copies, optional_copies}

joined_with_never : (t : SequenceType) → joined_types t never ≡ never
joined_with_never never = refl
joined_with_never nothing = refl
joined_with_never (item kind) = refl
joined_with_never (both first second) = refl
joined_with_never (either first second) = refl
joined_with_never (optional part) = refl
joined_with_never (star part) = refl
joined_with_never (plus part) = refl

pub copies_of_nothing : (count : ℕ) (t : SequenceType) → t ≡ nothing → copies count t ≡ nothing
copies_of_nothing zero t e = refl
copies_of_nothing (suc count) t e =
    ap (λ (u : SequenceType). joined_types u t) (copies_of_nothing count t e) ∙ e

pub copies_of_never : (count : ℕ) (t : SequenceType) → t ≡ never → 0 < count → copies count t ≡ never
copies_of_never zero t e more = absurd (omega arith)
copies_of_never (suc count) t e more = ap (λ (u : SequenceType). joined_types (copies count t) u) e ∙ joined_with_never (copies count t)

pub optional_copies_of_nothing : (count : ℕ) (t : SequenceType) → t ≡ nothing → optional_copies count t ≡ nothing
optional_copies_of_nothing zero t e = refl
optional_copies_of_nothing (suc count) t e =
    ap (λ (u : SequenceType). optional_of (joined_types u (optional_copies count t))) e ∙ ap optional_of (optional_copies_of_nothing count t e)

pub optional_copies_of_never : (count : ℕ) (t : SequenceType) → t ≡ never → optional_copies count t ≡ nothing
optional_copies_of_never zero t e = refl
optional_copies_of_never (suc count) t e = ap (λ (u : SequenceType). optional_of (joined_types u (optional_copies count t))) e
