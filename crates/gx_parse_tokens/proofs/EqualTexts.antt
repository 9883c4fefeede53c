-- Texts that are equal by comparison are the same text.
use Rattle.std.proofs.Common.{◌≡◌, ℕ, List, true}
use Rattle.std.specs.Cmp.Lexicographic.{pointwise_decides}
use Rattle.std.specs.Cmp.{unsigned_Decides}
use Rattle.gx_base.specs.Text.{same_text}

pub equal_texts : (a b : List ℕ) → same_text a b ≡ true → a ≡ b
equal_texts a b e = (pointwise_decides unsigned_Decides a b).0 e
