-- What was made of parts.
use Rattle.std.proofs.Common.{◌≡◌, ℕ, Bool, false, not, List, [], ◌∷◌, length, ap, ◌∙◌, arith}
use Rattle.std.proofs.lemmas.Bool.Decides.{nat_tests}
use Rattle.std.specs.Prelude.{◌==◌, Result, Ok, Err, OnOk}
use Rattle.gx_xml.specs.Nodes.{has_some}

-- a run that is not empty has a character
pub some_there : (x : List ℕ) (b : Bool) → b ≡ (length x == 0) → not b ≡ has_some x
some_there [] b e = ap not e
some_there (c ∷ x) b e = let z : (length (c ∷ x) == 0) ≡ false = grind (arith, nat_tests) in ap not (e ∙ z)

-- what holds on Ok, where it follows from what does
pub on_ok : {T E P Q : Type 0} (r : Result T E) → OnOk r P → (P → Q) → OnOk r Q
on_ok (Ok x) p f = f p
on_ok (Err e) p f = p
