-- Pairs that compare as equal are equal, and what goes into the set of found pairs.
use Rattle.std.proofs.Common.{◌≡◌, ℕ, Bool, true, false, not, List, [], ◌∷◌, ◌++◌, inr, Some, refl, sym, ◌∙◌, ap, nat_eq, slice_get, if◌then◌else◌}
use Rattle.std.specs.List.{list_any}
use Rattle.std.specs.Cmp.{unsigned_Decides, booleans_Decides}
use Rattle.std.specs.Cmp.Lexicographic.{pointwise, pointwise_decides}
use Rattle.std.proofs.lemmas.Bool.{and_parts}
use Rattle.std.proofs.lemmas.Option.{slice_get_within, get_or_from_slice_get}
use mathlib.Core.Bool.{beq}
use Rattle.gx_include.specs.declared.walk.Origin.{Origin}
use Rattle.gx_include.specs.PairOrder.{same_pair}
use Rattle.gx_include.specs.Origins.{IsNoted}

pair_of : {A B : Type 0} (p q : A × B) → p.0 ≡ q.0 → p.1 ≡ q.1 → p ≡ q
pair_of {A} {B} p q e f = let one : A → A × B = λ u. (u, p.1) in let other : B → A × B = λ v. (q.0, v) in ap one e ∙ ap other f

pub equal_pairs : (p q : ℕ × List Bool) → same_pair p q ≡ true → p ≡ q
equal_pairs p q h =
    let parts = and_parts (nat_eq p.0 q.0) (pointwise beq p.1 q.1) h in
    pair_of p q ((unsigned_Decides p.0 q.0).0 parts.0) ((pointwise_decides booleans_Decides p.1 q.1).0 parts.1)

not_false : (b : Bool) → false ≡ not b → b ≡ true
not_false true e = refl
not_false false e = absurd (cc)

pub stood : (pairs pairs2 : List (ℕ × List Bool)) (origins : List Origin) (pair : ℕ × List Bool) (origin : Origin) (i : ℕ) (k : ℕ × List Bool)
    → pairs2 ≡ (if list_any (same_pair pair) pairs then pairs else (pairs ++ pair ∷ [])) → false ≡ not (list_any (same_pair pair) pairs)
    → slice_get pairs2 i ≡ Some k → same_pair pair k ≡ true → IsNoted pairs origins pair origin pairs2 origins
stood pairs pairs2 origins pair origin i k e f g h =
    let there : list_any (same_pair pair) pairs ≡ true = not_false (list_any (same_pair pair) pairs) f in
    let same : pairs2 ≡ pairs = e ∙ ap (λ (b : Bool). if b then pairs else (pairs ++ pair ∷ [])) there in
    let at : slice_get pairs i ≡ Some pair = ap (λ xs. slice_get xs i) (sym same) ∙ g ∙ ap (λ x. Some x) (sym (equal_pairs pair k h)) in
    inr (same, refl, (i, slice_get_within pairs i pair at, get_or_from_slice_get pairs i pair pair at))
