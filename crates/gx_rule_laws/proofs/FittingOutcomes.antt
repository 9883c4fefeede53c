-- What follows an outcome, where the evaluations that follow it fit.
use Rattle.std.proofs.Common.{◌≡◌, ℕ, suc, ◌+◌, List, [], ◌∷◌, ◌++◌, length, refl, subst, arith}
use Rattle.std.specs.List.{AllByRecursion}
use Rattle.gx_types.specs.SequenceType.{SequenceType}
use Rattle.gx_types.specs.Occurrence.{occurrence_of}
use Rattle.gx_types.specs.TypeRules.{times_of}
use Rattle.gx_model.specs.Belongs.{Belongs}
use Rattle.gx_model.specs.Forest.{Forest}
use Rattle.gx_model.specs.Growth.{Extends}
use Rattle.gx_model.specs.Honest.{IsHonest}
use Rattle.gx_model.specs.Item.{Item, Items}
use Rattle.gx_model.proofs.PublicLaws.{growth_is_an_order, values_stay}
use Rattle.gx_core.specs.Evaluations.{PartEvaluation, evaluation_of_part, evaluations_after, turn_evaluations}
use Rattle.gx_core.specs.Meaning.{Bindings, Denotation, for_each}
use Rattle.gx_core.specs.Outcome.{Outcome, gives, raises, wrong, after}
use Rattle.gx_core.specs.Soundness.{Setting, KeepsFact, IsOfType, Keeps}
use Rattle.gx_core.proofs.KeptFacts.{fact_at_once}
use Rattle.gx_static.proofs.ItemLemmas.{belongs_within}
use Rattle.gx_static.proofs.Loops.{copies, Made, one_more_made, fact_so, joined_belongs_times, copies_joined}

pub from_earlier : {R : Type 0} (setting : Setting) (before now : Forest) (Fact : Forest → R → Type 0) (outcome : Outcome R) → Extends before now
    → KeepsFact setting now Fact outcome → KeepsFact setting before Fact outcome
from_earlier setting before now Fact (gives x left) grown h =
    record { grown = growth_is_an_order.transitive before now left grown h.grown; honest = h.honest; fact = h.fact }
from_earlier setting before now Fact (raises code) grown h = tt
from_earlier setting before now Fact wrong grown h = absurd h

pub fits_after : {R S : Type 0} (setting : Setting) (Holds : PartEvaluation → Type 0) (before : Forest) (Fact : Forest → R → Type 0) (Then : Forest → S → Type 0)
    (outcome : Outcome R) (next : R → Forest → Outcome S) (asked : R → Forest → List PartEvaluation) → KeepsFact setting before Fact outcome
    → AllByRecursion Holds (evaluations_after outcome asked)
    → ((x : R) (left : Forest) → Extends before left → IsHonest setting.schemas left → Fact left x → AllByRecursion Holds (asked x left) → KeepsFact setting left Then (next x left))
    → KeepsFact setting before Then (after outcome next)
fits_after setting Holds before Fact Then (gives x left) next asked h fits k =
    from_earlier setting before left Then (next x left) h.grown (k x left h.grown h.honest h.fact fits)
fits_after setting Holds before Fact Then (raises code) next asked h fits k = tt
fits_after setting Holds before Fact Then wrong next asked h fits k = absurd h

-- ---- loops

module _ (setting : Setting) (Holds : PartEvaluation → Type 0) (t : SequenceType) (bound : ℕ → Item → Bindings) (body : Denotation)
    (body_keeps : (bindings : Bindings) (forest : Forest) → Holds (evaluation_of_part 1 bindings forest) → Keeps setting forest t (body bindings forest)) where
  turns_keep : (xs : Items) (number n m : ℕ) (done : Items) (forest : Forest) → m ≡ n + length xs → IsHonest setting.schemas forest
      → AllByRecursion Holds (turn_evaluations 1 bound body number xs forest) → Made setting.schemas t n forest done
      → KeepsFact setting forest (Made setting.schemas t m) (for_each (λ k x now. body (bound k x) now) number done xs forest)
  turns_keep [] number n m done forest e honest fits made =
      let same : n ≡ m = omega (arith, e) in
      fact_at_once setting forest (Made setting.schemas t m) done honest (subst (λ (k : ℕ). Made setting.schemas t k forest done) same made)
  turns_keep (x ∷ xs) number n m done forest e honest fits made =
      fits_after setting Holds forest (IsOfType setting.schemas t) (Made setting.schemas t m) (body (bound number x) forest)
      (λ more left. for_each (λ k y now. body (bound k y) now) (suc number) (done ++ more) xs left)
      (λ more left. turn_evaluations 1 bound body (suc number) xs left) (body_keeps (bound number x) forest fits.0) fits.1
      (λ more left grown still belongs rest. turns_keep xs (suc number) (suc n) m (done ++ more) left (omega (arith, e)) still rest
      (one_more_made setting.schemas left t n done more (values_stay setting.schemas forest left done (copies n t) grown made) belongs))

  pub loop_keeps : (a : SequenceType) (xs : Items) (forest : Forest) → IsHonest setting.schemas forest → Belongs setting.schemas forest xs a
      → AllByRecursion Holds (turn_evaluations 1 bound body 1 xs forest)
      → Keeps setting forest (times_of t (occurrence_of a)) (for_each (λ k x now. body (bound k x) now) 1 [] xs forest)
  loop_keeps a xs forest honest b fits =
      let none : Made setting.schemas t 0 forest [] = record { seen = []; shaped = tt; taken = refl } in
      fact_so setting forest (Made setting.schemas t (length xs)) (IsOfType setting.schemas (times_of t (occurrence_of a))) (for_each (λ k x now. body (bound k x) now) 1 [] xs forest)
      (λ now ys made. joined_belongs_times setting.schemas now t (occurrence_of a) (length xs) ys made.seen (belongs_within setting.schemas forest a xs b) made.shaped
      (copies_joined setting.schemas t (length xs) made.seen made.taken))
      (turns_keep xs 1 0 (length xs) [] forest (omega arith) honest fits none)
