-- The public laws, as terms.
use Rattle.std.proofs.Common.{◌≡◌, ℕ, zero, suc, ◌≤◌, true, false, List, length, sym, ◌∙◌, subst, arith, inl, inr}
use Rattle.std.proofs.lemmas.Bool.{cases_Bool, true≢false}
use Rattle.gx_references.specs.References.{named_by, ends, ends_within, meaning_within}
use Rattle.gx_references.specs.Laws.{LooksAtReferences, Solves, MeaningsSolve, OneSolution, MoreStepsChangeNothing, EndsAreSoon, CircleIfEndless, EndlessIfCircle}
use Rattle.gx_references.proofs.Passing.{member_passes}
use Rattle.gx_references.proofs.Steps.{ends_by, meaning_agrees, means_the_same_one_later, means_the_same_by}
use Rattle.gx_references.proofs.CircleLemmas.{circle_has_no_end}
use Rattle.gx_references.proofs.Endless.{circle_if_endless}

pub meanings_solve : {B M : Type 0} (references : B → List ℕ) (meant : (ℕ → M) → B → M) (nothing : M) → LooksAtReferences references meant → MeaningsSolve references meant nothing
meanings_solve references meant nothing looks bodies number e = sym (means_the_same_one_later references meant nothing looks bodies (length bodies) number e)

-- each solution agrees, by the steps within which references end
solution_agrees : {B M : Type 0} (references : B → List ℕ) (meant : (ℕ → M) → B → M) (nothing : M) → LooksAtReferences references meant → (bodies : List B) (meanings : ℕ → M) → Solves references meant nothing bodies meanings →
    (steps number : ℕ) → steps ≤ length bodies → ends_within references bodies steps number ≡ true → meanings number ≡ meaning_within meant nothing bodies steps number
solution_agrees references meant nothing looks bodies meanings solves zero number within e = absurd (true≢false (sym e))
solution_agrees references meant nothing looks bodies meanings solves (suc steps) number within e =
    solves number (ends_by references bodies (suc steps) (length bodies) number within e)
    ∙ meaning_agrees references meant nothing looks bodies meanings (meaning_within meant nothing bodies steps) number
    (λ other here. solution_agrees references meant nothing looks bodies meanings solves steps other (omega arith) (member_passes (ends_within references bodies steps) (named_by references bodies number) other e here))

pub one_solution : {B M : Type 0} (references : B → List ℕ) (meant : (ℕ → M) → B → M) (nothing : M) → LooksAtReferences references meant → OneSolution references meant nothing
one_solution references meant nothing looks bodies meanings solves number e = solution_agrees references meant nothing looks bodies meanings solves (length bodies) number (omega arith) e

pub more_steps_change_nothing : {B M : Type 0} (references : B → List ℕ) (meant : (ℕ → M) → B → M) (nothing : M) → LooksAtReferences references meant → MoreStepsChangeNothing references meant nothing
more_steps_change_nothing references meant nothing looks bodies steps number within e = means_the_same_by references meant nothing looks bodies (length bodies) steps number within e

-- a circle ends within no number of steps, so what ends within some leads to none
pub ends_are_soon : {B : Type 0} (references : B → List ℕ) → EndsAreSoon references
ends_are_soon references bodies steps number e = elim (cases_Bool (ends references bodies number)) [
  | inl is_so ↦ is_so
  | inr is_not ↦
      let (other, way, circle) = circle_if_endless references bodies number is_not in
      absurd (true≢false (sym e ∙ elim way [
        | inl same ↦ subst (λ (n : ℕ). ends_within references bodies steps n ≡ false) same (circle_has_no_end references bodies steps other other circle circle)
        | inr refers ↦ circle_has_no_end references bodies steps number other refers circle
      ]))
]

pub endless_if_circle : {B : Type 0} (references : B → List ℕ) → EndlessIfCircle references
endless_if_circle references bodies number other way circle = circle_has_no_end references bodies (length bodies) number other way circle

pub circle_if_endless_law : {B : Type 0} (references : B → List ℕ) → CircleIfEndless references
circle_if_endless_law references bodies number fails = circle_if_endless references bodies number fails
