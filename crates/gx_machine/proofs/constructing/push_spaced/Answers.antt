use Rattle.std.proofs.Common.{◌≡◌, ◌++◌, ◌∷◌, [], ℕ, List, ap, sym, ◌∙◌}
use Rattle.gx_facets.specs.declared.Atomic.{Atomic}
use Rattle.gx_core.specs.Constructing.{spaced_values}
use Rattle.gx_machine.proofs.MadeTrees.{spaced_further, spaced_on}
use Rattle.gx_machine.proofs.constructing.push_spaced.Goals.{then-not-is_empty+in_ok-push, else-not-is_empty}
use Rattle.gx_machine.proofs.constructing.push_spaced.Goals as goal

pub loop-value-preserved : goal.loop-value-preserved
loop-value-preserved c =
    let done = c.loop-value.text in
    let value = c.in-Some.value.now in
    let others = c.in-Some.others.now in
    let shown : c.if-not-is_empty.text ++ spaced_values others ≡ done ++ spaced_values (value ∷ others) =
    elim c.if-not-is_empty.branch [
      | then-not-is_empty+in_ok-push w ↦
          spaced_on c.if-not-is_empty.text done c.in_ok-printed.printed value others c.is_empty.result c.is_empty.ensures w.if-not-is_empty.true
          (w.text-is ∙ w.in_ok-push.ensures.ok ∙ ap (λ (x : List ℕ). x ++ 32 ∷ []) c.in_ok-push_text.ensures.ok) c.in_ok-printed.ensures
      | else-not-is_empty w ↦
          spaced_further c.if-not-is_empty.text done c.in_ok-printed.printed value others c.is_empty.result c.is_empty.ensures w.if-not-is_empty.false
          (w.text-is ∙ c.in_ok-push_text.ensures.ok) c.in_ok-printed.ensures
    ] in
    shown ∙ ap (λ (values : List Atomic). done ++ spaced_values values) (sym c.in-Some.ensures.cases.0) ∙ c.loop-value.invariant
