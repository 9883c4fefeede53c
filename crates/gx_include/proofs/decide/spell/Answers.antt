use Rattle.std.proofs.Common.{ℕ, ◌∙◌, ap, [], ◌∷◌, ◌++◌, append_assoc, slice_get, List}
use Rattle.gx_types.specs.declared.shape.Shape.{Shape}
use Rattle.gx_include.specs.Runs.{shapes_of_letter}
use Rattle.gx_include.proofs.decide.spell.Goals as goal

pub loop-number-preserved : goal.loop-number-preserved
loop-number-preserved c =
    let i = c.loop-number.invariant in (
      c.in-Some.number ∷ i.0,
      i.1 ∙ ap (λ (xs : List ℕ). xs ++ i.0) c.in-Some.ensures.items ∙ append_assoc c.pop.new.self.items (c.in-Some.number ∷ []) i.0,
      c.in_ok-add_shape.ensures ∙ ap (λ (xs : List Shape). xs ++ shapes_of_letter (slice_get c.args.letters.now c.in-Some.number)) i.2,
    )
