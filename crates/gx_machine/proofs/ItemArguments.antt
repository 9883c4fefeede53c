-- Arguments as parameters ask for them, one behind another.
use Rattle.std.proofs.Common.{◌≡◌, ◌≤◌, ℕ, ◌++◌, ◌∷◌, [], List, None, sym, ◌∙◌, ap, drop, length, append_assoc, append-nil}
use Rattle.std.specs.Prelude.{slice_get}
use Rattle.gx_types.specs.SchemaSet.{SchemaSet}
use Rattle.gx_funcs.specs.declared.function.Parameter.{Parameter}
use Rattle.gx_funcs.specs.Function.{conversion_of}
use Rattle.gx_model.specs.Forest.{Forest}
use Rattle.gx_model.specs.Item.{Items}
use Rattle.gx_core.specs.Arguments.{argument_by, arguments_by}
use Rattle.gx_core.specs.Outcome.{Outcome, gives, wrong, after}
use Rattle.gx_machine.specs.declared.failure.Failure.{Failure}
use Rattle.gx_machine.specs.Failing.{FailsSo}
use Rattle.gx_machine.proofs.Outcomes.{after_after, same_after}
use Rattle.gx_machine.proofs.Resuming.{fails_also}
use Rattle.gx_machine.proofs.ValueArguments.{no_parameter_left, some_left, none_left}

-- an argument behind those that are there
pub one_argument : (s : SchemaSet) (p : Parameter) (ps : List Parameter) (xs ys : Items) (arguments done : List Items) (forest : Forest)
    → argument_by (conversion_of p.takes) s xs forest ≡ gives ys forest
    → after (arguments_by s ps arguments forest) (λ others last. gives ((done ++ ys ∷ []) ++ others) last) ≡ after (arguments_by s (p ∷ ps) (xs ∷ arguments) forest) (λ all last. gives (done ++ all) last)
one_argument s p ps xs ys arguments done forest e =
    same_after (arguments_by s ps arguments forest) _ _ (λ others last. ap (λ (all : List Items). gives all last) (append_assoc done (ys ∷ []) others))
    ∙ after_after (arguments_by s ps arguments forest) (λ others last. gives (ys ∷ others) last) (λ all last. gives (done ++ all) last)
    ∙ sym (ap (λ (o : Outcome Items). after (after o (λ found left. after (arguments_by s ps arguments left) (λ others last. gives (found ∷ others) last))) (λ all last. gives (done ++ all) last)) e)

pub argument_fails : (s : SchemaSet) (p : Parameter) (ps : List Parameter) (xs : Items) (arguments : List Items) (forest : Forest) (e : Failure) (next : List Items → Forest → Outcome Items)
    → ((then : Items → Forest → Outcome Items) → FailsSo e (after (argument_by (conversion_of p.takes) s xs forest) then))
    → FailsSo e (after (arguments_by s (p ∷ ps) (xs ∷ arguments) forest) next)
argument_fails s p ps xs arguments forest e next h =
    fails_also e _ _ (sym (after_after (argument_by (conversion_of p.takes) s xs forest) (λ found left. after (arguments_by s ps arguments left) (λ others last. gives (found ∷ others) last)) next))
    (h (λ found left. after (after (arguments_by s ps arguments left) (λ others last. gives (found ∷ others) last)) next))

-- what is so of the arguments that are left is so of all
pub so_far : (o all : Outcome (List Items)) (done : List Items) (next : List Items → Forest → Outcome Items) → after o (λ others left. gives (done ++ others) left) ≡ all
    → after all next ≡ after o (λ others left. next (done ++ others) left)
so_far o all done next e = sym (ap (λ (p : Outcome (List Items)). after p next) e) ∙ sym (after_after o (λ others left. gives (done ++ others) left) next)

-- an argument without a parameter, a parameter without an argument, and no more of both
pub no_parameter : (s : SchemaSet) (ps : List Parameter) (number : ℕ) (arguments : List Items) (xs : Items) (others : List Items) (forest : Forest) (next : List Items → Forest → Outcome Items)
    → slice_get ps number ≡ None → arguments ≡ xs ∷ others → after (arguments_by s (drop number ps) arguments forest) next ≡ wrong
no_parameter s ps number arguments xs others forest next e h = let none = no_parameter_left ps number e in λ i. after (arguments_by s (none i) (h i) forest) next

pub no_argument : (s : SchemaSet) (ps : List Parameter) (number : ℕ) (arguments : List Items) (forest : Forest) (next : List Items → Forest → Outcome Items)
    → number ≤ length ps → (number ≡ length ps → ⊥) → arguments ≡ [] → after (arguments_by s (drop number ps) arguments forest) next ≡ wrong
no_argument s ps number arguments forest next l n h = let r = some_left ps number l n in λ i. after (arguments_by s (r.2 i) (h i) forest) next

pub no_more : (s : SchemaSet) (ps : List Parameter) (number : ℕ) (arguments done : List Items) (forest : Forest)
    → number ≡ length ps → arguments ≡ [] → after (arguments_by s (drop number ps) arguments forest) (λ others left. gives (done ++ others) left) ≡ gives done forest
no_more s ps number arguments done forest e h =
    let none = none_left ps number e in (λ i. after (arguments_by s (none i) (h i) forest) (λ others left. gives (done ++ others) left)) ∙ ap (λ (all : List Items). gives all forest) (append-nil done)
