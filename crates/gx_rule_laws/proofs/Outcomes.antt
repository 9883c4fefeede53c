-- What operators of one operand come to.
use Rattle.std.proofs.Common.{◌≡◌, [], ◌∷◌, refl}
use Rattle.gx_model.specs.Forest.{Forest}
use Rattle.gx_model.specs.Item.{Items}
use Rattle.gx_core.specs.declared.operator.Operator.TheVariants as operators
use Rattle.gx_core.specs.Outcome.{Outcome, gives, raises, wrong, after}
use Rattle.gx_core.specs.Paths.{put_in_order}
use Rattle.gx_core.specs.Meaning.{Context, Bindings, Denotation, acts, denoted}

-- an outcome whose value is in document order: to put it in order changes nothing
abbrev pub StaysInOrder : Outcome Items → Type 0
StaysInOrder outcome = after outcome put_in_order ≡ outcome

pub order_is : (context : Context) (operand : Denotation) (bindings : Bindings) (forest : Forest)
    → denoted context operators.Order (operand ∷ []) bindings forest ≡ after (operand bindings forest) put_in_order
order_is context operand bindings forest = by_outcome (operand bindings forest)
  where
    by_outcome : (o : Outcome Items) → after (after o (λ xs left. gives (xs ∷ []) left)) (acts context operators.Order) ≡ after o put_in_order
    by_outcome (gives xs left) = refl
    by_outcome (raises code) = refl
    by_outcome wrong = refl

-- where what follows each value stays in order, so does the whole
pub stays_after : {R : Type 0} (outcome : Outcome R) (next : R → Forest → Outcome Items)
    → ((x : R) (left : Forest) → outcome ≡ gives x left → StaysInOrder (next x left)) → StaysInOrder (after outcome next)
stays_after (gives x left) next h = h x left refl
stays_after (raises code) next h = refl
stays_after wrong next h = refl

pub after_gives : {R : Type 0} (outcome : Outcome R) → after outcome gives ≡ outcome
after_gives (gives x left) = refl
after_gives (raises code) = refl
after_gives wrong = refl
