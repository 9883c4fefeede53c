-- What comes after an outcome.
use Rattle.std.proofs.Common.{◌≡◌, refl}
use Rattle.gx_model.specs.Forest.{Forest}
use Rattle.gx_core.specs.Outcome.{Outcome, gives, raises, wrong, after}

pub after_after : {Q R S : Type 0} (o : Outcome Q) (make : Q → Forest → Outcome R) (next : R → Forest → Outcome S) → after o (λ x left. after (make x left) next) ≡ after (after o make) next
after_after (gives x left) make next = refl
after_after (raises code) make next = refl
after_after wrong make next = refl

-- what follows may be written otherwise
pub same_after : {R S : Type 0} (o : Outcome R) (f g : R → Forest → Outcome S) → ((x : R) (left : Forest) → f x left ≡ g x left) → after o f ≡ after o g
same_after (gives x left) f g h = h x left
same_after (raises code) f g h = refl
same_after wrong f g h = refl
