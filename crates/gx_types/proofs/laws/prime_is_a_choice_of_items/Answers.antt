use Rattle.gx_types.proofs.PublicLaws.{prime_is_a_choice_of_items}
use Rattle.gx_types.proofs.laws.prime_is_a_choice_of_items.Goals as goal

pub returns : goal.returns
returns c = prime_is_a_choice_of_items
