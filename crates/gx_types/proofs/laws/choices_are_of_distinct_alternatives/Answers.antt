use Rattle.gx_types.proofs.PublicLaws.{choice_is_from_alternatives, prime_is_from_items}
use Rattle.gx_types.proofs.laws.choices_are_of_distinct_alternatives.Goals as goal

pub returns : goal.returns
returns c = record { choice = choice_is_from_alternatives; prime = prime_is_from_items }
