use Rattle.gx_grammar.proofs.Decoding.{unreadable_at}
use Rattle.gx_grammar.proofs.laws.unreadable_bytes_have_a_place.Goals as goal

pub returns : goal.returns
returns c = λ bytes front n place h e p. unreadable_at bytes front n place h e p
