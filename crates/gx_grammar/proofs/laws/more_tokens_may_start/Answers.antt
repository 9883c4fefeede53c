use Rattle.gx_grammar.proofs.First.{begins_in, ends_in}
use Rattle.gx_grammar.proofs.laws.more_tokens_may_start.Goals as goal

pub returns-clause-stands : goal.returns-clause-stands
returns-clause-stands g c = λ ts us x among h. (let l = g.G.HasLanguage.language in ends_in l.derives l.faults ts us x among h)

pub returns-clause-begins : goal.returns-clause-begins
returns-clause-begins g c = λ ts us x among h. (let l = g.G.HasLanguage.language in begins_in l.derives l.opens ts us x among h)
