use Rattle.gx_grammar.proofs.Avoiding.{leftmost_cut, leftmost_until}
use Rattle.gx_grammar.proofs.laws.leftmost_stands.Goals as goal

pub returns-clause-stands : goal.returns-clause-stands
returns-clause-stands g c = λ f right F P us vs l x h. leftmost_until g.G.HasLanguage.language f right l x h

pub returns-clause-begins : goal.returns-clause-begins
returns-clause-begins g c = λ f right F P us vs l x h. leftmost_cut g.G.HasLanguage.language f right l x h
