use Rattle.gx_grammar.proofs.Read.{exact_reads}
use Rattle.gx_grammar.proofs.laws.productions_are_exact.Goals as goal

pub returns : goal.returns
returns g c = λ lawful decided levels p. exact_reads g.G.HasLanguage.language lawful decided levels p
