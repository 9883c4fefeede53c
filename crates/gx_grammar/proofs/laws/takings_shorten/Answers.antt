use Rattle.gx_grammar.proofs.Sorted.{shortens}
use Rattle.gx_grammar.proofs.laws.takings_shorten.Goals as goal

pub returns : goal.returns
returns g c = λ f lawful right A takes. shortens g.G.HasLanguage.language lawful f right A takes
