use Rattle.gx_grammar.proofs.Sorted.{sorted_readable}
use Rattle.gx_grammar.proofs.laws.sorted_is_readable.Goals as goal

pub returns : goal.returns
returns g c = λ f lawful right A sorted top. sorted_readable g.G.HasLanguage.language lawful f right A sorted top
