use Rattle.std.proofs.Common.{refl, arith}
use Rattle.gx_grammar.proofs.Derived.{front_opens}
use Rattle.gx_grammar.proofs.laws.front_opens.Goals as goal

pub returns : goal.returns
returns g c = λ A readable v x y d. front_opens g.G.HasLanguage.language readable.tokens d x y refl (omega arith)
