use Rattle.std.proofs.Common.{refl}
use Rattle.gx_grammar.specs.Text.{AtEnd, Nowhere}
use Rattle.gx_grammar.proofs.Unique.{unique}
use Rattle.gx_grammar.proofs.laws.one_value.Goals as goal

pub returns : goal.returns
returns g c = λ A readable text v w d e. (unique g.G.HasLanguage.language readable.tokens readable.productions d e AtEnd Nowhere readable.top refl refl).0
