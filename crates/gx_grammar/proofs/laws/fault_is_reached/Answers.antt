use Rattle.std.proofs.Common.{refl}
use Rattle.gx_grammar.proofs.Halted.{opens_front}
use Rattle.gx_grammar.proofs.laws.fault_is_reached.Goals as goal

pub returns : goal.returns
returns g c = λ A readable text z code h. (let r = opens_front g.G.HasLanguage.language readable.tokens h in record { front = r.0; rest = z; whole = r.1; place = refl; opens = r.2 })
