use Rattle.std.proofs.Common.{ap, arith, length}
use Rattle.gx_grammar.proofs.PublicLaws.{behind_short}
use Rattle.gx_typetext.proofs.scan.find_symbol.Goals as goal

pub returns-clause-bounded : goal.returns-clause-bounded
returns-clause-bounded c = omega (arith, behind_short c.args.letters.now c.args.text.now, ap length c.behind_letters-whole.ensures.common)
