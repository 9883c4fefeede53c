use Rattle.std.proofs.Common.{ap, arith, length}
use Rattle.gx_grammar.proofs.PublicLaws.{behind_short}
use Rattle.gx_parse_tokens.proofs.scan.find_word.Goals as goal

pub returns-else-whole-clause-bounded : goal.returns-else-whole-clause-bounded
returns-else-whole-clause-bounded c = omega (arith, behind_short c.letters.result.now c.args.text.now, ap length c.behind_letters-whole.ensures.common)

pub returns-then-may_end-clause-bounded : goal.returns-then-may_end-clause-bounded
returns-then-may_end-clause-bounded c = omega (arith, behind_short c.letters.result.now c.args.text.now, ap length c.behind_letters-whole.ensures.common)
