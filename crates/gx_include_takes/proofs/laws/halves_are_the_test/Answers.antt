use Rattle.gx_include_takes.proofs.Symbols as symbols
use Rattle.gx_include_takes.proofs.laws.halves_are_the_test.Goals as goal

pub returns : goal.returns
returns c = symbols.halves_are_the_test
