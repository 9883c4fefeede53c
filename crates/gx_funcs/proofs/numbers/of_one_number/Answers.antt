use Rattle.gx_funcs.specs.Numbers.{exact_of}
use Rattle.gx_funcs.proofs.NumberLemmas.{no_one_number}
use Rattle.gx_funcs.proofs.numbers.of_one_number.Goals as goal

pub returns-in_default : goal.returns-in_default
returns-in_default c = no_one_number (exact_of c.args.function) c.args.values.now c.in_default.len_at_least
