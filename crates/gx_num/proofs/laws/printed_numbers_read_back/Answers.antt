use Rattle.gx_num.proofs.ReadBack.{integer_back, decimal_back}
use Rattle.gx_num.proofs.laws.printed_numbers_read_back.Goals as goal

pub returns : goal.returns
returns c = record { integer = integer_back; decimal = decimal_back }
