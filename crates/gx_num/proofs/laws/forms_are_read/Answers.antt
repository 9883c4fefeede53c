use Rattle.gx_num.proofs.Forms.{integer_read}
use Rattle.gx_num.proofs.DecimalForms.{decimal_read}
use Rattle.gx_num.proofs.laws.forms_are_read.Goals as goal

pub returns-clause-integer : goal.returns-clause-integer
returns-clause-integer c = integer_read

pub returns-clause-decimal : goal.returns-clause-decimal
returns-clause-decimal c = decimal_read
