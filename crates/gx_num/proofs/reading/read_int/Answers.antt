use Rattle.gx_num.proofs.Forms.{integer_read}
use Rattle.gx_num.proofs.reading.read_int.Goals as goal

pub returns-clause-forms : goal.returns-clause-forms
returns-clause-forms c = rw (c.read_integer.ensures, c.as_bytes.ensures.value) (integer_read c.args.text.now)
