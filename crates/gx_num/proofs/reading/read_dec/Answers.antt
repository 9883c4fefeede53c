use Rattle.gx_num.proofs.DecimalForms.{decimal_read}
use Rattle.gx_num.proofs.reading.read_dec.Goals as goal

pub returns-clause-forms : goal.returns-clause-forms
returns-clause-forms c = rw (c.read_decimal.ensures, c.as_bytes.ensures.value) (decimal_read c.args.text.now)
