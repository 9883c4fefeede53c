use Rattle.gx_facets.proofs.PrintedForms.{integers_by_form, decimals_by_form}
use Rattle.gx_facets.proofs.laws.numbers_are_read_by_their_forms.Goals as goal

pub returns-clause-integer : goal.returns-clause-integer
returns-clause-integer c = integers_by_form c.forms_are_read.ensures.integer

pub returns-clause-decimal : goal.returns-clause-decimal
returns-clause-decimal c = decimals_by_form c.forms_are_read.ensures.decimal
