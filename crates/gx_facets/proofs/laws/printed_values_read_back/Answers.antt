use Rattle.gx_facets.proofs.PrintedForms.{printed_back}
use Rattle.gx_facets.proofs.laws.printed_values_read_back.Goals as goal

pub returns : goal.returns
returns c = printed_back (record {
  integer_forms = c.forms_are_read.ensures.integer;
  decimal_forms = c.forms_are_read.ensures.decimal;
  integers_back = c.printed_numbers_read_back.ensures.integer;
  decimals_back = c.printed_numbers_read_back.ensures.decimal;
})
