use Rattle.gx_facets.proofs.ReadValues.{reads_fit}
use Rattle.gx_facets.proofs.laws.read_values_fit.Goals as goal

pub returns : goal.returns
returns c = reads_fit c.forms_are_read.ensures.integer c.forms_are_read.ensures.decimal
