use Rattle.gx_facets.proofs.IntegerTypes.{integer_value}
use Rattle.gx_facets.proofs.reading.read_value.Goals as goal

pub returns-in-Integer : goal.returns-in-Integer
returns-in-Integer c = rw (integer_value c.args.text.now c.args.kind c.in-Integer.is) c.integer_of_type.ensures
