use Rattle.std.proofs.Common.{option_map}
use Rattle.gx_types.specs.SimpleView.{simple_view}
use Rattle.gx_schema_simple.specs.Faults.{earlier_fault, first_type_fault, facet_faults}
use Rattle.gx_schema_simple.proofs.FaultLemmas.{facets_noted_at_end}
use Rattle.gx_schema_simple.proofs.faults.note_unsound.Goals as goal

pub returns : goal.returns
returns c =
    facets_noted_at_end c.args.variety (option_map simple_view c.args.base.now) c.args.number c.args.facets.now c.loop-facet.facet-index c.loop-facet.best
    (earlier_fault c.args.best.now (first_type_fault (facet_faults c.args.variety (option_map simple_view c.args.base.now) c.args.number c.args.facets.now))) c.loop-facet-test.false c.loop-facet.invariant
