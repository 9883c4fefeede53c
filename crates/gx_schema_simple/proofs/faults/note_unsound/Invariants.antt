use Rattle.std.proofs.Common.{◌≡◌, drop, option_map}
use Rattle.gx_types.specs.SimpleView.{simple_view}
use Rattle.gx_schema_simple.specs.Faults.{earlier_fault, first_type_fault, facet_faults}
use Rattle.gx_schema_simple.proofs.faults.note_unsound.Given as goal

abbrev pub invariant-loop-facet : goal.invariant-loop-facet
invariant-loop-facet l =
    earlier_fault l.best (first_type_fault (facet_faults l.variety (option_map simple_view l.base) l.number (drop l.facet-index l.facets)))
    ≡ earlier_fault l.initial.best (first_type_fault (facet_faults l.variety (option_map simple_view l.base) l.number l.facets))
