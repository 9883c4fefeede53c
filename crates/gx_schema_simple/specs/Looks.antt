-- What tables say of types.
use Rattle.gx_references.specs.Known.{known}
use Rattle.gx_schema_simple.specs.Faults.{Seen}
use Rattle.gx_schema_simple.specs.Meanings.{all_facets_of, meaning_seen}
use Rattle.gx_schema_simple.specs.Walk.{has_mark}
use Rattle.gx_schema_simple.specs.declared.faults.Look.{Look}
use Rattle.gx_schema_simple.specs.declared.variety.TypeVariety.TheVariants.{Hidden}

abbrev pub seen_by : Look → Seen
seen_by look = record {
  is_on_circle = has_mark look.marks.now;
  variety = known Hidden look.varieties.now;
  meaning = meaning_seen (all_facets_of look.bases.now look.own.now) (known Hidden look.varieties.now);
}
