-- What contracts see of types with simple values.
use Rattle.std.specs.Prelude.{List, Vec, map}
use Rattle.std.specs.Borrow.{Bor}
use Rattle.gx_facets.specs.declared.restriction.Facets.{Facets}
use Rattle.gx_types.specs.SimpleType.{AtomicMeaning, SimpleMeaning}
use Rattle.gx_types.specs.declared.simple_type.AtomicType.{AtomicType}
use Rattle.gx_types.specs.declared.simple_type.SimpleType.{SimpleType}

abbrev pub facets_view : {A : Type 0} → Vec (Bor Facets) A → List Facets
facets_view facets = map (λ (f : Bor Facets). f.now) facets.items

abbrev pub atomic_view : AtomicType → AtomicMeaning
atomic_view a = record { kind = a.kind; bottom = a.bottom; facets = facets_view a.facets }

abbrev pub simple_view : SimpleType → SimpleMeaning
simple_view s = record { variety = s.variety; item = atomic_view s.item; facets = facets_view s.facets }
