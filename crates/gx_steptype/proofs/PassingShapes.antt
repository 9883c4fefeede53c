-- What a test leaves of a type takes the shapes that pass.
use Rattle.std.proofs.Common.{List, [], ◌∷◌, subst}
use Rattle.std.specs.List.{flat_map}
use Rattle.gx_types.specs.declared.item_type.ItemType.{ItemType}
use Rattle.gx_types.specs.declared.shape.Shape.{Shape}
use Rattle.gx_types.specs.SchemaSet.{SchemaSet}
use Rattle.gx_types.specs.Derivation.{bases_of}
use Rattle.gx_types.specs.Grounded.{Grounded}
use Rattle.gx_types.specs.SequenceType.{SequenceType}
use Rattle.gx_types.specs.Takes.{Takes, EachShape}
use Rattle.gx_type_laws.proofs.Items.{all_items_hold}
use Rattle.gx_model.specs.NodeTest.{KindTest, meets}
use Rattle.gx_steptype.specs.Replaced.{replaced_items}
use Rattle.gx_steptype.specs.TestedType.{tested_item}
use Rattle.gx_steptype.proofs.FormedShapes.{IsFormed}
use Rattle.gx_steptype.proofs.Replacing.{Serves, replaced_takes, append_nil}
use Rattle.gx_steptype.proofs.Testing.{kept, tested_takes}

-- what is made of the shapes that pass
abbrev pub passing : SchemaSet → KindTest → Shape → List Shape
passing s test x = kept (meets s test x) x

tested_serves : (s : SchemaSet) → Grounded (bases_of s) → (test : KindTest) (kind : ItemType) → Serves s (IsFormed s) (passing s test) (tested_item s test) kind
tested_serves s g test kind x p h = tested_takes s g test kind x p h

-- a type takes shapes, and so what a test leaves of it takes those that pass
pub all_tested : (s : SchemaSet) → Grounded (bases_of s) → (test : KindTest) (t : SequenceType) (ss : List Shape) → EachShape (IsFormed s) ss → Takes s t ss
    → Takes s (replaced_items (tested_item s test) t) (flat_map (passing s test) ss)
all_tested s g test t ss p h =
    replaced_takes s (IsFormed s) (passing s test) (tested_item s test) t (all_items_hold (Serves s (IsFormed s) (passing s test) (tested_item s test)) (tested_serves s g test) t) ss p h

pub one_tested : (s : SchemaSet) → Grounded (bases_of s) → (test : KindTest) (t : SequenceType) (x : Shape) → IsFormed s x → Takes s t (x ∷ []) → Takes s (replaced_items (tested_item s test) t) (passing s test x)
one_tested s g test t x p h = subst (Takes s (replaced_items (tested_item s test) t)) (append_nil (passing s test x)) (all_tested s g test t (x ∷ []) (p, tt) h)
