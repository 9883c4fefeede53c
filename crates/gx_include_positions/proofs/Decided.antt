-- Where the bases of declared types end, the test of a shape is exact.
use Rattle.std.proofs.Common.{◌&&◌, Option, None, Some, refl, ◌↔◌}
use Rattle.std.specs.Bool.{IsTrue}
use Rattle.std.proofs.lemmas.Bool.{and_from, and_parts, false≢true}
use Rattle.gx_base.specs.declared.name.Name.{Name}
use Rattle.gx_base.specs.declared.type_name.TypeName.{TypeName}
use Rattle.gx_types.specs.declared.item_type.ItemType.{ItemType}
use Rattle.gx_types.specs.declared.item_type.ItemType.TheVariants as items
use Rattle.gx_types.specs.declared.shape.Shape.{Shape}
use Rattle.gx_types.specs.declared.shape.Shape.TheVariants as shapes
use Rattle.gx_types.specs.SchemaSet.{SchemaSet}
use Rattle.gx_types.specs.Grounded.{Grounded}
use Rattle.gx_types.specs.Derivation.{bases_of, is_derived, DerivesFrom}
use Rattle.gx_types.specs.ItemTakes.{ItemTakes, name_fits}
use Rattle.gx_types.specs.SequenceType.{SequenceType, never, nothing, item, both, either, optional, star, plus}
use Rattle.gx_types.proofs.DerivationTest.{derives_when_tested, tested_when_derives}
use Rattle.gx_include_positions.specs.Test.{is_taken, IsDecided}

module _ (s : SchemaSet) (g : Grounded (bases_of s)) where
  named : (wanted : Option Name) (name : Name) (t kind : TypeName) → IsTrue (name_fits wanted name && is_derived s t kind) ↔ (IsTrue (name_fits wanted name) × DerivesFrom s t kind)
  named wanted name t kind = (
    λ h. let p = and_parts (name_fits wanted name) (is_derived s t kind) h in (p.0, derives_when_tested s t kind p.1),
    λ h. and_from (name_fits wanted name) (is_derived s t kind) h.0 (tested_when_derives s t kind g h.1),
  )

  exact : (x : Shape) (kind : ItemType) → IsTrue (is_taken s x kind) ↔ ItemTakes s kind x
  exact (shapes.Elem name t) (items.Element wanted kind) = named wanted name t kind
  exact (shapes.Attr name t) (items.Attribute wanted kind) = named wanted name t kind
  exact shapes.Text items.Text = (λ _. tt, λ _. refl)
  exact (shapes.Doc None) (items.Document None) = (λ _. tt, λ _. refl)
  exact (shapes.Doc (Some child)) (items.Document None) = (λ _. tt, λ _. refl)
  exact (shapes.Doc (Some child)) (items.Document (Some element)) = named element.0 child.0 child.1 element.1
  exact (shapes.Doc None) (items.Document (Some element)) = (λ h. absurd (false≢true h), λ h. absurd h)
  exact (shapes.Atom t) (items.Atom kind) = (derives_when_tested s t kind, tested_when_derives s t kind g)
  exact _ (items.Document None) = (λ h. absurd (false≢true h), λ h. absurd h)
  exact _ (items.Document (Some element)) = (λ h. absurd (false≢true h), λ h. absurd h)
  exact (shapes.Doc None) _ = (λ h. absurd (false≢true h), λ h. absurd h)
  exact (shapes.Doc (Some child)) _ = (λ h. absurd (false≢true h), λ h. absurd h)
  exact _ _ = (λ h. absurd (false≢true h), λ h. absurd h)

  pub decided : (x : Shape) (t : SequenceType) → IsDecided s x t
  decided x never = tt
  decided x nothing = tt
  decided x (item kind) = exact x kind
  decided x (both a b) = (decided x a, decided x b)
  decided x (either a b) = (decided x a, decided x b)
  decided x (optional a) = decided x a
  decided x (star a) = decided x a
  decided x (plus a) = decided x a
