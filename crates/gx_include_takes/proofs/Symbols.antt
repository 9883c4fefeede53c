-- Equal symbols are read by the same item types, and the symbol of a shape by those that take the shape.
use Rattle.std.proofs.Common.{◌≡◌, Bool, true, false, ◌&&◌, List, [], ◌∷◌, ◌++◌, Option, None, Some, refl, sym, ◌∙◌, ap, subst, if◌then◌else◌, nat_eq, ◌+◌}
use Rattle.std.proofs.lemmas.Bool.{and_parts, eqb-true, false≢true}
use Rattle.gx_base.specs.declared.name.Name.{Name}
use Rattle.gx_types.specs.declared.item_type.ItemType.{ItemType}
use Rattle.gx_types.specs.declared.item_type.ItemType.TheVariants as items
use Rattle.gx_types.specs.SchemaSet.{SchemaSet}
use Rattle.gx_types.specs.Derivation.{is_derived}
use Rattle.gx_types.specs.SequenceType.{SequenceType, never, nothing, item, both, either, optional, star, plus}
use Rattle.gx_types.specs.declared.shape.Shape.{Shape}
use Rattle.gx_types.specs.declared.shape.Shape.TheVariants as shapes
use Rattle.gx_include_takes.specs.declared.reading.Feature.{Feature}
use Rattle.gx_include_takes.specs.declared.reading.Feature.TheVariants as features
use Rattle.gx_include_takes.specs.declared.reading.Reading.{Reading}
use Rattle.gx_include_takes.specs.declared.reading.Symbol.{Symbol}
use Rattle.gx_include_positions.proofs.EqualTypes.{derived_equally, fits_alike, fits_given}
use Rattle.gx_include_takes.specs.Features.{accepts, is_read, is_typed, may_take, known_name, HalvesAreTheTest, IsSymbolOf}
use Rattle.gx_include_positions.specs.Names.{name_given, may_fit, name_of, is_named, with_names}
use Rattle.gx_include_positions.specs.Positions.{tests_of}
use Rattle.gx_include_positions.specs.Step.{all_tests}
use Rattle.gx_include_positions.specs.Test.{is_taken}
use Rattle.gx_include_takes.specs.Transitions.{same_feature, same_reading, same_symbol}
use Rattle.gx_include_positions.proofs.KnownNames.{IsKnown, AreKnown, all_known, unlike}

module _ (s : SchemaSet) where
  pub features_alike : (f g : Feature) → same_feature f g ≡ true → (kind : ItemType) → accepts f s kind ≡ accepts g s kind
  features_alike (features.Named n) (features.Named m) e kind = fits_alike (name_of kind) n.now m.now e
  features_alike features.Unnamed features.Unnamed e kind = refl
  features_alike (features.Element t) (features.Element u) e (items.Element wanted kind) = derived_equally s t.now u.now kind e
  features_alike (features.Element t) (features.Element u) e _ = refl
  features_alike (features.Attribute t) (features.Attribute u) e (items.Attribute wanted kind) = derived_equally s t.now u.now kind e
  features_alike (features.Attribute t) (features.Attribute u) e _ = refl
  features_alike features.Text features.Text e kind = refl
  features_alike features.Document features.Document e kind = refl
  features_alike (features.DocumentOf t) (features.DocumentOf u) e (items.Document (Some element)) = derived_equally s t.now u.now element.1 e
  features_alike (features.DocumentOf t) (features.DocumentOf u) e (items.Document None) = refl
  features_alike (features.DocumentOf t) (features.DocumentOf u) e _ = refl
  features_alike (features.Atom t) (features.Atom u) e (items.Atom kind) = derived_equally s t.now u.now kind e
  features_alike (features.Atom t) (features.Atom u) e _ = refl
  features_alike _ _ e kind = absurd (false≢true e)

  symbols_alike : (r q : Symbol) → same_symbol r q ≡ true → (kind : ItemType) → is_read r s kind ≡ is_read q s kind
  symbols_alike r q e kind =
      let p = and_parts (same_feature r.name q.name) (same_feature r.kind q.kind) e in
      ap (λ b. b && accepts r.kind s kind) (features_alike r.name q.name p.0 kind) ∙ ap (λ b. accepts q.name s kind && b) (features_alike r.kind q.kind p.1 kind)

  pub readings_alike : (r q : Reading) → same_reading r q ≡ true → (r.state ≡ q.state) × ((kind : ItemType) → is_read r.symbol s kind ≡ is_read q.symbol s kind)
  readings_alike r q e =
      let p = and_parts (nat_eq r.state q.state) (same_symbol r.symbol q.symbol) e in
      (eqb-true r.state q.state p.0, symbols_alike r.symbol q.symbol p.1)

-- the halves of the test

neither : (b : Bool) → false ≡ (b && false)
neither true = refl
neither false = refl

pub halves_are_the_test : HalvesAreTheTest
halves_are_the_test s (shapes.Elem name t) (items.Element wanted kind) = ap (λ b. b && is_derived s t kind) (fits_given wanted name)
halves_are_the_test s (shapes.Elem name t) kind = neither (may_fit (name_of kind) (Some name))
halves_are_the_test s (shapes.Attr name t) (items.Attribute wanted kind) = ap (λ b. b && is_derived s t kind) (fits_given wanted name)
halves_are_the_test s (shapes.Attr name t) kind = neither (may_fit (name_of kind) (Some name))
halves_are_the_test s shapes.Text items.Text = refl
halves_are_the_test s shapes.Text kind = neither (may_fit (name_of kind) None)
halves_are_the_test s (shapes.Doc None) (items.Document None) = refl
halves_are_the_test s (shapes.Doc None) kind = neither (may_fit (name_of kind) None)
halves_are_the_test s (shapes.Doc (Some child)) (items.Document None) = refl
halves_are_the_test s (shapes.Doc (Some child)) (items.Document (Some element)) = ap (λ b. b && is_derived s child.1 element.1) (fits_given element.0 child.0)
halves_are_the_test s (shapes.Doc (Some child)) kind = neither (may_fit (name_of kind) (Some child.0))
halves_are_the_test s (shapes.Atom t) (items.Atom kind) = refl
halves_are_the_test s (shapes.Atom t) kind = neither (may_fit (name_of kind) None)

-- a name that no item type asks for is as none
other_fits : (names : List Name) (asked : Option Name) (name : Name) (b : Bool) → is_named names name ≡ b → IsKnown names asked
    → may_fit asked (if b then Some name else None) ≡ may_fit asked (Some name)
other_fits names asked name true e k = refl
other_fits names None name false e k = refl
other_fits names (Some asked) name false e k = sym (unlike names name asked e k)

known_fits : (names : List Name) (asked given : Option Name) → IsKnown names asked → may_fit asked (known_name names given) ≡ may_fit asked given
known_fits names asked None k = refl
known_fits names asked (Some name) k = other_fits names asked name (is_named names name) refl k

module _ (s : SchemaSet) (names : List Name) (x : Shape) (symbol : Symbol) (is : IsSymbolOf names x symbol) where
  one_read : (kind : ItemType) → IsKnown names (name_of kind) → is_read symbol s kind ≡ is_taken s x kind
  one_read kind k =
      ap (λ (f : SchemaSet → ItemType → Bool). f s kind && accepts symbol.kind s kind) is.by_name
      ∙ ap (λ (f : SchemaSet → ItemType → Bool). may_take (known_name names (name_given x)) s kind && f s kind) is.by_kind
      ∙ ap (λ b. b && is_typed x s kind) (known_fits names (name_of kind) (name_given x) k)
      ∙ sym (halves_are_the_test s x kind)

  all_read : (t : SequenceType) → AreKnown names t → tests_of t (is_read symbol s) ≡ tests_of t (is_taken s x)
  all_read never k = refl
  all_read nothing k = refl
  all_read (item kind) k = ap (λ b. b ∷ []) (one_read kind k)
  all_read (both a b) k = ap (λ ts. ts ++ tests_of b (is_read symbol s)) (all_read a k.0) ∙ ap (λ ts. tests_of a (is_taken s x) ++ ts) (all_read b k.1)
  all_read (either a b) k = ap (λ ts. ts ++ tests_of b (is_read symbol s)) (all_read a k.0) ∙ ap (λ ts. tests_of a (is_taken s x) ++ ts) (all_read b k.1)
  all_read (optional a) k = all_read a k
  all_read (star a) k = all_read a k
  all_read (plus a) k = all_read a k

-- the item types of a type that read the symbol of a shape are those that take the shape
pub symbol_read : (s : SchemaSet) (names : List Name) (x : Shape) (symbol : Symbol) (t : SequenceType) → names ≡ with_names [] t → IsSymbolOf names x symbol
    → all_tests t (is_read symbol s) ≡ all_tests t (is_taken s x)
symbol_read s names x symbol t e is = ap (λ ts. false ∷ ts) (all_read s names x symbol is t (subst (λ ns. AreKnown ns t) (sym e) (all_known [] t)))
