-- Declared types that no item type asks for have no letters.
use Rattle.std.proofs.Common.{◌≡◌, ℕ, zero, suc, ◌+◌, Bool, true, false, ◌&&◌, ◌||◌, List, [], ◌∷◌, ◌++◌, map, None, Some, refl, sym, ◌∙◌, ap, get_or, if◌then◌else◌}
use Rattle.std.specs.List.{flat_map, list_any}
use Rattle.std.proofs.lemmas.Grind.{flat_map-append}
use Rattle.gx_base.specs.declared.name.Name.{Name}
use Rattle.gx_base.specs.declared.type_name.TypeName.{TypeName}
use Rattle.gx_types.specs.declared.declaration.Declared.{Declared}
use Rattle.gx_types.specs.declared.item_type.ItemType.{ItemType}
use Rattle.gx_types.specs.declared.item_type.ItemType.TheVariants as items
use Rattle.gx_types.specs.declared.shape.Shape.{Shape}
use Rattle.gx_types.specs.declared.shape.Shape.TheVariants as shapes
use Rattle.gx_types.specs.ItemTakes.{name_fits}
use Rattle.gx_types.specs.SchemaSet.{SchemaSet, names_declared}
use Rattle.gx_include_letters.specs.declared.trial.Sort.{Sort}
use Rattle.gx_include_letters.specs.declared.trial.Sort.TheVariants.{Element, Attribute, Document}
use Rattle.gx_include_letters.specs.Alphabet.{entry_if, entries_over, shapes_asked}
use Rattle.gx_include_derivations.specs.Asked.{asks, is_asked, types_asked}
use Rattle.gx_include_letters.specs.WellFormed.{built_in_types, plain_types}
use Rattle.gx_include_letters.specs.ItemIndex.{tests_at}
use Rattle.gx_include_positions.specs.Test.{is_taken}
use Rattle.gx_include_letters.specs.Trials.{made, named_shapes, trial_shapes, untyped}

and-false : (b : Bool) → b && false ≡ false
and-false true = refl
and-false false = refl

-- what is not asked for is not taken

untaken : (s : SchemaSet) (sort : Sort) (name : Name) (t : TypeName) (k : ItemType) → asks s t k ≡ false → is_taken s (made sort name t) k ≡ false
untaken s Element name t (items.Element wanted kind) h = ap (λ b. name_fits wanted name && b) h ∙ and-false (name_fits wanted name)
untaken s Element name t (items.Attribute wanted kind) h = refl
untaken s Element name t items.Text h = refl
untaken s Element name t (items.Document None) h = refl
untaken s Element name t (items.Document (Some element)) h = refl
untaken s Element name t (items.Atom kind) h = refl
untaken s Attribute name t (items.Element wanted kind) h = refl
untaken s Attribute name t (items.Attribute wanted kind) h = ap (λ b. name_fits wanted name && b) h ∙ and-false (name_fits wanted name)
untaken s Attribute name t items.Text h = refl
untaken s Attribute name t (items.Document None) h = refl
untaken s Attribute name t (items.Document (Some element)) h = refl
untaken s Attribute name t (items.Atom kind) h = refl
untaken s Document name t (items.Element wanted kind) h = refl
untaken s Document name t (items.Attribute wanted kind) h = refl
untaken s Document name t items.Text h = refl
untaken s Document name t (items.Document None) h = absurd (cc)
untaken s Document name t (items.Document (Some element)) h = ap (λ b. name_fits element.0 name && b) h ∙ and-false (name_fits element.0 name)
untaken s Document name t (items.Atom kind) h = refl

untaken_atom : (s : SchemaSet) (t : TypeName) (k : ItemType) → asks s t k ≡ false → is_taken s (shapes.Atom t) k ≡ false
untaken_atom s t (items.Element wanted kind) h = refl
untaken_atom s t (items.Attribute wanted kind) h = refl
untaken_atom s t items.Text h = refl
untaken_atom s t (items.Document None) h = refl
untaken_atom s t (items.Document (Some element)) h = refl
untaken_atom s t (items.Atom kind) h = h

none_taken : (asked taken : ItemType → Bool) (kinds : List ItemType) → ((k : ItemType) → asked k ≡ false → taken k ≡ false) → list_any asked kinds ≡ false → (i : ℕ) → get_or (map taken kinds) i false ≡ false
none_taken asked taken [] f h i = refl
none_taken asked taken (k ∷ kinds) f h zero = f k (first (asked k) (list_any asked kinds) h)
  where
    first : (x y : Bool) → x || y ≡ false → x ≡ false
    first true y h = absurd (cc)
    first false y h = refl
none_taken asked taken (k ∷ kinds) f h (suc i) = none_taken asked taken kinds f (others (asked k) (list_any asked kinds) h) i
  where
    others : (x y : Bool) → x || y ≡ false → y ≡ false
    others true y h = absurd (cc)
    others false y h = h

no_test : (asked taken : ItemType → Bool) (kinds : List ItemType) → ((k : ItemType) → asked k ≡ false → taken k ≡ false) → list_any asked kinds ≡ false → (place : ℕ) → get_or (tests_at kinds taken) place false ≡ false
no_test asked taken kinds f h zero = refl
no_test asked taken kinds f h (suc place) = none_taken asked taken kinds f h place

-- lists of shapes of types

module _ {A : Type 0} (s : SchemaSet) (left : List ItemType) (f : Shape → List A) where
  thinner : (g : TypeName → Shape) → ((t : TypeName) → is_asked s left t ≡ false → f (g t) ≡ []) → (ds : List Declared)
      → flat_map f (map g (flat_map (λ (d : Declared). if is_asked s left d.name then d.name ∷ [] else []) ds)) ≡ flat_map f (map g (names_declared ds))
  thinner g none [] = refl
  thinner g none (d ∷ ds) = by (is_asked s left d.name) refl ∙ ap (λ es. f (g d.name) ++ es) (thinner g none ds)
    where
      rest : List TypeName
      rest = flat_map (λ (d : Declared). if is_asked s left d.name then d.name ∷ [] else []) ds

      by : (b : Bool) → is_asked s left d.name ≡ b → flat_map f (map g ((if b then d.name ∷ [] else []) ++ rest)) ≡ f (g d.name) ++ flat_map f (map g rest)
      by true e = refl
      by false e = ap (λ es. es ++ flat_map f (map g rest)) (sym (none d.name e))

  -- behind other types
  module _ (g : TypeName → Shape) (none : (t : TypeName) → is_asked s left t ≡ false → f (g t) ≡ []) where
    thin_behind : (front : List TypeName) → flat_map f (map g (front ++ types_asked s left)) ≡ flat_map f (map g (front ++ names_declared s.types))
    thin_behind [] = thinner g none s.types
    thin_behind (t ∷ front) = ap (λ es. f (g t) ++ es) (thin_behind front)

  thin_named : (sort : Sort) → ((name : Name) (t : TypeName) → is_asked s left t ≡ false → f (made sort name t) ≡ []) → (front : List TypeName) (names : List Name)
      → flat_map f (named_shapes sort (front ++ types_asked s left) names) ≡ flat_map f (named_shapes sort (front ++ names_declared s.types) names)
  thin_named sort none front [] = refl
  thin_named sort none front (name ∷ names) =
      flat_map-append f (map (λ t. made sort name t) (front ++ types_asked s left)) (named_shapes sort (front ++ types_asked s left) names)
      ∙ ap (λ es. es ++ flat_map f (named_shapes sort (front ++ types_asked s left) names)) (thin_behind (λ t. made sort name t) (none name) front)
      ∙ ap (λ es. flat_map f (map (λ t. made sort name t) (front ++ names_declared s.types)) ++ es) (thin_named sort none front names)
      ∙ sym (flat_map-append f (map (λ t. made sort name t) (front ++ names_declared s.types)) (named_shapes sort (front ++ names_declared s.types) names))

  both_parts : (xs ys us vs : List Shape) → flat_map f xs ≡ flat_map f us → flat_map f ys ≡ flat_map f vs → flat_map f (xs ++ ys) ≡ flat_map f (us ++ vs)
  both_parts xs ys us vs e g =
      flat_map-append f xs ys ∙ ap (λ es. es ++ flat_map f ys) e ∙ ap (λ es. flat_map f us ++ es) g ∙ sym (flat_map-append f us vs)

  by_types : (some all : List TypeName) (names : List Name) → flat_map f (map shapes.Atom some) ≡ flat_map f (map shapes.Atom all)
      → flat_map f (named_shapes Element (untyped ∷ some) names) ≡ flat_map f (named_shapes Element (untyped ∷ all) names)
      → flat_map f (named_shapes Attribute some names) ≡ flat_map f (named_shapes Attribute all names)
      → flat_map f (named_shapes Document (untyped ∷ some) names) ≡ flat_map f (named_shapes Document (untyped ∷ all) names)
      → flat_map f (trial_shapes some names) ≡ flat_map f (trial_shapes all names)
  by_types some all names atoms elements attributes documents =
      both_parts (map shapes.Atom some ++ named_shapes Element (untyped ∷ some) names ++ named_shapes Attribute some names ++ (shapes.Text ∷ shapes.Doc None ∷ []))
      (named_shapes Document (untyped ∷ some) names)
      (map shapes.Atom all ++ named_shapes Element (untyped ∷ all) names ++ named_shapes Attribute all names ++ (shapes.Text ∷ shapes.Doc None ∷ []))
      (named_shapes Document (untyped ∷ all) names)
      (both_parts (map shapes.Atom some ++ named_shapes Element (untyped ∷ some) names ++ named_shapes Attribute some names) (shapes.Text ∷ shapes.Doc None ∷ [])
      (map shapes.Atom all ++ named_shapes Element (untyped ∷ all) names ++ named_shapes Attribute all names) (shapes.Text ∷ shapes.Doc None ∷ [])
      (both_parts (map shapes.Atom some ++ named_shapes Element (untyped ∷ some) names) (named_shapes Attribute some names) (map shapes.Atom all ++ named_shapes Element (untyped ∷ all) names)
      (named_shapes Attribute all names) (both_parts (map shapes.Atom some) (named_shapes Element (untyped ∷ some) names) (map shapes.Atom all) (named_shapes Element (untyped ∷ all) names) atoms elements) attributes)
      refl)
      documents

  thin_shapes : ((sort : Sort) (name : Name) (t : TypeName) → is_asked s left t ≡ false → f (made sort name t) ≡ []) → ((t : TypeName) → is_asked s left t ≡ false → f (shapes.Atom t) ≡ []) → (names : List Name)
      → flat_map f (shapes_asked s left names) ≡ flat_map f (trial_shapes (plain_types s) names)
  thin_shapes named atom names =
      by_types (built_in_types ++ types_asked s left) (plain_types s) names (thin_behind shapes.Atom atom built_in_types) (thin_named Element (named Element) (untyped ∷ built_in_types) names)
      (thin_named Attribute (named Attribute) built_in_types names) (thin_named Document (named Document) (untyped ∷ built_in_types) names)

pub asked_enough : (s : SchemaSet) (left right : List ItemType) (names : List Name) (place : ℕ)
    → entries_over s left right (shapes_asked s left names) place ≡ entries_over s left right (trial_shapes (plain_types s) names) place
asked_enough s left right names place =
    thin_shapes s left (λ x. entry_if place x (tests_at left (is_taken s x)) (tests_at right (is_taken s x)))
    (λ sort name t h. none (made sort name t) t (untaken s sort name t) h) (λ t h. none (shapes.Atom t) t (untaken_atom s t) h) names
  where
    none : (x : Shape) (t : TypeName) → ((k : ItemType) → asks s t k ≡ false → is_taken s x k ≡ false) → is_asked s left t ≡ false
        → entry_if place x (tests_at left (is_taken s x)) (tests_at right (is_taken s x)) ≡ []
    none x t f h = ap (λ b. if b then (place, x, tests_at right (is_taken s x)) ∷ [] else []) (no_test (asks s t) (is_taken s x) left f h place)
