-- The shape that stands for another one: with a tried name and a listed type, the same item types take it.
use Rattle.std.proofs.Common.{◌≡◌, Bool, true, false, ◌&&◌, List, [], ◌∷◌, ◌++◌, map, inl, inr, Option, None, Some, refl, sym, ◌∙◌, ap, length, ◌+◌}
use Rattle.std.specs.List.{list_any}
use Rattle.std.proofs.lemmas.Bool.{or_cases}
use Rattle.gx_base.specs.Name.{same_name}
use Rattle.gx_base.specs.declared.name.Name.{Name}
use Rattle.gx_base.specs.declared.type_name.TypeName.{TypeName}
use Rattle.gx_types.specs.declared.item_type.ItemType.{ItemType}
use Rattle.gx_types.specs.declared.item_type.ItemType.TheVariants as items
use Rattle.gx_types.specs.declared.shape.Shape.{Shape}
use Rattle.gx_types.specs.declared.shape.Shape.TheVariants as shapes
use Rattle.gx_types.specs.SameItemType.{same_type_name}
use Rattle.gx_types.specs.SchemaSet.{SchemaSet}
use Rattle.gx_types.specs.Derivation.{bases_of, is_derived}
use Rattle.gx_types.specs.ItemTakes.{name_fits}
use Rattle.gx_types.specs.SequenceType.{SequenceType, never, nothing, item, both, either, optional, star, plus}
use Rattle.gx_types.proofs.EqualNames.{names_are_equivalent}
use Rattle.gx_include_letters.specs.declared.trial.Sort.{Sort}
use Rattle.gx_include_letters.specs.declared.trial.Sort.TheVariants.{Element, Attribute, Document}
use Rattle.gx_include_positions.specs.Positions.{tests_of}
use Rattle.gx_include_positions.specs.Test.{is_taken}
use Rattle.gx_include_letters.specs.WellFormed.{plain_types, element_types, IsWellFormedShape}
use Rattle.gx_include_positions.specs.Names.{name_of, is_named}
use Rattle.gx_include_letters.specs.Trials.{made, named_shapes, trial_shapes}
use Rattle.gx_include_positions.proofs.KnownNames.{IsKnown, AreKnown, unlike}
use Rattle.gx_include_positions.proofs.EqualTypes.{derived_alike}
use Rattle.gx_include_positions.proofs.Lists.{In, in_left, in_right, in_map, in_flat}

-- tests of lists

found : {X : Type 0} (test : X → Bool) (xs : List X) → list_any test xs ≡ true → (x : X) × In x xs × (test x ≡ true)
found test [] h = absurd (cc)
found test (x ∷ xs) h =
    elim (or_cases (test x) (list_any test xs) h) [ inl k ↦ (x, inl refl, k) | inr k ↦ let q = found test xs k in (q.0, inr q.1, q.2) ]

-- the name that stands for another one
abbrev NameStands : List Name → List Name → Name → Type 0
NameStands names tried name = (stand : Name) × In stand tried × ((wanted : Option Name) → IsKnown names wanted → name_fits wanted stand ≡ name_fits wanted name)

listed_fits : (names : List Name) (name stand : Name) → same_name name stand ≡ true → (wanted : Option Name) → IsKnown names wanted → name_fits wanted stand ≡ name_fits wanted name
listed_fits names name stand e None h = refl
listed_fits names name stand e (Some wanted) h = names_are_equivalent.symm wanted stand ∙ sym (names_are_equivalent.congr name stand wanted e) ∙ names_are_equivalent.symm name wanted

other_fits : (names : List Name) (name other : Name) → is_named names name ≡ false → is_named names other ≡ false
    → (wanted : Option Name) → IsKnown names wanted → name_fits wanted other ≡ name_fits wanted name
other_fits names name other e f None h = refl
other_fits names name other e f (Some wanted) h = unlike names other wanted f h ∙ sym (unlike names name wanted e h)

name_stands : (names : List Name) (other : Name) → is_named names other ≡ false → (name : Name) → NameStands names (names ++ other ∷ []) name
name_stands names other f name =
    elim (is_named names name) as (λ (b : Bool). is_named names name ≡ b → NameStands names (names ++ other ∷ []) name) [
      | true ↦ λ e. let q = found (same_name name) names e in (q.0, in_left q.0 names (other ∷ []) q.1, listed_fits names name q.0 q.2)
      | false ↦ λ e. (other, in_right other names (other ∷ []) (inl refl), other_fits names name other e f)
    ] refl

-- shapes

module _ (s : SchemaSet) (names : List Name) where
  -- the item types whose names are in the list take both shapes or neither
  abbrev pub Alike : Shape → Shape → Type 0
  Alike x y = (kind : ItemType) → IsKnown names (name_of kind) → is_taken s x kind ≡ is_taken s y kind

  both_alike : (wanted : Option Name) (n m : Name) (t u kind : TypeName) → ((w : Option Name) → IsKnown names w → name_fits w m ≡ name_fits w n) → same_type_name t u ≡ true → IsKnown names wanted
      → (name_fits wanted m && is_derived s u kind) ≡ (name_fits wanted n && is_derived s t kind)
  both_alike wanted n m t u kind f e k =
      ap (λ b. b && is_derived s u kind) (f wanted k) ∙ ap (λ b. name_fits wanted n && b) (derived_alike (bases_of s) (length (bases_of s) + 23) t u kind e)

  elements_alike : (n m : Name) (t u : TypeName) → ((w : Option Name) → IsKnown names w → name_fits w m ≡ name_fits w n) → same_type_name t u ≡ true → Alike (shapes.Elem m u) (shapes.Elem n t)
  elements_alike n m t u f e (items.Element wanted kind) k = both_alike wanted n m t u kind f e k
  elements_alike n m t u f e _ k = refl

  attributes_alike : (n m : Name) (t u : TypeName) → ((w : Option Name) → IsKnown names w → name_fits w m ≡ name_fits w n) → same_type_name t u ≡ true → Alike (shapes.Attr m u) (shapes.Attr n t)
  attributes_alike n m t u f e (items.Attribute wanted kind) k = both_alike wanted n m t u kind f e k
  attributes_alike n m t u f e _ k = refl

  documents_alike : (n m : Name) (t u : TypeName) → ((w : Option Name) → IsKnown names w → name_fits w m ≡ name_fits w n) → same_type_name t u ≡ true
      → Alike (shapes.Doc (Some (m, u))) (shapes.Doc (Some (n, t)))
  documents_alike n m t u f e (items.Document (Some element)) k = both_alike element.0 n m t u element.1 f e k
  documents_alike n m t u f e (items.Document None) k = refl
  documents_alike n m t u f e _ k = refl

  atoms_alike : (t u : TypeName) → same_type_name t u ≡ true → Alike (shapes.Atom u) (shapes.Atom t)
  atoms_alike t u e (items.Atom kind) k = derived_alike (bases_of s) (length (bases_of s) + 23) t u kind e
  atoms_alike t u e _ k = refl

  -- what is tried
  in_named : (sort : Sort) (types : List TypeName) (tried : List Name) (n : Name) (t : TypeName) → In n tried → In t types → In (made sort n t) (named_shapes sort types tried)
  in_named sort types tried n t h k = in_flat (λ name. map (λ u. made sort name u) types) n (made sort n t) tried h (in_map (λ u. made sort n u) t types k)

  -- the tried shape that stands for a shape
  abbrev pub ShapeStands : List Shape → Shape → Type 0
  ShapeStands tried x = (stand : Shape) × In stand tried × Alike stand x

  -- the five parts of what is tried
  in_first : (x : Shape) (one two three four five : List Shape) → In x one → In x (one ++ two ++ three ++ four ++ five)
  in_first x one two three four five h =
      in_left x (one ++ two ++ three ++ four) five (in_left x (one ++ two ++ three) four (in_left x (one ++ two) three (in_left x one two h)))

  in_second : (x : Shape) (one two three four five : List Shape) → In x two → In x (one ++ two ++ three ++ four ++ five)
  in_second x one two three four five h =
      in_left x (one ++ two ++ three ++ four) five (in_left x (one ++ two ++ three) four (in_left x (one ++ two) three (in_right x one two h)))

  in_third : (x : Shape) (one two three four five : List Shape) → In x three → In x (one ++ two ++ three ++ four ++ five)
  in_third x one two three four five h = in_left x (one ++ two ++ three ++ four) five (in_left x (one ++ two ++ three) four (in_right x (one ++ two) three h))

  in_fourth : (x : Shape) (one two three four five : List Shape) → In x four → In x (one ++ two ++ three ++ four ++ five)
  in_fourth x one two three four five h = in_left x (one ++ two ++ three ++ four) five (in_right x (one ++ two ++ three) four h)

  in_fifth : (x : Shape) (one two three four five : List Shape) → In x five → In x (one ++ two ++ three ++ four ++ five)
  in_fifth x one two three four five h = in_right x (one ++ two ++ three ++ four) five h

  module _ (tried : List Name) where
    abbrev atoms : List Shape
    atoms = map shapes.Atom (plain_types s)

    abbrev elements : List Shape
    elements = named_shapes Element (element_types s) tried

    abbrev attributes : List Shape
    attributes = named_shapes Attribute (plain_types s) tried

    abbrev rest : List Shape
    rest = shapes.Text ∷ shapes.Doc None ∷ []

    abbrev documents : List Shape
    documents = named_shapes Document (element_types s) tried

    tried_atom : (x : Shape) → In x atoms → In x (trial_shapes (plain_types s) tried)
    tried_atom x h = in_first x atoms elements attributes rest documents h

    tried_element : (x : Shape) → In x elements → In x (trial_shapes (plain_types s) tried)
    tried_element x h = in_second x atoms elements attributes rest documents h

    tried_attribute : (x : Shape) → In x attributes → In x (trial_shapes (plain_types s) tried)
    tried_attribute x h = in_third x atoms elements attributes rest documents h

    tried_other : (x : Shape) → In x rest → In x (trial_shapes (plain_types s) tried)
    tried_other x h = in_fourth x atoms elements attributes rest documents h

    tried_document : (x : Shape) → In x documents → In x (trial_shapes (plain_types s) tried)
    tried_document x h = in_fifth x atoms elements attributes rest documents h

  module _ (other : Name) (fresh : is_named names other ≡ false) where
    abbrev all_names : List Name
    all_names = names ++ other ∷ []

    pub shape_stands : (x : Shape) → IsWellFormedShape s x → ShapeStands (trial_shapes (plain_types s) (names ++ other ∷ [])) x
    shape_stands (shapes.Atom t) w =
        let u = found (same_type_name t) (plain_types s) w in
        (shapes.Atom u.0, tried_atom all_names (shapes.Atom u.0) (in_map shapes.Atom u.0 (plain_types s) u.1), atoms_alike t u.0 u.2)
    shape_stands (shapes.Elem n t) w =
        let u = found (same_type_name t) (element_types s) w in
        let m = name_stands names other fresh n in
        (shapes.Elem m.0 u.0, tried_element all_names (shapes.Elem m.0 u.0) (in_named Element (element_types s) all_names m.0 u.0 m.1 u.1), elements_alike n m.0 t u.0 m.2 u.2)
    shape_stands (shapes.Attr n t) w =
        let u = found (same_type_name t) (plain_types s) w in
        let m = name_stands names other fresh n in
        (shapes.Attr m.0 u.0, tried_attribute all_names (shapes.Attr m.0 u.0) (in_named Attribute (plain_types s) all_names m.0 u.0 m.1 u.1), attributes_alike n m.0 t u.0 m.2 u.2)
    shape_stands shapes.Text w = (shapes.Text, tried_other all_names shapes.Text (inl refl), λ kind k. refl)
    shape_stands (shapes.Doc None) w = (shapes.Doc None, tried_other all_names (shapes.Doc None) (inr (inl refl)), λ kind k. refl)
    shape_stands (shapes.Doc (Some c)) w =
        let u = found (same_type_name c.1) (element_types s) w in
        let m = name_stands names other fresh c.0 in
        (shapes.Doc (Some (m.0, u.0)), tried_document all_names (shapes.Doc (Some (m.0, u.0))) (in_named Document (element_types s) all_names m.0 u.0 m.1 u.1), documents_alike c.0 m.0 c.1 u.0 m.2 u.2)

  pub tests_alike : (x y : Shape) → Alike x y → (t : SequenceType) → AreKnown names t → tests_of t (is_taken s x) ≡ tests_of t (is_taken s y)
  tests_alike x y f never k = refl
  tests_alike x y f nothing k = refl
  tests_alike x y f (item kind) k = ap (λ b. b ∷ []) (f kind k)
  tests_alike x y f (both a b) k =
      ap (λ xs. xs ++ tests_of b (is_taken s x)) (tests_alike x y f a k.0) ∙ ap (λ ys. tests_of a (is_taken s y) ++ ys) (tests_alike x y f b k.1)
  tests_alike x y f (either a b) k =
      ap (λ xs. xs ++ tests_of b (is_taken s x)) (tests_alike x y f a k.0) ∙ ap (λ ys. tests_of a (is_taken s y) ++ ys) (tests_alike x y f b k.1)
  tests_alike x y f (optional a) k = tests_alike x y f a k
  tests_alike x y f (star a) k = tests_alike x y f a k
  tests_alike x y f (plus a) k = tests_alike x y f a k
