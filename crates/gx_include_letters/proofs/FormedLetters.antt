-- The letters of an alphabet have well-formed shapes.
use Rattle.std.proofs.Common.{◌≡◌, ℕ, zero, suc, ◌+◌, false, List, [], ◌∷◌, ◌++◌, map, inl, inr, None, ◌∙◌, ap, subst, get_or}
use Rattle.std.specs.List.{list_any}
use Rattle.gx_base.specs.declared.name.Name.{Name}
use Rattle.gx_base.specs.declared.type_name.TypeName.{TypeName}
use Rattle.gx_types.specs.declared.shape.Shape.{Shape}
use Rattle.gx_types.specs.declared.shape.Shape.TheVariants as shapes
use Rattle.gx_types.specs.SameItemType.{same_type_name}
use Rattle.gx_types.specs.SchemaSet.{SchemaSet}
use Rattle.gx_types.specs.TypeRules.{positions_of}
use Rattle.gx_types.specs.SequenceType.{SequenceType}
use Rattle.gx_types.proofs.EqualNames.{type_name_itself}
use Rattle.gx_include_positions.specs.Names.{with_names}
use Rattle.gx_include_positions.specs.Step.{all_tests}
use Rattle.gx_include_positions.specs.Test.{is_taken}
use Rattle.gx_include_positions.proofs.MarksTake.{or_left, or_right}
use Rattle.gx_include_positions.proofs.Lists.{In, in_either, in_map, of_map, of_flat}
use Rattle.gx_include_letters.specs.declared.letter.Letter.{Letter}
use Rattle.gx_include_letters.specs.declared.trial.Sort.{Sort}
use Rattle.gx_include_letters.specs.declared.trial.Sort.TheVariants.{Element, Attribute, Document}
use Rattle.gx_include_letters.specs.WellFormed.{plain_types, element_types, IsAmongTypes, IsWellFormedShape}
use Rattle.gx_include_letters.specs.Trials.{made, named_shapes, trial_shapes}
use Rattle.gx_include_letters.specs.Alphabet.{LetterEntry, entry_of_letter, entry_if, entries_at, entries_below, IsAlphabet}
use Rattle.gx_include_letters.proofs.Alphabets.{of_if}

-- tried shapes

listed : (t : TypeName) (types : List TypeName) → In t types → IsAmongTypes t types
listed t [] h = absurd h
listed t (u ∷ types) (inl e) = or_left (same_type_name t u) (list_any (same_type_name t) types) (ap (λ x. same_type_name t x) e ∙ type_name_itself t)
listed t (u ∷ types) (inr h) = or_right (same_type_name t u) (list_any (same_type_name t) types) (listed t types h)

module _ (s : SchemaSet) where
  named : (sort : Sort) (types : List TypeName) (names : List Name) (x : Shape) → In x (named_shapes sort types names)
      → (name : Name) × (t : TypeName) × In t types × (made sort name t ≡ x)
  named sort types names x h =
      let q = of_flat (λ name. map (λ t. made sort name t) types) x names h in
      let r = of_map (λ t. made sort q.0 t) x types q.2 in
      (q.0, r.0, r.1, r.2)

  an_atom : (x : Shape) → In x (map shapes.Atom (plain_types s)) → IsWellFormedShape s x
  an_atom x h = let q = of_map shapes.Atom x (plain_types s) h in subst (IsWellFormedShape s) q.2 (listed q.0 (plain_types s) q.1)

  an_element : (names : List Name) (x : Shape) → In x (named_shapes Element (element_types s) names) → IsWellFormedShape s x
  an_element names x h = let q = named Element (element_types s) names x h in subst (IsWellFormedShape s) q.3 (listed q.1 (element_types s) q.2)

  an_attribute : (names : List Name) (x : Shape) → In x (named_shapes Attribute (plain_types s) names) → IsWellFormedShape s x
  an_attribute names x h = let q = named Attribute (plain_types s) names x h in subst (IsWellFormedShape s) q.3 (listed q.1 (plain_types s) q.2)

  a_document : (names : List Name) (x : Shape) → In x (named_shapes Document (element_types s) names) → IsWellFormedShape s x
  a_document names x h = let q = named Document (element_types s) names x h in subst (IsWellFormedShape s) q.3 (listed q.1 (element_types s) q.2)

  another : (x : Shape) → In x (shapes.Text ∷ shapes.Doc None ∷ []) → IsWellFormedShape s x
  another x (inl e) = subst (IsWellFormedShape s) e tt
  another x (inr (inl e)) = subst (IsWellFormedShape s) e tt
  another x (inr (inr h)) = absurd h

  of_five : (x : Shape) (one two three four five : List Shape) → (In x one → IsWellFormedShape s x) → (In x two → IsWellFormedShape s x) → (In x three → IsWellFormedShape s x)
      → (In x four → IsWellFormedShape s x) → (In x five → IsWellFormedShape s x) → In x (one ++ two ++ three ++ four ++ five) → IsWellFormedShape s x
  of_five x one two three four five f g h i j k =
      elim (in_either x (one ++ two ++ three ++ four) five k) [
        | inr l ↦ j l
        | inl l ↦ elim (in_either x (one ++ two ++ three) four l) [
          | inr m ↦ i m
          | inl m ↦ elim (in_either x (one ++ two) three m) [
            | inr n ↦ h n
            | inl n ↦ elim (in_either x one two n) [ inl o ↦ f o | inr o ↦ g o ]
          ]
        ]
      ]

  pub tried_is_well_formed : (names : List Name) (x : Shape) → In x (trial_shapes (plain_types s) names) → IsWellFormedShape s x
  tried_is_well_formed names x h =
      of_five x (map shapes.Atom (plain_types s)) (named_shapes Element (element_types s) names) (named_shapes Attribute (plain_types s) names)
      (shapes.Text ∷ shapes.Doc None ∷ []) (named_shapes Document (element_types s) names) (an_atom x) (an_element names x) (an_attribute names x) (another x) (a_document names x) h

  -- letters

  entry_tried : (a b : SequenceType) (tried : List Shape) (bound : ℕ) (e : LetterEntry) → In e (entries_below s a b tried bound) → In e.1 tried
  entry_tried a b tried zero e h = absurd h
  entry_tried a b tried (suc place) e h =
      elim (in_either e (entries_below s a b tried place) (entries_at s a b tried place) h) [
        | inl k ↦ entry_tried a b tried place e k
        | inr k ↦
            let q = of_flat (λ shape. entry_if place shape (all_tests a (is_taken s shape)) (all_tests b (is_taken s shape))) e tried k in
            let made : LetterEntry = (place, q.0, all_tests b (is_taken s q.0)) in
            let r = of_if s a b (get_or (all_tests a (is_taken s q.0)) place false) made e q.2 in
            subst (λ x. In x tried) (ap (λ (y : LetterEntry). y.1) r.1) q.1
      ]

  module _ (a b : SequenceType) (letters : List Letter) (is : IsAlphabet s a b letters) where
    pub letter_is : (l : Letter) → In l letters → IsWellFormedShape s l.shape
    letter_is l h =
        tried_is_well_formed (with_names (with_names [] a) b ++ is.other ∷ []) l.shape
        (entry_tried a b (trial_shapes (plain_types s) (with_names (with_names [] a) b ++ is.other ∷ [])) (positions_of a + 1) (entry_of_letter l) (subst (In (entry_of_letter l)) is.are (in_map entry_of_letter l letters h)))
