-- The tree of a printed type stands for a type that takes the same lists.
use Rattle.std.proofs.Common.{◌≡◌, ℕ, List, [], ◌∷◌, ◌++◌, ◌⊎◌, ◌↔◌, inl, inr, refl, sym, ap, subst, ◌∙◌, Option, None, Some, append_assoc}
use Rattle.gx_types.specs.declared.shape.Shape.{Shape}
use Rattle.gx_types.specs.declared.item_type.ItemType.{ItemType}
use Rattle.gx_types.specs.Laws.{TakeTheSame}
use Rattle.gx_types.specs.SchemaSet.{SchemaSet}
use Rattle.gx_types.specs.SequenceType.{SequenceType, never, nothing, item, both, either, optional, star, plus}
use Rattle.gx_types.specs.Takes.{Takes, SomeTakes, Each, all_joined}
use Rattle.gx_types.specs.TypeRules.{joined_types}
use Rattle.gx_types.proofs.PublicLaws.{joined_types_are_a_sequence, choice_takes_some, indicators_are_exact}
use Rattle.gx_typetext.specs.declared.written.Indicator.{Indicator}
use Rattle.gx_typetext.specs.declared.written.Indicator.TheVariants as indicator
use Rattle.gx_typetext.specs.declared.written.Operand.TheVariants as operand
use Rattle.gx_typetext.specs.KnownNames.{written_item_type}
use Rattle.gx_typetext.specs.ReadBack.{IsKnownItem, AreKnownItems}
use Rattle.gx_typetext.specs.WrittenTypes.{WrittenType, only_choice, then_choice, WrittenChoice, only_unit, or_unit, WrittenUnit, single, in_parentheses, with_indicator, choice_of_units, written_type, choice_members, unit_type}
use Rattle.gx_typetext.proofs.PrintedItems.{written_item}
use Rattle.gx_typetext.proofs.PrintedTrees.{then_type, or_choice, type_from, choice_from, unit_from, tree_from}

module _ (s : SchemaSet) where
  -- types that take the same lists

  same_itself : (t : SequenceType) → TakeTheSame s t t
  same_itself t shapes = (λ h. h, λ h. h)

  same_through : (t u v : SequenceType) → TakeTheSame s t u → TakeTheSame s u v → TakeTheSame s t v
  same_through t u v f g shapes = (λ h. (g shapes).0 ((f shapes).0 h), λ h. (f shapes).1 ((g shapes).1 h))

  both_same : (a b c d : SequenceType) → TakeTheSame s a c → TakeTheSame s b d → TakeTheSame s (both a b) (both c d)
  both_same a b c d f g shapes = (
    λ h. (h.0, h.1, h.2, (f h.0).0 h.3, (g h.1).0 h.4),
    λ h. (h.0, h.1, h.2, (f h.0).1 h.3, (g h.1).1 h.4),
  )

  nested_same : (a b c : SequenceType) → TakeTheSame s (both a (both b c)) (both (both a b) c)
  nested_same a b c shapes = (
    λ h.
        let k = h.4 in
        (h.0 ++ k.0, k.1, h.2 ∙ ap (λ x. h.0 ++ x) k.2 ∙ sym (append_assoc h.0 k.0 k.1), (h.0, k.0, refl, h.3, k.3), k.4),
    λ h.
        let k = h.3 in
        (k.0, k.1 ++ h.1, h.2 ∙ ap (λ x. x ++ h.1) k.2 ∙ append_assoc k.0 k.1 h.1, k.3, (k.1, h.1, refl, k.4, h.4)),
  )

  each_same : (t u : SequenceType) → ((shapes : List Shape) → Takes s t shapes → Takes s u shapes) → (parts : List (List Shape)) → Each (Takes s t) parts → Each (Takes s u) parts
  each_same t u f [] h = tt
  each_same t u f (part ∷ parts) h = (f part h.0, each_same t u f parts h.1)

  abbrev marked : Indicator → SequenceType → SequenceType
  marked indicator.Optional t = optional t
  marked indicator.Star t = star t
  marked indicator.Plus t = plus t

  marked_same : (i : Indicator) (t u : SequenceType) → TakeTheSame s t u → TakeTheSame s (marked i t) (marked i u)
  marked_same indicator.Optional t u f shapes = (
    λ h. elim h [ inl e ↦ inl e | inr k ↦ inr ((f shapes).0 k) ],
    λ h. elim h [ inl e ↦ inl e | inr k ↦ inr ((f shapes).1 k) ],
  )
  marked_same indicator.Star t u f shapes = (
    λ h. (h.0, h.1, each_same t u (λ x. (f x).0) h.0 h.2),
    λ h. (h.0, h.1, each_same u t (λ x. (f x).1) h.0 h.2),
  )
  marked_same indicator.Plus t u f shapes = (
    λ h. (h.0, h.1, h.2, (f h.0).0 h.3, each_same t u (λ x. (f x).0) h.1 h.4),
    λ h. (h.0, h.1, h.2, (f h.0).1 h.3, each_same u t (λ x. (f x).1) h.1 h.4),
  )

  indicator_same : (i : Indicator) (t : SequenceType) → TakeTheSame s (marked i t) (with_indicator (Some i) t)
  indicator_same indicator.Optional t = indicators_are_exact.optional s t
  indicator_same indicator.Star t = indicators_are_exact.star s t
  indicator_same indicator.Plus t = indicators_are_exact.plus s t

  under_indicator : (i : Indicator) (t u : SequenceType) → TakeTheSame s t u → TakeTheSame s (marked i t) (with_indicator (Some i) u)
  under_indicator i t u f = same_through (marked i t) (marked i u) (with_indicator (Some i) u) (marked_same i t u f) (indicator_same i u)

  -- choices of units

  units_take : (types : List SequenceType) (shapes : List Shape) → SomeTakes s types shapes ↔ Takes s (choice_of_units types) shapes
  units_take [] shapes = (λ h. h, λ h. h)
  units_take (t ∷ []) shapes = (λ h. elim h [ inl k ↦ k | inr k ↦ absurd k ], λ h. inl h)
  units_take (t ∷ u ∷ types) shapes = choice_takes_some s (t ∷ u ∷ types) shapes

  some_more : (types : List SequenceType) (t : SequenceType) (shapes : List Shape) → (SomeTakes s types shapes ⊎ Takes s t shapes) → SomeTakes s (types ++ t ∷ []) shapes
  some_more [] t shapes (inl h) = absurd h
  some_more [] t shapes (inr h) = inl h
  some_more (u ∷ types) t shapes (inl (inl h)) = inl h
  some_more (u ∷ types) t shapes (inl (inr h)) = inr (some_more types t shapes (inl h))
  some_more (u ∷ types) t shapes (inr h) = inr (some_more types t shapes (inr h))

  some_less : (types : List SequenceType) (t : SequenceType) (shapes : List Shape) → SomeTakes s (types ++ t ∷ []) shapes → SomeTakes s types shapes ⊎ Takes s t shapes
  some_less [] t shapes (inl h) = inr h
  some_less [] t shapes (inr h) = absurd h
  some_less (u ∷ types) t shapes (inl h) = inl (inl h)
  some_less (u ∷ types) t shapes (inr h) = elim (some_less types t shapes h) [ inl k ↦ inl (inr k) | inr k ↦ inr k ]

  -- what is taken with a front

  abbrev FrontTakes : Option WrittenChoice → List Shape → Type 0
  FrontTakes None shapes = ⊥
  FrontTakes (Some c) shapes = SomeTakes s (choice_members s c) shapes

  abbrev behind : Option WrittenType → SequenceType → SequenceType
  behind None t = t
  behind (Some w) t = both (written_type s w) t

  abbrev TypeTakes : SequenceType → Type 0
  TypeTakes t = (front : Option WrittenType) → TakeTheSame s (behind front t) (written_type s (type_from front t))

  abbrev ChoiceTakes : SequenceType → Type 0
  ChoiceTakes t = (front : Option WrittenChoice) (shapes : List Shape) → (FrontTakes front shapes ⊎ Takes s t shapes) ↔ SomeTakes s (choice_members s (choice_from front t)) shapes

  abbrev UnitTakes : SequenceType → Type 0
  UnitTakes t = (i : Indicator) → TakeTheSame s (marked i t) (unit_type s (unit_from i t))

  then_takes : (front : Option WrittenType) (t : SequenceType) (u : WrittenUnit) → TakeTheSame s t (unit_type s u) → TakeTheSame s (behind front t) (written_type s (then_type front (only_unit u)))
  then_takes None t u f = f
  then_takes (Some w) t u f =
      same_through (both (written_type s w) t) (both (written_type s w) (unit_type s u)) (joined_types (written_type s w) (unit_type s u))
      (both_same (written_type s w) t (written_type s w) (unit_type s u) (same_itself (written_type s w)) f) (joined_types_are_a_sequence s (written_type s w) (unit_type s u))

  or_takes : (front : Option WrittenChoice) (t : SequenceType) (u : WrittenUnit) → TakeTheSame s t (unit_type s u)
      → (shapes : List Shape) → (FrontTakes front shapes ⊎ Takes s t shapes) ↔ SomeTakes s (choice_members s (or_choice front u)) shapes
  or_takes None t u f shapes = (λ h. elim h [ inl k ↦ absurd k | inr k ↦ inl ((f shapes).0 k) ], λ h. elim h [ inl k ↦ inr ((f shapes).1 k) | inr k ↦ absurd k ])
  or_takes (Some c) t u f shapes = (
    λ h. some_more (choice_members s c) (unit_type s u) shapes (elim h [ inl k ↦ inl k | inr k ↦ inr ((f shapes).0 k) ]),
    λ h. elim (some_less (choice_members s c) (unit_type s u) shapes h) [ inl k ↦ inl k | inr k ↦ inr ((f shapes).1 k) ],
  )

  sequence_takes : (a b : SequenceType) → TypeTakes a → TypeTakes b → (front : Option WrittenType) → TakeTheSame s (behind front (both a b)) (written_type s (type_from (Some (type_from front a)) b))
  sequence_takes a b f g None =
      same_through (both a b) (both (written_type s (type_from None a)) b) (written_type s (type_from (Some (type_from None a)) b))
      (both_same a b (written_type s (type_from None a)) b (f None) (same_itself b)) (g (Some (type_from None a)))
  sequence_takes a b f g (Some w) =
      same_through (both (written_type s w) (both a b)) (both (both (written_type s w) a) b) (written_type s (type_from (Some (type_from (Some w) a)) b))
      (nested_same (written_type s w) a b)
      (same_through (both (both (written_type s w) a) b) (both (written_type s (type_from (Some w) a)) b) (written_type s (type_from (Some (type_from (Some w) a)) b))
      (both_same (both (written_type s w) a) b (written_type s (type_from (Some w) a)) b (f (Some w)) (same_itself b)) (g (Some (type_from (Some w) a))))

  alternative_takes : (a b : SequenceType) → ChoiceTakes a → ChoiceTakes b → (front : Option WrittenChoice) (shapes : List Shape)
      → (FrontTakes front shapes ⊎ (Takes s a shapes ⊎ Takes s b shapes)) ↔ SomeTakes s (choice_members s (choice_from (Some (choice_from front a)) b)) shapes
  alternative_takes a b f g front shapes = (
    λ h. (g (Some (choice_from front a)) shapes).0 (elim h [ inl k ↦ inl ((f front shapes).0 (inl k)) | inr k ↦ elim k [ inl l ↦ inl ((f front shapes).0 (inr l)) | inr l ↦ inr l ] ]),
    λ h. elim ((g (Some (choice_from front a)) shapes).1 h) [ inl k ↦ elim ((f front shapes).1 k) [ inl l ↦ inl l | inr l ↦ inr (inl l) ] | inr k ↦ inr (inr k) ],
  )

  -- a choice in parentheses
  choice_alone : (a b : SequenceType) → ChoiceTakes a → ChoiceTakes b → TakeTheSame s (either a b) (written_type s (only_choice (choice_from (Some (choice_from None a)) b)))
  choice_alone a b f g shapes =
      let k = alternative_takes a b f g None shapes in
      let u = units_take (choice_members s (choice_from (Some (choice_from None a)) b)) shapes in (
        λ h. u.0 (k.0 (inr h)),
        λ h. elim (k.1 (u.1 h)) [ inl l ↦ absurd l | inr l ↦ l ],
      )

  module _ (items : (kind : ItemType) → IsKnownItem s kind → TakeTheSame s (item kind) (written_item_type s (written_item kind))) where
    mutual
      type_takes : (t : SequenceType) → AreKnownItems s t → TypeTakes t
      type_takes never k front = then_takes front never (single operand.Never None) (same_itself never)
      type_takes nothing k front = then_takes front nothing (single operand.Empty None) (same_itself nothing)
      type_takes (item kind) k front = then_takes front (item kind) (single (operand.Item (written_item kind)) None) (items kind k)
      type_takes (both a b) k front = sequence_takes a b (type_takes a k.0) (type_takes b k.1) front
      type_takes (either a b) k front =
          then_takes front (either a b) (in_parentheses (only_choice (choice_from (Some (choice_from None a)) b)) None) (choice_alone a b (choice_takes a k.0) (choice_takes b k.1))
      type_takes (optional a) k front = then_takes front (optional a) (unit_from indicator.Optional a) (unit_takes a k indicator.Optional)
      type_takes (star a) k front = then_takes front (star a) (unit_from indicator.Star a) (unit_takes a k indicator.Star)
      type_takes (plus a) k front = then_takes front (plus a) (unit_from indicator.Plus a) (unit_takes a k indicator.Plus)

      choice_takes : (t : SequenceType) → AreKnownItems s t → ChoiceTakes t
      choice_takes never k front = or_takes front never (single operand.Never None) (same_itself never)
      choice_takes nothing k front = or_takes front nothing (single operand.Empty None) (same_itself nothing)
      choice_takes (item kind) k front = or_takes front (item kind) (single (operand.Item (written_item kind)) None) (items kind k)
      choice_takes (both a b) k front =
          or_takes front (both a b) (in_parentheses (type_from (Some (type_from None a)) b) None) (sequence_takes a b (type_takes a k.0) (type_takes b k.1) None)
      choice_takes (either a b) k front = alternative_takes a b (choice_takes a k.0) (choice_takes b k.1) front
      choice_takes (optional a) k front = or_takes front (optional a) (unit_from indicator.Optional a) (unit_takes a k indicator.Optional)
      choice_takes (star a) k front = or_takes front (star a) (unit_from indicator.Star a) (unit_takes a k indicator.Star)
      choice_takes (plus a) k front = or_takes front (plus a) (unit_from indicator.Plus a) (unit_takes a k indicator.Plus)

      unit_takes : (t : SequenceType) → AreKnownItems s t → UnitTakes t
      unit_takes never k i = indicator_same i never
      unit_takes nothing k i = indicator_same i nothing
      unit_takes (item kind) k i = under_indicator i (item kind) (written_item_type s (written_item kind)) (items kind k)
      unit_takes (both a b) k i = under_indicator i (both a b) (written_type s (type_from (Some (type_from None a)) b)) (sequence_takes a b (type_takes a k.0) (type_takes b k.1) None)
      unit_takes (either a b) k i = under_indicator i (either a b) (written_type s (only_choice (choice_from (Some (choice_from None a)) b))) (choice_alone a b (choice_takes a k.0) (choice_takes b k.1))
      unit_takes (optional a) k i = under_indicator i (optional a) (unit_type s (unit_from indicator.Optional a)) (unit_takes a k indicator.Optional)
      unit_takes (star a) k i = under_indicator i (star a) (unit_type s (unit_from indicator.Star a)) (unit_takes a k indicator.Star)
      unit_takes (plus a) k i = under_indicator i (plus a) (unit_type s (unit_from indicator.Plus a)) (unit_takes a k indicator.Plus)

    pub tree_takes : (t : SequenceType) → AreKnownItems s t → TakeTheSame s t (written_type s (tree_from t))
    tree_takes never k = same_itself never
    tree_takes nothing k = same_itself nothing
    tree_takes (item kind) k = items kind k
    tree_takes (both a b) k = sequence_takes a b (type_takes a k.0) (type_takes b k.1) None
    tree_takes (either a b) k = choice_alone a b (choice_takes a k.0) (choice_takes b k.1)
    tree_takes (optional a) k = unit_takes a k indicator.Optional
    tree_takes (star a) k = unit_takes a k indicator.Star
    tree_takes (plus a) k = unit_takes a k indicator.Plus
