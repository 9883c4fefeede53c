-- The tree of a printed type, and what it stands for.
use Rattle.std.proofs.Common.{◌≡◌, ℕ, Bool, true, false, List, [], ◌∷◌, ◌++◌, ◌⊎◌, ◌↔◌, inl, inr, refl, sym, ap, subst, ◌∙◌, Option, None, Some, append_assoc}
use Rattle.gx_types.specs.declared.shape.Shape.{Shape}
use Rattle.gx_types.specs.declared.item_type.ItemType.{ItemType}
use Rattle.gx_types.specs.Laws.{TakeTheSame}
use Rattle.gx_types.specs.SchemaSet.{SchemaSet}
use Rattle.gx_types.specs.SequenceType.{SequenceType, never, nothing, item, both, either, optional, star, plus}
use Rattle.gx_types.specs.Takes.{Takes, SomeTakes, Each, all_joined}
use Rattle.gx_types.specs.TypeRules.{joined_types}
use Rattle.gx_types.proofs.PublicLaws.{joined_types_are_a_sequence, choice_takes_some, indicators_are_exact}
use Rattle.gx_typetext.specs.declared.context.Context.TheVariants as context
use Rattle.gx_typetext.specs.declared.written.Indicator.{Indicator}
use Rattle.gx_typetext.specs.declared.written.Indicator.TheVariants as indicator
use Rattle.gx_typetext.specs.declared.written.Operand.{Operand}
use Rattle.gx_typetext.specs.declared.written.Operand.TheVariants as operand
use Rattle.gx_typetext.specs.declared.written.Piece.{Piece}
use Rattle.gx_typetext.specs.declared.written.Piece.TheVariants as piece
use Rattle.gx_typetext.specs.KnownNames.{written_operand_type}
use Rattle.gx_typetext.specs.WrittenTypes.{WrittenType, only_choice, then_choice, WrittenChoice, only_unit, or_unit, WrittenUnit, single, in_parentheses, indicator_pieces, type_pieces, choice_pieces, unit_pieces, with_indicator, choice_of_units, written_type, choice_members, unit_type}
use Rattle.gx_typetext.proofs.PrintedItems.{written_item}
use Rattle.gx_typetext.proofs.PrintedPieces.{pieces_in}

-- the tree: a type behind a front of choices, a choice behind a front of units, and a unit

abbrev pub then_type : Option WrittenType → WrittenChoice → WrittenType
then_type None c = only_choice c
then_type (Some w) c = then_choice w c

abbrev pub or_choice : Option WrittenChoice → WrittenUnit → WrittenChoice
or_choice None u = only_unit u
or_choice (Some c) u = or_unit c u

abbrev mutual
  pub type_from : Option WrittenType → SequenceType → WrittenType
  type_from front never = then_type front (only_unit (single operand.Never None))
  type_from front nothing = then_type front (only_unit (single operand.Empty None))
  type_from front (item kind) = then_type front (only_unit (single (operand.Item (written_item kind)) None))
  type_from front (both a b) = type_from (Some (type_from front a)) b
  type_from front (either a b) = then_type front (only_unit (in_parentheses (only_choice (choice_from (Some (choice_from None a)) b)) None))
  type_from front (optional a) = then_type front (only_unit (unit_from indicator.Optional a))
  type_from front (star a) = then_type front (only_unit (unit_from indicator.Star a))
  type_from front (plus a) = then_type front (only_unit (unit_from indicator.Plus a))

  pub choice_from : Option WrittenChoice → SequenceType → WrittenChoice
  choice_from front never = or_choice front (single operand.Never None)
  choice_from front nothing = or_choice front (single operand.Empty None)
  choice_from front (item kind) = or_choice front (single (operand.Item (written_item kind)) None)
  choice_from front (both a b) = or_choice front (in_parentheses (type_from (Some (type_from None a)) b) None)
  choice_from front (either a b) = choice_from (Some (choice_from front a)) b
  choice_from front (optional a) = or_choice front (unit_from indicator.Optional a)
  choice_from front (star a) = or_choice front (unit_from indicator.Star a)
  choice_from front (plus a) = or_choice front (unit_from indicator.Plus a)

  pub unit_from : Indicator → SequenceType → WrittenUnit
  unit_from i never = single operand.Never (Some i)
  unit_from i nothing = single operand.Empty (Some i)
  unit_from i (item kind) = single (operand.Item (written_item kind)) (Some i)
  unit_from i (both a b) = in_parentheses (type_from (Some (type_from None a)) b) (Some i)
  unit_from i (either a b) = in_parentheses (only_choice (choice_from (Some (choice_from None a)) b)) (Some i)
  unit_from i (optional a) = in_parentheses (only_choice (only_unit (unit_from indicator.Optional a))) (Some i)
  unit_from i (star a) = in_parentheses (only_choice (only_unit (unit_from indicator.Star a))) (Some i)
  unit_from i (plus a) = in_parentheses (only_choice (only_unit (unit_from indicator.Plus a))) (Some i)

abbrev pub tree_from : SequenceType → WrittenType
tree_from (either a b) = only_choice (choice_from (Some (choice_from None a)) b)
tree_from t = type_from None t

-- its pieces are those of the printed type

abbrev type_front : Option WrittenType → List Piece
type_front None = []
type_front (Some w) = type_pieces w ++ piece.Comma ∷ []

abbrev choice_front : Option WrittenChoice → List Piece
choice_front None = []
choice_front (Some c) = choice_pieces c ++ piece.Bar ∷ []

then_pieces : (front : Option WrittenType) (c : WrittenChoice) → type_pieces (then_type front c) ≡ type_front front ++ choice_pieces c
then_pieces None c = refl
then_pieces (Some w) c = sym (append_assoc (type_pieces w) (piece.Comma ∷ []) (choice_pieces c))

or_pieces : (front : Option WrittenChoice) (u : WrittenUnit) → choice_pieces (or_choice front u) ≡ choice_front front ++ unit_pieces u
or_pieces None u = refl
or_pieces (Some c) u = sym (append_assoc (choice_pieces c) (piece.Bar ∷ []) (unit_pieces u))

both_pieces : (f a m b : List Piece) → ((f ++ a) ++ m) ++ b ≡ f ++ (a ++ (m ++ b))
both_pieces f a m b = append_assoc (f ++ a) m b ∙ append_assoc f a (m ++ b)

closed_pieces : (ps qs : List Piece) (i : Indicator) → ps ≡ qs → (piece.Opening ∷ ps) ++ piece.Closing ∷ piece.Indicated i ∷ [] ≡ (piece.Opening ∷ (qs ++ piece.Closing ∷ [])) ++ piece.Indicated i ∷ []
closed_pieces ps qs i e = ap (λ xs. (piece.Opening ∷ xs) ++ piece.Closing ∷ piece.Indicated i ∷ []) e ∙ sym (append_assoc (piece.Opening ∷ qs) (piece.Closing ∷ []) (piece.Indicated i ∷ []))

abbrev IsTypeOf : SequenceType → Type 0
IsTypeOf t = (front : Option WrittenType) → type_pieces (type_from front t) ≡ type_front front ++ pieces_in context.Sequence t

abbrev IsChoiceOf : SequenceType → Type 0
IsChoiceOf t = (front : Option WrittenChoice) → choice_pieces (choice_from front t) ≡ choice_front front ++ pieces_in context.Choice t

abbrev IsUnitOf : SequenceType → Type 0
IsUnitOf t = (i : Indicator) → unit_pieces (unit_from i t) ≡ pieces_in context.Indicator t ++ piece.Indicated i ∷ []

sequence_pieces : (a b : SequenceType) → IsTypeOf a → IsTypeOf b → (front : Option WrittenType)
    → type_pieces (type_from (Some (type_from front a)) b) ≡ type_front front ++ (pieces_in context.Sequence a ++ piece.Comma ∷ pieces_in context.Sequence b)
sequence_pieces a b f g front =
    g (Some (type_from front a)) ∙ ap (λ ps. (ps ++ piece.Comma ∷ []) ++ pieces_in context.Sequence b) (f front)
    ∙ both_pieces (type_front front) (pieces_in context.Sequence a) (piece.Comma ∷ []) (pieces_in context.Sequence b)

alternative_pieces : (a b : SequenceType) → IsChoiceOf a → IsChoiceOf b → (front : Option WrittenChoice)
    → choice_pieces (choice_from (Some (choice_from front a)) b) ≡ choice_front front ++ (pieces_in context.Choice a ++ piece.Bar ∷ pieces_in context.Choice b)
alternative_pieces a b f g front =
    g (Some (choice_from front a)) ∙ ap (λ ps. (ps ++ piece.Bar ∷ []) ++ pieces_in context.Choice b) (f front)
    ∙ both_pieces (choice_front front) (pieces_in context.Choice a) (piece.Bar ∷ []) (pieces_in context.Choice b)

mutual
  type_is : (t : SequenceType) → IsTypeOf t
  type_is never front = then_pieces front (only_unit (single operand.Never None))
  type_is nothing front = then_pieces front (only_unit (single operand.Empty None))
  type_is (item kind) front = then_pieces front (only_unit (single (operand.Item (written_item kind)) None))
  type_is (both a b) front = sequence_pieces a b (type_is a) (type_is b) front
  type_is (either a b) front =
      then_pieces front (only_unit (in_parentheses (only_choice (choice_from (Some (choice_from None a)) b)) None))
      ∙ ap (λ ps. type_front front ++ ((piece.Opening ∷ ps) ++ piece.Closing ∷ [])) (alternative_pieces a b (choice_is a) (choice_is b) None)
  type_is (optional a) front = then_pieces front (only_unit (unit_from indicator.Optional a)) ∙ ap (λ ps. type_front front ++ ps) (unit_is a indicator.Optional)
  type_is (star a) front = then_pieces front (only_unit (unit_from indicator.Star a)) ∙ ap (λ ps. type_front front ++ ps) (unit_is a indicator.Star)
  type_is (plus a) front = then_pieces front (only_unit (unit_from indicator.Plus a)) ∙ ap (λ ps. type_front front ++ ps) (unit_is a indicator.Plus)

  choice_is : (t : SequenceType) → IsChoiceOf t
  choice_is never front = or_pieces front (single operand.Never None)
  choice_is nothing front = or_pieces front (single operand.Empty None)
  choice_is (item kind) front = or_pieces front (single (operand.Item (written_item kind)) None)
  choice_is (both a b) front =
      or_pieces front (in_parentheses (type_from (Some (type_from None a)) b) None)
      ∙ ap (λ ps. choice_front front ++ ((piece.Opening ∷ ps) ++ piece.Closing ∷ [])) (sequence_pieces a b (type_is a) (type_is b) None)
  choice_is (either a b) front = alternative_pieces a b (choice_is a) (choice_is b) front
  choice_is (optional a) front = or_pieces front (unit_from indicator.Optional a) ∙ ap (λ ps. choice_front front ++ ps) (unit_is a indicator.Optional)
  choice_is (star a) front = or_pieces front (unit_from indicator.Star a) ∙ ap (λ ps. choice_front front ++ ps) (unit_is a indicator.Star)
  choice_is (plus a) front = or_pieces front (unit_from indicator.Plus a) ∙ ap (λ ps. choice_front front ++ ps) (unit_is a indicator.Plus)

  unit_is : (t : SequenceType) → IsUnitOf t
  unit_is never i = refl
  unit_is nothing i = refl
  unit_is (item kind) i = refl
  unit_is (both a b) i =
      closed_pieces (type_pieces (type_from (Some (type_from None a)) b)) (pieces_in context.Sequence a ++ piece.Comma ∷ pieces_in context.Sequence b) i (sequence_pieces a b (type_is a) (type_is b) None)
  unit_is (either a b) i =
      closed_pieces (choice_pieces (choice_from (Some (choice_from None a)) b)) (pieces_in context.Choice a ++ piece.Bar ∷ pieces_in context.Choice b) i (alternative_pieces a b (choice_is a) (choice_is b) None)
  unit_is (optional a) i = closed_pieces (unit_pieces (unit_from indicator.Optional a)) (pieces_in context.Indicator a ++ piece.Indicated indicator.Optional ∷ []) i (unit_is a indicator.Optional)
  unit_is (star a) i = closed_pieces (unit_pieces (unit_from indicator.Star a)) (pieces_in context.Indicator a ++ piece.Indicated indicator.Star ∷ []) i (unit_is a indicator.Star)
  unit_is (plus a) i = closed_pieces (unit_pieces (unit_from indicator.Plus a)) (pieces_in context.Indicator a ++ piece.Indicated indicator.Plus ∷ []) i (unit_is a indicator.Plus)

pub tree_pieces : (t : SequenceType) → type_pieces (tree_from t) ≡ pieces_in context.Whole t
tree_pieces never = refl
tree_pieces nothing = refl
tree_pieces (item kind) = refl
tree_pieces (both a b) = sequence_pieces a b (type_is a) (type_is b) None
tree_pieces (either a b) = alternative_pieces a b (choice_is a) (choice_is b) None
tree_pieces (optional a) = type_is (optional a) None
tree_pieces (star a) = type_is (star a) None
tree_pieces (plus a) = type_is (plus a) None
