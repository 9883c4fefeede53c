-- How the type of pieces is built, and the first unknown name among them.
use Rattle.std.proofs.Common.{◌≡◌, ℕ, suc, ◌<◌, List, [], ◌∷◌, ◌++◌, length, get_or, drop, refl, sym, ap, subst, ◌∙◌, Option, None, Some, fold}
use Rattle.std.proofs.Math.Seq.{drop-cons}
use Rattle.std.proofs.lemmas.List.Sums.{fold-append}
use Rattle.gx_base.specs.declared.name.Name.{Name}
use Rattle.gx_types.specs.SchemaSet.{SchemaSet}
use Rattle.gx_types.specs.SequenceType.{SequenceType, nothing}
use Rattle.gx_types.specs.TypeRules.{joined_types}
use Rattle.gx_typetext.specs.declared.read.TypeRead.{TypeRead}
use Rattle.gx_typetext.specs.declared.read.TypeRead.TheVariants.{BadType, UnknownName, Memory}
use Rattle.gx_typetext.specs.declared.written.Indicator.{Indicator}
use Rattle.gx_typetext.specs.declared.written.Piece.{Piece}
use Rattle.gx_typetext.specs.declared.written.Piece.TheVariants as piece
use Rattle.gx_typetext.specs.KnownNames.{first_unknown, first_of_names, unknown_in_piece, written_operand_type}
use Rattle.gx_typetext.specs.TypeReading.{IsUnknownName}
use Rattle.gx_typetext.specs.WrittenTypes.{WrittenType, only_choice, then_choice, WrittenChoice, only_unit, or_unit, WrittenUnit, single, in_parentheses, indicator_pieces, type_pieces, choice_pieces, unit_pieces, with_indicator, choice_of_units, written_type, choice_members, unit_type}
use Rattle.gx_typetext.specs.Building.{BuiltPart, BuiltParts, built_type, built_with, type_of_pieces}

-- unknown names

name_first : (e : TypeRead) (a b : Option Name) → IsUnknownName e a → IsUnknownName e (first_of_names a b)
name_first (UnknownName text) (Some name) b h = h
name_first (UnknownName text) None b h = absurd h
name_first (BadType place) a b h = absurd h
name_first Memory a b h = tt

-- a name that is unknown in the piece at a place is the first one of all pieces, where none before it is unknown
pub unknown_at : (s : SchemaSet) (e : TypeRead) (ps : List Piece) (i : ℕ) (p : Piece) → i < length ps → p ≡ get_or ps i p → first_unknown s ps ≡ first_unknown s (drop i ps)
    → IsUnknownName e (unknown_in_piece s p) → IsUnknownName e (first_unknown s ps)
unknown_at s e ps i p within is left h =
    let front : drop i ps ≡ p ∷ drop (suc i) ps = drop-cons ps i p within ∙ ap (λ q. q ∷ drop (suc i) ps) (sym is) in
    subst (IsUnknownName e) (sym (left ∙ ap (first_unknown s) front)) (name_first e (unknown_in_piece s p) (first_unknown s (drop (suc i) ps)) h)

-- the type of a tree

module _ (s : SchemaSet) where
  abbrev go : BuiltParts → List Piece → BuiltParts
  go = fold (built_with s)

  abbrev at : (sequence : SequenceType) (members : List SequenceType) (unit : SequenceType) (outer : List BuiltPart) → BuiltParts
  at sequence members unit outer = record { inner = record { sequence = sequence; members = members; unit = unit }; outer = outer }

  go_on : (parts : BuiltParts) (ps qs : List Piece) → go parts (ps ++ qs) ≡ go (go parts ps) qs
  go_on parts ps qs = fold-append (built_with s) parts ps qs

  marked : (i : Option Indicator) (q : SequenceType) (m : List SequenceType) (t : SequenceType) (outer : List BuiltPart) → go (at q m t outer) (indicator_pieces i) ≡ at q m (with_indicator i t) outer
  marked None q m t outer = refl
  marked (Some i) q m t outer = refl

  -- the members of a choice in front of the last one
  abbrev members_before : WrittenChoice → List SequenceType
  members_before (only_unit unit) = []
  members_before (or_unit front unit) = choice_members s front

  abbrev last_member : WrittenChoice → SequenceType
  last_member (only_unit unit) = unit_type s unit
  last_member (or_unit front unit) = unit_type s unit

  members_are : (c : WrittenChoice) → choice_members s c ≡ members_before c ++ last_member c ∷ []
  members_are (only_unit unit) = refl
  members_are (or_unit front unit) = refl

  -- the sequence in front of the last choice, and that choice
  abbrev sequence_before : WrittenType → SequenceType
  sequence_before (only_choice choice) = nothing
  sequence_before (then_choice front choice) = written_type s front

  abbrev last_choice : WrittenType → WrittenChoice
  last_choice (only_choice choice) = choice
  last_choice (then_choice front choice) = choice

  type_is : (w : WrittenType) → joined_types (sequence_before w) (choice_of_units (members_before (last_choice w) ++ last_member (last_choice w) ∷ [])) ≡ written_type s w
  type_is (only_choice choice) = ap choice_of_units (sym (members_are choice))
  type_is (then_choice front choice) = ap (λ ts. joined_types (written_type s front) (choice_of_units ts)) (sym (members_are choice))

  mutual
    unit_built : (u : WrittenUnit) (q : SequenceType) (m : List SequenceType) (t : SequenceType) (outer : List BuiltPart) → go (at q m t outer) (unit_pieces u) ≡ at q m (unit_type s u) outer
    unit_built (single operand i) q m t outer = marked i q m (written_operand_type s operand) outer
    unit_built (in_parentheses inner i) q m t outer =
        go_on (at q m t outer) (piece.Opening ∷ type_pieces inner) (piece.Closing ∷ indicator_pieces i)
        ∙ ap (λ parts. go parts (piece.Closing ∷ indicator_pieces i)) (type_built inner nothing (record { sequence = q; members = m; unit = t } ∷ outer))
        ∙ ap (λ u. go (at q m u outer) (indicator_pieces i)) (type_is inner)
        ∙ marked i q m (written_type s inner) outer

    choice_built : (c : WrittenChoice) (q t : SequenceType) (outer : List BuiltPart) → go (at q [] t outer) (choice_pieces c) ≡ at q (members_before c) (last_member c) outer
    choice_built (only_unit unit) q t outer = unit_built unit q [] t outer
    choice_built (or_unit front unit) q t outer =
        go_on (at q [] t outer) (choice_pieces front) (piece.Bar ∷ unit_pieces unit)
        ∙ ap (λ parts. go parts (piece.Bar ∷ unit_pieces unit)) (choice_built front q t outer)
        ∙ ap (λ ts. go (at q ts nothing outer) (unit_pieces unit)) (sym (members_are front))
        ∙ unit_built unit q (choice_members s front) nothing outer

    type_built : (w : WrittenType) (t : SequenceType) (outer : List BuiltPart) → go (at nothing [] t outer) (type_pieces w) ≡ at (sequence_before w) (members_before (last_choice w)) (last_member (last_choice w)) outer
    type_built (only_choice choice) t outer = choice_built choice nothing t outer
    type_built (then_choice front choice) t outer =
        go_on (at nothing [] t outer) (type_pieces front) (piece.Comma ∷ choice_pieces choice)
        ∙ ap (λ parts. go parts (piece.Comma ∷ choice_pieces choice)) (type_built front t outer)
        ∙ ap (λ q. go (at q [] nothing outer) (choice_pieces choice)) (type_is front)
        ∙ choice_built choice (written_type s front) nothing outer

  pub tree_type : (w : WrittenType) → type_of_pieces s (type_pieces w) ≡ written_type s w
  tree_type w = ap (λ (parts : BuiltParts). built_type parts.inner) (type_built w nothing []) ∙ type_is w

pub one_type : (s : SchemaSet) (a b : WrittenType) → type_pieces a ≡ type_pieces b → written_type s a ≡ written_type s b
one_type s a b e = sym (tree_type s a) ∙ ap (type_of_pieces s) e ∙ tree_type s b
