-- Outlines of the parts of a type, and the rows of its positions from the last to the first.
use Rattle.std.specs.Prelude.{◌≡◌, ℕ, zero, suc, ◌+◌, Bool, true, false, List, [], map, reverse, slice_index_or}
use Rattle.gx_types.specs.SequenceType.{SequenceType}
use Rattle.gx_types.specs.TypeRules.{positions_of}
use Rattle.gx_include_positions.specs.Positions.{is_nullable}
use Rattle.gx_include_followers.specs.declared.followers.Outline.{Outline}
use Rattle.gx_include_followers.specs.declared.followers.Row.{Row}
use Rattle.gx_include_followers.specs.Behind.{firsts_from, behind_each, ends_of}
use Rattle.gx_include_followers.specs.Rope.{numbers_of}

-- the outline of a part that ends before a number
pub record IsOutline (t : SequenceType) (end : ℕ) (outline : Outline) : Type 0 where
  pub first : outline.first + positions_of t ≡ end
  pub firsts : numbers_of outline.firsts.value ≡ firsts_from outline.first t
  pub nullable : outline.nullable ≡ is_nullable t

abbrev pub behind_row : Row → List ℕ
behind_row row = numbers_of row.behind.value

abbrev pub end_row : Row → Bool
end_row row = row.end

-- the rows of a type, with its outline
pub record AreFollowers (t : SequenceType) (outline : Outline) (rows : List Row) : Type 0 where
  pub whole : IsOutline t (positions_of t + 1) outline
  pub behind : map behind_row rows ≡ reverse (behind_each 1 t [])
  pub ends : map end_row rows ≡ reverse (ends_of t true)

-- what rows, from the last to the first, say of the start or a position
abbrev pub said_of : {X : Type 0} → (start : X) → (rows : List X) → (default : X) → ℕ → X
said_of start rows default zero = start
said_of start rows default (suc position) = slice_index_or (reverse rows) position default
