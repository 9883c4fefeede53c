-- Types that stand on circles of what types name, as base or as item type.
use Rattle.std.specs.Prelude.{◌≡◌, ℕ, zero, suc, false, List, length, Option, None, Some, if◌then◌else◌}
use Rattle.gx_schema_simple.specs.Circles.{is_circular}
use Rattle.gx_schema_simple.specs.Forms.{references_of}
use Rattle.gx_schema_simple.specs.declared.type_form.TypeForm.{TypeForm}

-- the least of so many numbers, from one on, that stands on a circle
abbrev pub first_circular_from : List (Option ℕ) → (number left : ℕ) → Option ℕ
first_circular_from bases number zero = None
first_circular_from bases number (suc left) = if is_circular bases number then Some number else first_circular_from bases (suc number) left

-- the least number of a type that stands on a circle
abbrev pub first_circular : List TypeForm → Option ℕ
first_circular types = first_circular_from (references_of types) 0 (length types)

-- no type stands on a circle
abbrev pub HasNoCircle : List TypeForm → Type 0
HasNoCircle types = (number : ℕ) → is_circular (references_of types) number ≡ false
