-- Range expressions (XQuery 1.0, section 3.3.1).
use Rattle.std.specs.Prelude.{ℕ, ◌+◌, ℤ, pos, ◌+ℤ◌, ◌-ℤ◌, int_le, unsigned_abs, nat_le, List, map, Option, None, if◌then◌else◌}
use Rattle.std.specs.List.{range_with_len}
use Rattle.gx_base.specs.declared.code.Code.TheVariants.{GLXD0002}
use Rattle.gx_base.specs.declared.limits.TheConstants.{RANGE_ITEMS}
use Rattle.gx_num.specs.declared.Number.TheVariants.{Int}
use Rattle.gx_facets.specs.declared.Atomic.{Atomic}
use Rattle.gx_model.specs.Forest.{Forest}
use Rattle.gx_model.specs.Item.{Item, atom, node, Items, atoms}
use Rattle.gx_core.specs.Outcome.{Outcome, gives, raises, given}
use Rattle.gx_core.specs.Operands.{on_two}
use Rattle.gx_funcs.specs.Numbers.{number_atom}
use Rattle.gx_funcs.specs.Values.{integer_of_value}

-- the integer that an item is
abbrev pub integer_of_item : Item → Option ℤ
integer_of_item (atom a) = integer_of_value a.value
integer_of_item (node place) = None

-- how many integers there are from the first to the last
abbrev pub range_length : (first last : ℤ) → ℕ
range_length first last = if int_le first last then unsigned_abs (last -ℤ first) + 1 else 0

-- so many integers from the first on
abbrev pub integers_from : (first : ℤ) → (count : ℕ) → List Atomic
integers_from first count = map (λ k. number_atom (Int (first +ℤ pos k))) (range_with_len 0 count)

-- all integers from the first to the last; more than the limit are an error
abbrev pub range_between : (first last : ℤ) → Forest → Outcome Items
range_between first last forest =
    if nat_le (range_length first last) RANGE_ITEMS then gives (atoms (integers_from first (range_length first last))) forest
    else raises GLXD0002

-- of two integers; an operand that is none is a type error
abbrev pub range_of_items : Item → Item → Forest → Outcome Items
range_of_items x y forest = given (integer_of_item x) (λ first. given (integer_of_item y) (λ last. range_between first last forest))

abbrev pub range : Items → Items → Forest → Outcome Items
range xs ys forest = on_two xs ys forest range_of_items
