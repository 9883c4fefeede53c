-- The item of a number among items, and the last one (XQuery 1.0, section 3.2.2).
use Rattle.std.specs.Prelude.{ℕ, zero, suc, ℤ, pos, Bool, true, false, not, [], reverse, drop, take}
use Rattle.gx_model.specs.Item.{Items}

-- items in the order in which they are counted: from the end on a reverse axis
abbrev pub counted_so : (reverse : Bool) → Items → Items
counted_so true items = reverse items
counted_so false items = items

-- the item of a number, counted from 1
abbrev pub item_numbered : ℕ → Items → Items
item_numbered zero items = []
item_numbered (suc before) items = take 1 (drop before items)

abbrev pub nth_in : ℤ → Items → Items
nth_in (pos number) items = item_numbered number items
nth_in _ items = []

abbrev pub nth_of : ℤ → (reverse : Bool) → Items → Items
nth_of number backwards items = nth_in number (counted_so backwards items)

-- the last item, which is the first one from the other end
abbrev pub final_of : (reverse : Bool) → Items → Items
final_of backwards items = take 1 (counted_so (not backwards) items)
