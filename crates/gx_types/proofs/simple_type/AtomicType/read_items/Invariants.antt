use Rattle.std.proofs.Common.{◌≡◌, length}
use Rattle.std.specs.Str.{chars, IsUtf8}
use Rattle.std.specs.Str.Iter.{chars_rest}
use Rattle.gx_types.specs.ListReading.{items_behind}
use Rattle.gx_types.specs.SimpleValue.{each_value, item_texts}
use Rattle.gx_types.specs.SimpleView.{atomic_view}
use Rattle.gx_types.proofs.simple_type.AtomicType.read_items.Given as goal

-- what is there and what is left are the values of all words
abbrev pub invariant-loop-c : goal.invariant-loop-c
invariant-loop-c l = record {
  text : IsUtf8 (chars_rest l.rest);
  same : items_behind (atomic_view l.self) l.values.items l.word (chars (chars_rest l.rest)) ≡ each_value (atomic_view l.self) (item_texts l.fn.text);
}

abbrev pub decreases-loop-c : goal.decreases-loop-c
decreases-loop-c l = length (chars_rest l.rest)
