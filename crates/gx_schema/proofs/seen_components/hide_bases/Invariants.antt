use Rattle.std.proofs.Common.{◌≡◌, ◌++◌, length, take, drop}
use Rattle.gx_schema_simple.specs.Walk.{has_mark}
use Rattle.gx_schema.specs.SeenComponents.{seen_types}
use Rattle.gx_schema.proofs.seen_components.hide_bases.Given as goal

-- those in front of a number are as they are seen
abbrev pub invariant-loop-number : goal.invariant-loop-number
invariant-loop-number l = record {
  all : take l.number l.types.items ++ seen_types (has_mark l.marks) (drop l.number l.types.items) ≡ seen_types (has_mark l.marks) l.initial.types.items;
  sized : length l.types.items ≡ l.number-end;
}
