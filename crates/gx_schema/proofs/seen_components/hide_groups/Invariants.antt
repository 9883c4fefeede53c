use Rattle.std.proofs.Common.{◌≡◌, ◌++◌, length, take, drop}
use Rattle.gx_schema_simple.specs.Walk.{has_mark}
use Rattle.gx_schema.specs.SeenComponents.{seen_groups_from}
use Rattle.gx_schema.proofs.seen_components.hide_groups.Given as goal

-- those in front of a number are as they are seen
abbrev pub invariant-loop-number : goal.invariant-loop-number
invariant-loop-number l = record {
  all : take l.number l.groups.items ++ seen_groups_from (has_mark l.marks) l.number (drop l.number l.groups.items) ≡ seen_groups_from (has_mark l.marks) 0 l.initial.groups.items;
  sized : length l.groups.items ≡ l.number-end;
}
