use Rattle.std.proofs.Common.{◌≡◌, ℕ, nat_eq, drop}
use Rattle.indexmap.specs.IndexMap.{get}
use Rattle.gx_base.specs.declared.type_name.TypeName.TheVariants as names
use Rattle.gx_schema.specs.TypeNumbers.{type_number_from}
use Rattle.gx_schema.proofs.type_numbers.anonymous_numbers.Given as goal

-- the types behind a place have their numbers
abbrev pub invariant-loop-number : goal.invariant-loop-number
invariant-loop-number l = (number : ℕ) → get nat_eq l.table number ≡ type_number_from l.number (drop l.number l.names) (names.Anonymous number)
