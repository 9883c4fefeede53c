use Rattle.std.proofs.Common.{◌≡◌, ◌-◌, length}
use Rattle.gx_schema.specs.SimpleBases.{simple_base, simple_base_within}
use Rattle.gx_schema.proofs.simple_bases.simple_base.Given as goal

-- the bases that are left
abbrev pub invariant-loop : goal.invariant-loop
invariant-loop l = simple_base_within l.types (length l.types - l.counter) l.reached ≡ simple_base l.types l.fn.base
