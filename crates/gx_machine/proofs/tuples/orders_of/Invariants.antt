use Rattle.std.proofs.Common.{◌≡◌, take, map}
use Rattle.gx_core.specs.ExpressionView.{order_of_key}
use Rattle.gx_machine.proofs.tuples.orders_of.Given as goal

-- the orders of the keys that are passed
abbrev pub invariant-loop-key : goal.invariant-loop-key
invariant-loop-key l = l.orders.items ≡ map order_of_key (take l.key-index l.sort_keys)
