-- How nodes are compared: by tree, then by path, then by attribute, which is document order.
use Rattle.std.specs.Prelude.{Bool, nat_eq}
use Rattle.std.specs.declared.cmp.Ordering.{Ordering}
use Rattle.std.specs.Ordering.{on, then_cmp, eq_of_both, nat_cmp}
use Rattle.std.specs.Option.{option_eq, option_cmp}
use Rattle.std.specs.Cmp.Lexicographic.{pointwise, slice_cmp}
use Rattle.gx_model.specs.Forest.{PlainNode}

abbrev pub node_eq : PlainNode → PlainNode → Bool
node_eq = eq_of_both (eq_of_both (on (λ n. n.tree) nat_eq) (on (λ n. n.path) (pointwise nat_eq))) (on (λ n. n.attribute) (option_eq nat_eq))

abbrev pub node_cmp : PlainNode → PlainNode → Ordering
node_cmp = then_cmp (then_cmp (on (λ n. n.tree) nat_cmp) (on (λ n. n.path) (slice_cmp nat_cmp))) (on (λ n. n.attribute) (option_cmp nat_cmp))
