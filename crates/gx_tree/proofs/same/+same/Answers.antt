use Rattle.std.proofs.Common.{◌<◌, length, ap, arith}
use Rattle.gx_tree.proofs.TreesLemmas.{item_le-trees_size, same_from_trees}
use Rattle.gx_tree.proofs.same.+same.Goals as goal

pub same_all-same-requires : goal.same_all-same-requires
same_all-same-requires t c =
    let within : c.loop-i.i < length c.args.ts.now.items = omega (arith, c.len-i-end.ensures, c.args.ts.now.ok.0) in
    let smaller = item_le-trees_size c.args.ts.now.items c.loop-i.i c.index.result.now within c.index.ensures in
    (omega (arith, smaller), tt)

pub same_all-returns-then-len : goal.same_all-returns-then-len
same_all-returns-then-len t c = (
  λ e. absurd (cc),
  λ e. absurd (omega (arith, ap length (same_from_trees c.args.ts.now.items c.args.us.now.items e), c.len.ensures, c.len-2.ensures, c.args.ts.now.ok.0, c.args.us.now.ok.0)),
)
