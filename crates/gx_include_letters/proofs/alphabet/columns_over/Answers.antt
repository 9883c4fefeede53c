use Rattle.std.proofs.Common.{ℕ, ◌+◌, [], subst, length}
use Rattle.gx_include_letters.specs.Alphabet.{AreColumns}
use Rattle.gx_include_letters.proofs.Columns.{columns_begin, columns_more, columns_end}
use Rattle.gx_include_letters.proofs.alphabet.columns_over.Goals as goal

pub loop-shape-init : goal.loop-shape-init
loop-shape-init c = columns_begin c.args.schemas.now c.args.left.now c.args.right.now (length c.args.left.now + 1) c.in_ok-columns.columns.items
    (subst (λ (n : ℕ). AreColumns (n + 1) (λ place. []) c.in_ok-columns.columns.items) c.count.ensures c.in_ok-columns.ensures)

pub loop-shape-preserved : goal.loop-shape-preserved
loop-shape-preserved c =
    columns_more c.args.schemas.now c.args.left.now c.args.right.now c.args.shapes.now (length c.args.left.now + 1) c.loop-shape.shape-index c.shape-item.result c.loop-shape.columns.items
    c.add_shape.new.columns.items c.loop-shape-test.true c.shape-item.is c.loop-shape.invariant c.in_ok-add_shape.ensures

pub returns : goal.returns
returns c =
    columns_end c.args.schemas.now c.args.left.now c.args.right.now c.args.shapes.now (length c.args.left.now + 1) c.loop-shape.shape-index c.loop-shape.columns.items c.loop-shape-test.false
    c.loop-shape.invariant
