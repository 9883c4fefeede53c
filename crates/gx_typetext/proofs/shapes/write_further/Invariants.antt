use Rattle.std.proofs.Common.{◌≡◌, ◌++◌, take}
use Rattle.gx_typetext.specs.ShapeText.{further_text}
use Rattle.gx_typetext.proofs.shapes.write_further.Given as goal

abbrev pub invariant-loop-shape : goal.invariant-loop-shape
invariant-loop-shape l = l.text ≡ l.fn.text ++ further_text (take l.shape-index l.list)
