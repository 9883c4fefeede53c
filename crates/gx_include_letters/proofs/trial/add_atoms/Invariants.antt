use Rattle.std.proofs.Common.{◌≡◌, ◌++◌, map, take}
use Rattle.gx_types.specs.declared.shape.Shape.TheVariants.{Atom}
use Rattle.gx_include_letters.proofs.trial.add_atoms.Given as goal

abbrev pub invariant-loop-t : goal.invariant-loop-t
invariant-loop-t l = l.shapes.items ≡ l.fn.shapes.items ++ map Atom (take l.t-index l.types)
