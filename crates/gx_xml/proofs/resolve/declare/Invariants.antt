use Rattle.std.proofs.Common.{◌≡◌, ◌++◌, take, map}
use Rattle.gx_xml.specs.Tags.{declared_binding}
use Rattle.gx_xml.proofs.resolve.declare.Given as goal

abbrev pub invariant-loop-declaration : goal.invariant-loop-declaration
invariant-loop-declaration l = l.bindings ≡ l.fn.bindings ++ map declared_binding (take l.declaration-index l.declarations)
