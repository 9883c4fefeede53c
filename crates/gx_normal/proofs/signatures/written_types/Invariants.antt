use Rattle.std.proofs.Common.{◌≡◌, map, take}
use Rattle.gx_resolved.specs.declared.tree.BoundName.{BoundName}
use Rattle.gx_normal.specs.Signatures.{type_or_items}
use Rattle.gx_normal.proofs.signatures.written_types.Given as goal

abbrev pub invariant-loop-parameter : goal.invariant-loop-parameter
invariant-loop-parameter l = l.types.items ≡ map (λ (parameter : BoundName). type_or_items parameter.kind) (take l.parameter-index l.parameters)
