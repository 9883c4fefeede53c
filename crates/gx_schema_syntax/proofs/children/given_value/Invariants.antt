use Rattle.std.proofs.Common.{◌≡◌, length}
use Rattle.gx_schema_syntax.specs.Contents.{given_value}
use Rattle.gx_schema_syntax.proofs.children.given_value.Given as goal

-- what is left decides
abbrev pub invariant-loop-attribute : goal.invariant-loop-attribute
invariant-loop-attribute l = given_value l.local l.left ≡ given_value l.local l.fn.attributes

abbrev pub decreases-loop-attribute : goal.decreases-loop-attribute
decreases-loop-attribute l = length l.left
