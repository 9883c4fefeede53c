-- The operators of one operand that the evaluator applies, to make an answer of the operand or to change it where it stands.
use Rattle.gx_core.specs.declared.operator.Operator.{Operator}
use Rattle.gx_core.specs.declared.operator.Operator.TheVariants as operators
use Rattle.gx_machine.specs.declared.single.Single.{Single}
use Rattle.gx_machine.specs.declared.single.Single.TheVariants as singles
use Rattle.gx_machine.specs.declared.change.Change.{Change}
use Rattle.gx_machine.specs.declared.change.Change.TheVariants as changes

-- the operator of Core
abbrev pub single_operator : Single → Operator
single_operator singles.Neg = operators.Neg
single_operator (singles.Cast kind allows_empty) = operators.Cast kind.now allows_empty
single_operator (singles.Castable kind allows_empty) = operators.Castable kind.now allows_empty
single_operator (singles.Call function) = operators.Call function

abbrev pub changing_operator : Change → Operator
changing_operator changes.Data = operators.DataOf
changing_operator changes.OnlyNodes = operators.Nodes
changing_operator changes.Order = operators.Order
changing_operator (changes.Nth number reverse) = operators.Nth number reverse
changing_operator (changes.Final reverse) = operators.Final reverse
changing_operator (changes.Treat kind) = operators.Treat kind.now
