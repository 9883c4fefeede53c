-- How many parts an operator has.
use Rattle.std.specs.Prelude.{◌≡◌, ℕ, ◌+◌, ◌≤◌, length}
use Rattle.gx_core.specs.declared.operator.Operator.{Operator}
use Rattle.gx_core.specs.declared.operator.Operator.TheVariants as operators

-- an operator may stand over so many parts
abbrev pub HasPlaceFor : Operator → (parts : ℕ) → Type 0
HasPlaceFor (operators.Lit value) parts = parts ≡ 0
HasPlaceFor (operators.Var number) parts = parts ≡ 0
HasPlaceFor operators.Empty parts = parts ≡ 0
HasPlaceFor operators.Seq parts = parts ≡ 2
HasPlaceFor (operators.For binder position) parts = parts ≡ 2
HasPlaceFor (operators.Let binder) parts = parts ≡ 2
HasPlaceFor operators.If parts = parts ≡ 3
HasPlaceFor (operators.Cast kind optional) parts = parts ≡ 1
HasPlaceFor (operators.Castable kind optional) parts = parts ≡ 1
HasPlaceFor (operators.Step axis asks number) parts = parts ≡ 0
HasPlaceFor operators.Nodes parts = parts ≡ 1
HasPlaceFor operators.Order parts = parts ≡ 1
HasPlaceFor (operators.SomeIn binder) parts = parts ≡ 2
HasPlaceFor (operators.EveryIn binder) parts = parts ≡ 2
HasPlaceFor (operators.Switch cases default) parts = 1 ≤ parts
HasPlaceFor (operators.Nth number reverse) parts = parts ≡ 1
HasPlaceFor (operators.Final reverse) parts = parts ≡ 1
HasPlaceFor (operators.Block clauses keys) parts = parts ≡ length clauses + length keys + 1
HasPlaceFor operators.DataOf parts = parts ≡ 1
HasPlaceFor operators.NoContext parts = parts ≡ 0
HasPlaceFor (operators.Call function) parts = Unit {0}
HasPlaceFor operators.Neg parts = parts ≡ 1
HasPlaceFor (operators.Binary operator) parts = parts ≡ 2
HasPlaceFor (operators.Construct constructor count) parts = parts ≡ count
HasPlaceFor (operators.Treat kind) parts = parts ≡ 1
HasPlaceFor (operators.User signature count) parts = parts ≡ count
