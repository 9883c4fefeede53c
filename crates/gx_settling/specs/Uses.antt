-- Which functions an expression calls, and which variables it names (XQuery 1.0, sections 3.1.2 and 3.1.5).
use Rattle.std.specs.Prelude.{ℕ, List, [], ◌∷◌, ◌++◌}
use Rattle.gx_core.specs.declared.operator.Operator.{Operator}
use Rattle.gx_core.specs.declared.operator.Operator.TheVariants as operators
use Rattle.gx_core.specs.Expression.{Expression, At, Parts, no_parts, a_part}

-- what each operator of an expression gives, in the order of the tree
abbrev mutual
  pub of_operators : {A : Type 0} → (Operator → List ℕ) → Expression A → List ℕ
  of_operators look (At place outer annotation operator parts) = look operator ++ of_operators_in look parts

  pub of_operators_in : {A : Type 0} → (Operator → List ℕ) → Parts A → List ℕ
  of_operators_in look no_parts = []
  of_operators_in look (a_part first others) = of_operators look first ++ of_operators_in look others

-- the number of the declared function that an operator calls
abbrev pub called_function : Operator → List ℕ
called_function (operators.User signature count) = signature.number ∷ []
called_function _ = []

-- the number of the variable that an operator names
abbrev pub named_variable : Operator → List ℕ
named_variable (operators.Var number) = number ∷ []
named_variable (operators.Step axis asks number) = number ∷ []
named_variable _ = []

-- the numbers of the declared functions that an expression calls
abbrev pub called_by : {A : Type 0} → Expression A → List ℕ
called_by e = of_operators called_function e

-- the numbers of the variables that an expression names
abbrev pub variables_named : {A : Type 0} → Expression A → List ℕ
variables_named e = of_operators named_variable e
