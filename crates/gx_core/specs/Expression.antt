-- Core expressions, as plain trees: an operator over its parts.
use Rattle.std.specs.Prelude.{ℕ, ◌+◌, List, [], ◌∷◌}
use Rattle.gx_base.specs.declared.place.Place.{Place}
use Rattle.gx_core.specs.declared.operator.Operator.{Operator}

-- Each expression has an annotation: nothing in Core as it is made, and the type in a typed Core.
mutual
  -- an expression at its place, and at that of its outermost parentheses
  pub data Expression (A : Type 0) : Type 0 where
    At : (place outer : Place) (annotation : A) (operator : Operator) (parts : Parts A) → Expression A

  pub data Parts (A : Type 0) : Type 0 where
    no_parts : Parts A
    a_part : (first : Expression A) (others : Parts A) → Parts A

abbrev mutual
  -- how many expressions and lists of parts a tree has
  pub expression_size : {A : Type 0} → Expression A → ℕ
  expression_size (At place outer annotation operator parts) = 1 + parts_size parts

  pub parts_size : {A : Type 0} → Parts A → ℕ
  parts_size no_parts = 1
  parts_size (a_part first others) = 1 + expression_size first + parts_size others

-- what a query is normalised to
abbrev pub CoreExpression : Type 0
CoreExpression = Expression (Unit {0})

abbrev pub core_at : (place outer : Place) → Operator → Parts (Unit {0}) → CoreExpression
core_at place outer operator parts = At place outer tt operator parts

-- the parts of operators of one, two and three parts, and of any number
abbrev pub one_part : {A : Type 0} → Expression A → Parts A
one_part first = a_part first no_parts

abbrev pub two_parts : {A : Type 0} → Expression A → Expression A → Parts A
two_parts first second = a_part first (a_part second no_parts)

abbrev pub three_parts : {A : Type 0} → Expression A → Expression A → Expression A → Parts A
three_parts first second third = a_part first (a_part second (a_part third no_parts))

abbrev pub all_parts : {A : Type 0} → List (Expression A) → Parts A
all_parts [] = no_parts
all_parts (e ∷ es) = a_part e (all_parts es)

abbrev pub annotation_of : {A : Type 0} → Expression A → A
annotation_of (At place outer annotation operator parts) = annotation

-- the place of the outermost parentheses
abbrev pub outer_of : {A : Type 0} → Expression A → Place
outer_of (At place outer annotation operator parts) = outer

-- something of each part
abbrev pub each_of : {A B : Type 0} → (Expression A → B) → Parts A → List B
each_of look no_parts = []
each_of look (a_part first others) = look first ∷ each_of look others

-- the tree without its annotations
abbrev mutual
  pub plain : {A : Type 0} → Expression A → CoreExpression
  plain (At place outer annotation operator parts) = At place outer tt operator (plain_parts parts)

  pub plain_parts : {A : Type 0} → Parts A → Parts (Unit {0})
  plain_parts no_parts = no_parts
  plain_parts (a_part first others) = a_part (plain first) (plain_parts others)
