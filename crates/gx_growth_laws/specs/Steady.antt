-- Expressions that make nothing, and their values where the forest grows (XQuery 1.0, sections 2.3.4 and 3.7).
use Rattle.std.specs.Prelude.{◌≡◌, Bool, true, false, ◌&&◌, Some}
use Rattle.gx_types.specs.SchemaSet.{SchemaSet}
use Rattle.gx_types.specs.SequenceType.{SequenceType}
use Rattle.gx_tree.specs.PlainTree.{PlainTree}
use Rattle.gx_model.specs.Belongs.{Belongs}
use Rattle.gx_model.specs.Forest.{Forest, PlainNode, node_in}
use Rattle.gx_model.specs.Growth.{Extends}
use Rattle.gx_model.specs.Item.{Item, atom, node, Items}
use Rattle.gx_model.specs.OrderLaws.{Every}
use Rattle.gx_core.specs.declared.operator.Operator.{Operator}
use Rattle.gx_core.specs.declared.operator.Operator.TheVariants as operators
use Rattle.gx_core.specs.Expression.{Expression, At, Parts, no_parts, a_part}
use Rattle.gx_core.specs.Meaning.{Bindings, Context, meaning}
use Rattle.gx_core.specs.Outcome.{gives}

-- ---- expressions that make nothing

-- an operator that is no constructor and no call of a declared function, whose body may have constructors
abbrev pub operator_makes_nothing : Operator → Bool
operator_makes_nothing (operators.Construct constructor count) = false
operator_makes_nothing (operators.User signature count) = false
operator_makes_nothing _ = true

-- all operators of an expression are so
abbrev mutual
  pub makes_nothing : {A : Type 0} → Expression A → Bool
  makes_nothing (At place outer annotation operator parts) = operator_makes_nothing operator && parts_make_nothing parts

  pub parts_make_nothing : {A : Type 0} → Parts A → Bool
  parts_make_nothing no_parts = true
  parts_make_nothing (a_part first others) = makes_nothing first && parts_make_nothing others

-- ---- values whose nodes are there

-- a forest has a node at a place
pub record HasNode (forest : Forest) (place : PlainNode) : Type 0 where
  pub tree : PlainTree
  pub found : node_in forest place ≡ Some tree

-- a forest has the node that an item is, if it is one
abbrev pub IsThere : Forest → Item → Type 0
IsThere forest (atom value) = Unit {0}
IsThere forest (node place) = HasNode forest place

-- all nodes among items
abbrev pub AreThere : Forest → Items → Type 0
AreThere forest items = Every (IsThere forest) items

-- those among the values of all variables
abbrev pub BindingsAreThere : Forest → Bindings → Type 0
BindingsAreThere forest bindings = Every (λ binding. AreThere forest binding.1) bindings

-- ---- the laws

-- what a value of an expression in one forest says of a forest that extends it
pub record IsSteady {A : Type 0} (context : Context) (e : Expression A) (bindings : Bindings) (before now : Forest) (value : Items) (left : Forest) : Type 0 where
  -- nothing was made
  pub kept : left ≡ before
  -- all nodes of the value are there
  pub there : AreThere before value
  -- the expression has the same value in the other forest, and leaves that as it is, too
  pub same : meaning context e bindings now ≡ gives value now

-- what makes nothing, and has a value in a forest that has all nodes of its variables, has it in each forest that extends this one
abbrev pub SteadyExpressionsStay : Type 0 → Type 0
SteadyExpressionsStay A =
    (context : Context) (e : Expression A) (bindings : Bindings) (before now : Forest) (value : Items) (left : Forest)
    → makes_nothing e ≡ true → BindingsAreThere before bindings → Extends before now → meaning context e bindings before ≡ gives value left
    → IsSteady context e bindings before now value left

-- a value of a type has nodes of the forest alone
abbrev pub ValuesOfTypesAreThere : Type 0
ValuesOfTypesAreThere =
    (schemas : SchemaSet) (forest : Forest) (value : Items) (t : SequenceType) → Belongs schemas forest value t → AreThere forest value

-- what is there stays there
pub record WhatIsThereStays : Type 0 where
  pub values : (before now : Forest) (value : Items) → Extends before now → AreThere before value → AreThere now value
  pub bindings : (before now : Forest) (bindings : Bindings) → Extends before now → BindingsAreThere before bindings → BindingsAreThere now bindings
