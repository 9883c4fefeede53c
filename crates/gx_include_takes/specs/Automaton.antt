-- The states of a type over lists of shapes, by number, and the state that a shape leads to from another one.
use Rattle.std.specs.Prelude.{◌≡◌, ℕ, ◌<◌, Bool, List, [], length, Option, None, Some, IfSome, slice_get}
use Rattle.indexmap.specs.IndexMap.{IndexMap, get}
use Rattle.gx_types.specs.declared.shape.Shape.{Shape}
use Rattle.gx_types.specs.declared.shape.Shape.TheVariants as shapes
use Rattle.gx_types.specs.SchemaSet.{SchemaSet}
use Rattle.gx_types.specs.SequenceType.{SequenceType}
use Rattle.gx_include_takes.specs.declared.automaton.State.{State}
use Rattle.gx_include_takes.specs.declared.shape_key.ShapeKey.{ShapeKey}
use Rattle.gx_include_takes.specs.declared.shape_key.ShapeKey.TheVariants as keys
use Rattle.gx_include_takes.specs.declared.shape_key.StepKey.{StepKey}
use Rattle.gx_include_takes.specs.contracts.shape_key.StepKeyPartialEq.TheImpl as steps
use Rattle.gx_include_positions.specs.Step.{single, step_over, is_end}
use Rattle.gx_include_positions.specs.Test.{is_taken}

-- the shape of a key
abbrev pub shape_keyed : ShapeKey → Shape
shape_keyed (keys.Element name t) = shapes.Elem name t
shape_keyed (keys.Attribute name t) = shapes.Attr name t
shape_keyed keys.Text = shapes.Text
shape_keyed keys.Document = shapes.Doc None
shape_keyed (keys.DocumentOf name t) = shapes.Doc (Some (name, t))
shape_keyed (keys.Atom t) = shapes.Atom t

-- the key of a shape
abbrev pub shape_key : Shape → ShapeKey
shape_key (shapes.Elem name t) = keys.Element name t
shape_key (shapes.Attr name t) = keys.Attribute name t
shape_key shapes.Text = keys.Text
shape_key (shapes.Doc None) = keys.Document
shape_key (shapes.Doc (Some element)) = keys.DocumentOf element.0 element.1
shape_key (shapes.Atom t) = keys.Atom t

-- what `==` says of two keys
abbrev pub same_step : StepKey → StepKey → Bool
same_step = (steps.ghosts).eq

-- the set of a state, the empty one where there is no state
abbrev pub state_set : Option State → List Bool
state_set None = []
state_set (Some state) = state.set.items

-- the set of the state of a number
abbrev pub set_at : List State → ℕ → List Bool
set_at states number = state_set (slice_get states number)

-- each state says whether a list of the type may end at a member of its set
abbrev pub AreStates : SequenceType → List State → Type 0
AreStates t states = (number : ℕ) (state : State) → slice_get states number ≡ Some state → state.ends ≡ is_end t state.set.items

-- states keep their numbers
abbrev pub KeepTheirNumbers : List State → List State → Type 0
KeepTheirNumbers states more = (number : ℕ) (state : State) → slice_get states number ≡ Some state → slice_get more number ≡ Some state

-- a shape that is read in one state leads to another one
pub record IsStep (schemas : SchemaSet) (t : SequenceType) (states : List State) (key : StepKey) (target : ℕ) : Type 0 where
  pub origin_within : key.state < length states
  pub target_within : target < length states
  pub set_is : set_at states target ≡ step_over t (is_taken schemas (shape_keyed key.shape)) (set_at states key.state)

-- the first state is that of the start alone, and each target that is kept is the one that the shape leads to
pub record IsAutomaton {S : Type 0} (schemas : SchemaSet) (t : SequenceType) (states : List State) (targets : IndexMap StepKey ℕ S) : Type 0 where
  pub some : 0 < length states
  pub start : set_at states 0 ≡ single 0
  pub ends : AreStates t states
  pub steps : (key : StepKey) → IfSome (get same_step targets key) (IsStep schemas t states key)
