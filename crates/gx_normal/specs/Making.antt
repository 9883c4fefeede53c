-- The parts of making Core from constructs.
use Rattle.std.specs.Prelude.{ℕ, Bool, true, false, List, [], ◌∷◌, Option, None, Some}
use Rattle.gx_funcs.specs.declared.function.Function.TheVariants as functions
use Rattle.gx_base.specs.declared.place.Place.{Place}
use Rattle.gx_resolved.specs.declared.tree.Construct.{Construct}
use Rattle.gx_resolved.specs.declared.tree.Construct.TheVariants as written
use Rattle.gx_core.specs.declared.cases.TypeCase.{TypeCase}
use Rattle.gx_core.specs.declared.operator.Operator.TheVariants as operators
use Rattle.gx_core.specs.Expression.{CoreExpression, Parts, a_part, core_at}
use Rattle.gx_normal.specs.Constructs.{within, core_sequence, empty_at, of_one, signed_at, cast_at, castable_at, joining, constructor_at}
use Rattle.gx_normal.specs.Switches.{instance_at, treat_at}
use Rattle.gx_core.specs.declared.constructor.Constructor.{Constructor}
use Rattle.gx_core.specs.declared.constructor.Constructor.TheVariants as constructors
use Rattle.gx_normal.specs.Normalisation.{of_two, joined_at}

-- the first of several, if there is one
abbrev pub first_item : {A : Type 0} → List A → Option A
first_item [] = None
first_item (x ∷ xs) = Some x

-- a case and its body in front of the branches behind it, if both are there
abbrev pub put_in_front : Place → CoreExpression → Option TypeCase → Option CoreExpression → List TypeCase → (default : ℕ) → Parts (Unit {0}) → CoreExpression
put_in_front place nothing (Some case) (Some body) cases default branches = core_at place place (operators.Switch (case ∷ cases) default) (a_part nothing (a_part body branches))
put_in_front place nothing _ _ cases default branches = empty_at place

abbrev pub made_of_one : Place → Construct → List CoreExpression → CoreExpression
made_of_one place written.Parenthesised parts = of_one place (within place) parts
made_of_one place (written.CastableAs kind optional) parts = of_one place (castable_at place kind optional) parts
made_of_one place (written.CastAs kind optional) parts = of_one place (cast_at place kind optional) parts
made_of_one place (written.InstanceOf kind) parts = of_one place (instance_at place kind) parts
made_of_one place (written.TreatAs kind) parts = of_one place (treat_at place kind) parts
made_of_one place (written.Signed minus) parts = of_one place (signed_at place minus) parts
made_of_one place _ parts = empty_at place

abbrev pub made_of_two : Place → Construct → List CoreExpression → CoreExpression
made_of_two place written.Sequence parts = of_two place core_sequence parts
made_of_two place (written.Binary operator) parts = joined_at place (joining place operator) parts
made_of_two place _ parts = empty_at place

-- the constructor of Core for one that is written, if it is one
abbrev pub constructor_written : Construct → Option Constructor
constructor_written written.Document = Some constructors.Document
constructor_written written.TextNode = Some constructors.Text
constructor_written (written.Element name) = Some (constructors.Element name)
constructor_written (written.Attribute name) = Some (constructors.Attribute name)
constructor_written (written.DirectElement name) = Some (constructors.Element name)
constructor_written (written.DirectAttribute name) = Some (constructors.Attribute name)
constructor_written _ = None

abbrev pub node_made : Place → Option Constructor → List CoreExpression → CoreExpression
node_made place None parts = empty_at place
node_made place (Some constructor) parts = constructor_at place constructor parts

abbrev pub made_of_node : Place → Construct → List CoreExpression → CoreExpression
made_of_node place construct parts = node_made place (constructor_written construct) parts

abbrev pub operation_at : Place → Option (CoreExpression → CoreExpression → CoreExpression) → CoreExpression → CoreExpression → CoreExpression
operation_at place None first second = empty_at place
operation_at place (Some join) first second = join first second

-- a construct that is made of all its parts, which are normalised in their order
abbrev pub is_of_parts : Construct → Bool
is_of_parts (written.Variable name binder) = false
is_of_parts written.Context = false
is_of_parts (written.Call functions.Position) = false
is_of_parts (written.Call functions.Last) = false
is_of_parts (written.Step axis asks) = false
is_of_parts written.ParentStep = false
is_of_parts written.Flwor = false
is_of_parts (written.Quantified every) = false
is_of_parts (written.Path descendants) = false
is_of_parts written.Filtered = false
is_of_parts (written.Case bound kind) = false
is_of_parts (written.Default bound) = false
is_of_parts _ = true
