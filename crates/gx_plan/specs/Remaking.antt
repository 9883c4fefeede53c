-- Trees that are remade from below, and how far a pass that does so is.
use Rattle.std.specs.Prelude.{◌≡◌, ℕ, suc, ◌+◌, List, [], ◌∷◌, ◌++◌, map, length, reverse, option_map}
use Rattle.gx_core.specs.declared.expression.Query.{Query}
use Rattle.gx_core.specs.declared.expression.Declaration.{Declaration}
use Rattle.gx_core.specs.declared.expression.Declaration.TheVariants.{Global, Function}
use Rattle.gx_base.specs.declared.place.Place.{Place}
use Rattle.gx_core.specs.declared.operator.Operator.{Operator}
use Rattle.gx_core.specs.Expression.{Expression, At, Parts, no_parts, a_part, all_parts}
use Rattle.gx_plan.specs.Operands.{HasPlaceFor}
use Rattle.gx_plan.specs.declared.remake.Frame.{Frame}

-- what an operator becomes over parts that are remade
abbrev pub Remaker : Type 0 → Type 0 → Type 0
Remaker A B = (place outer : Place) → A → Operator → Parts B → Expression B

abbrev mutual
  pub remade : {A B : Type 0} → Remaker A B → Expression A → Expression B
  remade make (At place outer carried operator parts) = make place outer carried operator (parts_remade make parts)

  pub parts_remade : {A B : Type 0} → Remaker A B → Parts A → Parts B
  parts_remade make no_parts = no_parts
  parts_remade make (a_part first others) = a_part (remade make first) (parts_remade make others)

abbrev pub declaration_remade : {A B : Type 0} → Remaker A B → Declaration A → Declaration B
declaration_remade make (Global name binder value) = Global name binder (option_map (remade make) value)
declaration_remade make (Function function) =
    Function (record { place = function.place; name = function.name; parameters = function.parameters; result = function.result; body = remade make function.body })

abbrev pub query_remade : {A B : Type 0} → Remaker A B → Query A → Query B
query_remade make query = record { declarations = map (declaration_remade make) query.declarations; body = remade make query.body }

-- ---- a pass

-- what an operator becomes over its parts, all of which are remade
abbrev pub frame_made : {A B F : Type 0} → Remaker A B → Frame A B F → Expression B
frame_made make frame = make frame.place frame.outer frame.carried frame.operator (all_parts frame.parts.items)

-- what it becomes when the parts that are left are remade too
abbrev pub frame_remade : {A B F : Type 0} → Remaker A B → Frame A B F → Expression B
frame_remade make frame =
    make frame.place frame.outer frame.carried frame.operator (all_parts (frame.parts.items ++ map (remade make) (reverse frame.left.items)))

-- what all becomes when an expression is remade inside these operators, the innermost first
abbrev pub remade_inside : {A B F : Type 0} → Remaker A B → List (Frame A B F) → Expression B → Expression B
remade_inside make [] e = e
remade_inside make (frame ∷ outer) e =
    remade_inside make outer
    (make frame.place frame.outer frame.carried frame.operator
    (all_parts (frame.parts.items ++ e ∷ map (remade make) (reverse frame.left.items))))

-- the innermost of them is next
abbrev pub all_remade : {A B F : Type 0} → Remaker A B → Frame A B F → List (Frame A B F) → Expression B
all_remade make frame outer = remade_inside make outer (frame_remade make frame)

-- an operator has these facts of its parts that are remade, and place for so many parts besides
pub record HasPlaceForMore {A B F : Type 0} (facts_of : Expression B → F) (more : ℕ) (frame : Frame A B F) : Type 0 where
  pub facts : frame.facts.items ≡ map facts_of frame.parts.items
  pub place : HasPlaceFor frame.operator (more + length frame.parts.items)

-- no part is left
abbrev pub IsReady : {A B F : Type 0} → (facts_of : Expression B → F) → Frame A B F → Type 0
IsReady facts_of frame = HasPlaceForMore facts_of 0 frame

-- the parts that are left are still to be remade
abbrev pub IsUnderWay : {A B F : Type 0} → (facts_of : Expression B → F) → Frame A B F → Type 0
IsUnderWay facts_of frame = HasPlaceForMore facts_of (length frame.left.items) frame

-- and one more part is being remade
abbrev pub AwaitsPart : {A B F : Type 0} → (facts_of : Expression B → F) → Frame A B F → Type 0
AwaitsPart facts_of frame = HasPlaceForMore facts_of (suc (length frame.left.items)) frame
