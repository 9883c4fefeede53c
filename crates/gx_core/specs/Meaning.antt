-- What a Core expression means (XQuery 1.0 and XPath 2.0 Formal Semantics, section 4; XQuery 1.0, section 3).
use Rattle.std.specs.Prelude.{ℕ, suc, Bool, true, false, not, List, [], ◌∷◌, ◌++◌, if◌then◌else◌}
use Rattle.gx_types.specs.SchemaSet.{SchemaSet}
use Rattle.gx_model.specs.Forest.{Forest}
use Rattle.gx_model.specs.Item.{Item, atom, Items}
use Rattle.gx_model.specs.Atomization.{atomized}
use Rattle.gx_core.specs.declared.operator.Operator.{Operator}
use Rattle.gx_core.specs.declared.operator.Operator.TheVariants as operators
use Rattle.gx_core.specs.Expression.{Expression, At, Parts, no_parts, a_part}
use Rattle.gx_core.specs.Bindings.{look_up, position_bound}
use Rattle.gx_core.specs.Outcome.{Outcome, gives, wrong, after, given}
use Rattle.gx_core.specs.declared.expression.BinaryClass.{BinaryClass}
use Rattle.gx_core.specs.declared.expression.BinaryClass.TheVariants.{Arithmetic, Value, General, Nodes, Range, Combination}
use Rattle.gx_core.specs.BinaryOperators.{class_of}
use Rattle.gx_core.specs.Arithmetic.{arithmetic, negation}
use Rattle.gx_core.specs.Comparing.{truth_value, condition_of, value_compared, generally_compared}
use Rattle.gx_core.specs.ComparingNodes.{nodes_compared}
use Rattle.gx_core.specs.Ranging.{range}
use Rattle.gx_core.specs.Casting.{cast_items, castable_items}
use Rattle.gx_core.specs.Calling.{called}
use Rattle.gx_core.specs.Paths.{stepped, nodes_alone, put_in_order}
use Rattle.gx_core.specs.CombiningNodes.{nodes_combined}
use Rattle.gx_core.specs.Filtering.{nth_of, final_of}
use Rattle.gx_core.specs.Treating.{treated}
use Rattle.gx_core.specs.Instances.{is_instance}
use Rattle.gx_core.specs.Constructing.{constructor_outcome}
use Rattle.gx_core.specs.Converting.{arguments_converted}
use Rattle.gx_core.specs.declared.cases.TypeCase.{TypeCase}
use Rattle.gx_core.specs.declared.signature.FunctionSignature.{FunctionSignature}
pub use Rattle.gx_core.specs.Denotations.{Bindings, Denotation, item_bound}
use Rattle.gx_core.specs.Blocks.{block_denoted}

-- what calls of declared functions come to, from the values of their arguments
abbrev pub CallOutcomes : Type 0
CallOutcomes = FunctionSignature → List Items → Forest → Outcome Items

-- what an expression stands in
pub record Context : Type 0 where
  pub schemas : SchemaSet
  pub calls : CallOutcomes

-- what an operator makes of its two operands
abbrev pub binary_meaning : BinaryClass → Items → Items → Forest → Outcome Items
binary_meaning (Arithmetic operation) xs ys forest = arithmetic operation xs ys forest
binary_meaning (Value op) xs ys forest = value_compared op xs ys forest
binary_meaning (General op) xs ys forest = generally_compared op xs ys forest
binary_meaning (Nodes op) xs ys forest = nodes_compared op xs ys forest
binary_meaning Range xs ys forest = range xs ys forest
binary_meaning (Combination op) xs ys forest = nodes_combined op xs ys forest

-- what a strict operator makes of the values of its parts; a wrong number of them is a type error
abbrev pub acts : Context → Operator → List Items → Forest → Outcome Items
acts context (operators.Lit value) [] forest = gives (atom value ∷ []) forest
acts context operators.Empty [] forest = gives [] forest
acts context operators.Seq (xs ∷ ys ∷ []) forest = gives (xs ++ ys) forest
acts context operators.Nodes (xs ∷ []) forest = nodes_alone xs forest
acts context operators.Order (xs ∷ []) forest = put_in_order xs forest
acts context (operators.Nth number reverse) (xs ∷ []) forest = gives (nth_of number reverse xs) forest
acts context (operators.Final reverse) (xs ∷ []) forest = gives (final_of reverse xs) forest
acts context operators.DataOf (xs ∷ []) forest = given (atomized context.schemas forest xs) (λ ys. gives ys forest)
acts context (operators.Cast kind optional) (xs ∷ []) forest = cast_items context.schemas kind optional xs forest
acts context (operators.Castable kind optional) (xs ∷ []) forest = castable_items context.schemas kind optional xs forest
acts context (operators.Treat kind) (xs ∷ []) forest = treated context.schemas kind xs forest
acts context (operators.Call function) values forest = called context.schemas function values forest
acts context operators.Neg (xs ∷ []) forest = negation xs forest
acts context (operators.Binary operator) (xs ∷ ys ∷ []) forest = binary_meaning (class_of operator) xs ys forest
acts context (operators.Construct constructor count) values forest = constructor_outcome context.schemas constructor values forest
acts context (operators.User signature count) values forest =
    after (arguments_converted context.schemas signature.parameters values forest) (λ arguments left. context.calls signature arguments left)
acts context _ _ forest = wrong

-- the values of parts, from the left, each in the forest that the part before it leaves
abbrev pub all_of : List Denotation → Bindings → Forest → Outcome (List Items)
all_of [] bindings forest = gives [] forest
all_of (part ∷ parts) bindings forest =
    after (part bindings forest) (λ value left. after (all_of parts bindings left) (λ values last. gives (value ∷ values) last))

-- a part for each item, in order and by its number, each in the forest that the one before it leaves; `done` is what there is so far
abbrev pub for_each : (ℕ → Item → Forest → Outcome Items) → (number : ℕ) → (done : Items) → Items → Forest → Outcome Items
for_each next number done [] forest = gives done forest
for_each next number done (x ∷ xs) forest = after (next number x forest) (λ more left. for_each next (suc number) (done ++ more) xs left)

-- a truth ends a search for one that decides: `some` ends at a true one, `every` at a false one
abbrev pub decides : (decisive truth : Bool) → Bool
decides true truth = truth
decides false truth = not truth

-- whether an item decides, which ends the search
abbrev pub any_decides : (decisive : Bool) → (test : Item → Forest → Outcome Items) → Items → Forest → Outcome Items
any_decides decisive test [] forest = gives (truth_value (not decisive)) forest
any_decides decisive test (x ∷ xs) forest =
    after (test x forest) (λ ys left. given (condition_of ys)
    (λ truth. if decides decisive truth then gives (truth_value decisive) left else any_decides decisive test xs left))

-- the branch of a conditional
abbrev pub branch : Bool → (chosen otherwise : Denotation) → Denotation
branch true chosen otherwise = chosen
branch false chosen otherwise = otherwise

-- the branch of the first case whose type a value is of, or that of the default; each with its variable bound to the value
abbrev pub switched : SchemaSet → List TypeCase → (default : ℕ) → (branches : List Denotation) → Items → Bindings → Forest → Outcome Items
switched schemas [] default (otherwise ∷ []) xs bindings forest = otherwise (position_bound default xs ++ bindings) forest
switched schemas (case ∷ cases) default (chosen ∷ branches) xs bindings forest =
    if is_instance schemas forest case.kind xs then chosen (position_bound case.variable xs ++ bindings) forest
    else switched schemas cases default branches xs bindings forest
switched schemas _ default _ xs bindings forest = wrong

-- an operator over its parts: those that choose, bind or repeat have a line each, and over another number of parts than theirs they are a
-- type error; all others are strict
abbrev pub denoted : Context → Operator → List Denotation → Bindings → Forest → Outcome Items
denoted context (operators.Var number) [] bindings forest = given (look_up bindings number) (λ value. gives value forest)
denoted context (operators.For binder position) (source ∷ body ∷ []) bindings forest =
    after (source bindings forest) (λ xs left. for_each
    (λ number x now. body (item_bound binder.variable position number x ++ bindings) now) 1 [] xs left)
denoted context (operators.For binder position) _ bindings forest = wrong
denoted context (operators.SomeIn binder) (source ∷ test ∷ []) bindings forest =
    after (source bindings forest) (λ xs left. any_decides true (λ x now. test ((binder.variable, x ∷ []) ∷ bindings) now) xs left)
denoted context (operators.SomeIn binder) _ bindings forest = wrong
denoted context (operators.EveryIn binder) (source ∷ test ∷ []) bindings forest =
    after (source bindings forest) (λ xs left. any_decides false (λ x now. test ((binder.variable, x ∷ []) ∷ bindings) now) xs left)
denoted context (operators.EveryIn binder) _ bindings forest = wrong
denoted context (operators.Block kinds orders) parts bindings forest = block_denoted kinds orders parts bindings forest
denoted context (operators.Step axis asks number) [] bindings forest =
    given (look_up bindings number) (λ value. stepped context.schemas axis asks value forest)
denoted context (operators.Let binder) (value ∷ body ∷ []) bindings forest =
    after (value bindings forest) (λ xs left. body ((binder.variable, xs) ∷ bindings) left)
denoted context (operators.Let binder) _ bindings forest = wrong
denoted context (operators.Switch cases default) (operand ∷ branches) bindings forest =
    after (operand bindings forest) (λ xs left. switched context.schemas cases default branches xs bindings left)
denoted context (operators.Switch cases default) _ bindings forest = wrong
denoted context operators.If (condition ∷ chosen ∷ otherwise ∷ []) bindings forest =
    after (condition bindings forest) (λ xs left. given (condition_of xs) (λ truth. branch truth chosen otherwise bindings left))
denoted context operators.If _ bindings forest = wrong
denoted context operator parts bindings forest = after (all_of parts bindings forest) (acts context operator)

-- the meaning looks at no place and at no annotation
abbrev mutual
  pub meaning : {A : Type 0} → Context → Expression A → Denotation
  meaning context (At place outer annotation operator parts) = denoted context operator (meanings context parts)

  pub meanings : {A : Type 0} → Context → Parts A → List Denotation
  meanings context no_parts = []
  meanings context (a_part first others) = meaning context first ∷ meanings context others
