-- Which of its parts an operator evaluates, under which bindings and in which forest, in the order of evaluation (XQuery 1.0, section
-- 2.3.4). Each definition lists the evaluations that one of the meanings asks for.
use Rattle.std.specs.Prelude.{ℕ, suc, ◌+◌, Bool, true, false, List, [], ◌∷◌, ◌++◌, map, drop}
use Rattle.std.specs.Prelude.{length, Option, Some, None, option_map, slice_get, if◌then◌else◌}
use Rattle.gx_sorting.specs.declared.keys.KeyOrder.{KeyOrder}
use Rattle.gx_types.specs.SchemaSet.{SchemaSet}
use Rattle.gx_model.specs.Forest.{Forest}
use Rattle.gx_model.specs.Item.{Item, Items}
use Rattle.gx_core.specs.declared.cases.TypeCase.{TypeCase}
use Rattle.gx_core.specs.declared.operator.ClauseKind.{ClauseKind}
use Rattle.gx_core.specs.declared.operator.ClauseKind.TheVariants as kinds
use Rattle.gx_core.specs.declared.operator.Operator.{Operator}
use Rattle.gx_core.specs.declared.operator.Operator.TheVariants as operators
use Rattle.gx_core.specs.Bindings.{position_bound}
use Rattle.gx_core.specs.Instances.{is_instance}
use Rattle.gx_core.specs.Outcome.{Outcome, gives, raises, wrong}
use Rattle.gx_core.specs.Comparing.{condition_of}
use Rattle.gx_core.specs.Denotations.{Bindings, Denotation, item_bound}
use Rattle.gx_core.specs.Blocks.{Tuple, key_of, tuples_of, in_key_order}
use Rattle.gx_core.specs.Meaning.{Context, decides}

-- the evaluation of the part with this number, counted from 0
pub record PartEvaluation : Type 0 where
  pub part : ℕ
  pub bindings : Bindings
  pub forest : Forest

abbrev pub evaluation_of_part : ℕ → Bindings → Forest → PartEvaluation
evaluation_of_part part bindings forest = record { part = part; bindings = bindings; forest = forest }

-- the evaluations that follow an outcome: none behind an error
abbrev pub evaluations_after : {R : Type 0} → Outcome R → (R → Forest → List PartEvaluation) → List PartEvaluation
evaluations_after (gives result forest) next = next result forest
evaluations_after (raises code) next = []
evaluations_after wrong next = []

-- the evaluations that follow a value that may be missing: none where it is
abbrev pub evaluations_given : {R : Type 0} → Option R → (R → List PartEvaluation) → List PartEvaluation
evaluations_given None next = []
evaluations_given (Some x) next = next x

-- of operands, from the left, each in the forest that the one before it leaves; `part` is the number of the first
abbrev pub operand_evaluations : (part : ℕ) → List Denotation → Bindings → Forest → List PartEvaluation
operand_evaluations part [] bindings forest = []
operand_evaluations part (operand ∷ operands) bindings forest =
    evaluation_of_part part bindings forest ∷ evaluations_after (operand bindings forest)
    (λ value left. operand_evaluations (suc part) operands bindings left)

-- of the body of a loop, for each item; `number` is that of the first item
abbrev pub turn_evaluations : (part : ℕ) → (bound : ℕ → Item → Bindings) → Denotation → (number : ℕ) → Items → Forest → List PartEvaluation
turn_evaluations part bound body number [] forest = []
turn_evaluations part bound body number (x ∷ xs) forest =
    evaluation_of_part part (bound number x) forest
    ∷ evaluations_after (body (bound number x) forest) (λ more left. turn_evaluations part bound body (suc number) xs left)

-- of the test of a quantified expression, for each item up to the one that decides
abbrev pub search_evaluations : (part : ℕ) → (decisive : Bool) → (bound : Item → Bindings) → Denotation → Items → Forest
    → List PartEvaluation
search_evaluations part decisive bound test [] forest = []
search_evaluations part decisive bound test (x ∷ xs) forest =
    evaluation_of_part part (bound x) forest
    ∷ evaluations_after (test (bound x) forest)
    (λ ys left. evaluations_given (condition_of ys)
    (λ truth. if decides decisive truth then [] else search_evaluations part decisive bound test xs left))

-- the number of the part of a conditional that is chosen
abbrev pub chosen_part : Bool → ℕ
chosen_part true = 1
chosen_part false = 2

-- of the branch of a switch that is chosen; `part` is the number of the first branch
abbrev pub branch_evaluations : SchemaSet → List TypeCase → (default part : ℕ) → (branches : List Denotation) → Items → Bindings → Forest
    → List PartEvaluation
branch_evaluations schemas [] default part (otherwise ∷ []) xs bindings forest =
    evaluation_of_part part (position_bound default xs ++ bindings) forest ∷ []
branch_evaluations schemas (case ∷ cases) default part (chosen ∷ branches) xs bindings forest =
    if is_instance schemas forest case.kind xs then evaluation_of_part part (position_bound case.variable xs ++ bindings) forest ∷ []
    else branch_evaluations schemas cases default (suc part) branches xs bindings forest
branch_evaluations schemas _ default part _ xs bindings forest = []

-- of the keys of a tuple, from the left
abbrev pub key_evaluations : List KeyOrder → (part : ℕ) → List Denotation → Bindings → Forest → List PartEvaluation
key_evaluations [] part parts bindings forest = []
key_evaluations (order ∷ orders) part [] bindings forest = []
key_evaluations (order ∷ orders) part (key ∷ parts) bindings forest =
    evaluation_of_part part bindings forest ∷ evaluations_after (key bindings forest)
    (λ xs left. evaluations_given (key_of xs) (λ found. key_evaluations orders (suc part) parts bindings left))

-- of what stands inside a `for` clause, for each item
abbrev pub evaluations_of_each : (found : ℕ → Item → Forest → Outcome (List Tuple)) → (asked : ℕ → Item → Forest → List PartEvaluation)
    → (number : ℕ) → Items → Forest → List PartEvaluation
evaluations_of_each found asked number [] forest = []
evaluations_of_each found asked number (x ∷ xs) forest =
    asked number x forest ++ evaluations_after (found number x forest) (λ tuples left. evaluations_of_each found asked (suc number) xs left)

-- of the parts of clauses, and of the keys of each tuple as soon as it is found
abbrev pub tuple_evaluations : List ClauseKind → List KeyOrder → (part : ℕ) → List Denotation → (bound outer : Bindings) → Forest
    → List PartEvaluation
tuple_evaluations [] orders part parts bound outer forest = key_evaluations orders part parts (bound ++ outer) forest
tuple_evaluations (kind ∷ kinds) orders part [] bound outer forest = []
tuple_evaluations (kinds.For binder position ∷ kinds) orders part (source ∷ parts) bound outer forest =
    evaluation_of_part part (bound ++ outer) forest
    ∷ evaluations_after (source (bound ++ outer) forest)
    (λ xs left. evaluations_of_each
    (λ number x now. tuples_of kinds orders parts (item_bound binder.variable position number x ++ bound) outer now)
    (λ number x now. tuple_evaluations kinds orders (suc part) parts (item_bound binder.variable position number x ++ bound) outer now)
    1 xs left)
tuple_evaluations (kinds.Let binder ∷ kinds) orders part (value ∷ parts) bound outer forest =
    evaluation_of_part part (bound ++ outer) forest
    ∷ evaluations_after (value (bound ++ outer) forest)
    (λ xs left. tuple_evaluations kinds orders (suc part) parts ((binder.variable, xs) ∷ bound) outer left)
tuple_evaluations (kinds.Where ∷ kinds) orders part (condition ∷ parts) bound outer forest =
    evaluation_of_part part (bound ++ outer) forest
    ∷ evaluations_after (condition (bound ++ outer) forest)
    (λ xs left. evaluations_given (condition_of xs)
    (λ truth. if truth then tuple_evaluations kinds orders (suc part) parts bound outer left else []))

-- of what a block returns, for each tuple
abbrev pub return_evaluations : (part : ℕ) → Denotation → (outer : Bindings) → List Bindings → Forest → List PartEvaluation
return_evaluations part body outer [] forest = []
return_evaluations part body outer (bound ∷ tuples) forest =
    evaluation_of_part part (bound ++ outer) forest
    ∷ evaluations_after (body (bound ++ outer) forest) (λ more left. return_evaluations part body outer tuples left)

-- of what a block returns, for its tuples in the order of their keys
abbrev pub block_return_evaluations : List KeyOrder → (part : ℕ) → (returns : List Denotation) → Bindings → List Tuple → Forest
    → List PartEvaluation
block_return_evaluations orders part (body ∷ []) bindings tuples forest =
    return_evaluations part body bindings (map (λ t. t.bound) (in_key_order orders tuples)) forest
block_return_evaluations orders part _ bindings tuples forest = []

-- of all parts of a block: first its tuples with their keys, and then what is returned for them
abbrev pub block_evaluations : List ClauseKind → List KeyOrder → List Denotation → Bindings → Forest → List PartEvaluation
block_evaluations kinds orders parts bindings forest =
    tuple_evaluations kinds orders 0 parts [] bindings forest
    ++ evaluations_after (tuples_of kinds orders parts [] bindings forest)
    (block_return_evaluations orders (length kinds + length orders) (drop (length orders) (drop (length kinds) parts)) bindings)

-- the evaluations that an operator over these parts asks for
abbrev pub evaluations : Context → Operator → List Denotation → Bindings → Forest → List PartEvaluation
evaluations context (operators.For binder position) (source ∷ body ∷ []) bindings forest =
    evaluation_of_part 0 bindings forest
    ∷ evaluations_after (source bindings forest)
    (λ xs left. turn_evaluations 1 (λ number x. item_bound binder.variable position number x ++ bindings) body 1 xs left)
evaluations context (operators.For binder position) _ bindings forest = []
evaluations context (operators.SomeIn binder) (source ∷ test ∷ []) bindings forest =
    evaluation_of_part 0 bindings forest ∷ evaluations_after (source bindings forest)
    (λ xs left. search_evaluations 1 true (λ x. (binder.variable, x ∷ []) ∷ bindings) test xs left)
evaluations context (operators.SomeIn binder) _ bindings forest = []
evaluations context (operators.EveryIn binder) (source ∷ test ∷ []) bindings forest =
    evaluation_of_part 0 bindings forest ∷ evaluations_after (source bindings forest)
    (λ xs left. search_evaluations 1 false (λ x. (binder.variable, x ∷ []) ∷ bindings) test xs left)
evaluations context (operators.EveryIn binder) _ bindings forest = []
evaluations context (operators.Let binder) (value ∷ body ∷ []) bindings forest =
    evaluation_of_part 0 bindings forest ∷ evaluations_after (value bindings forest)
    (λ xs left. evaluation_of_part 1 ((binder.variable, xs) ∷ bindings) left ∷ [])
evaluations context (operators.Let binder) _ bindings forest = []
evaluations context (operators.Switch cases default) (operand ∷ branches) bindings forest =
    evaluation_of_part 0 bindings forest ∷ evaluations_after (operand bindings forest)
    (λ xs left. branch_evaluations context.schemas cases default 1 branches xs bindings left)
evaluations context (operators.Switch cases default) _ bindings forest = []
evaluations context (operators.Block kinds orders) parts bindings forest = block_evaluations kinds orders parts bindings forest
evaluations context operators.If (condition ∷ chosen ∷ otherwise ∷ []) bindings forest =
    evaluation_of_part 0 bindings forest
    ∷ evaluations_after (condition bindings forest)
    (λ xs left. evaluations_given (condition_of xs) (λ truth. evaluation_of_part (chosen_part truth) bindings left ∷ []))
evaluations context operators.If _ bindings forest = []
evaluations context operator parts bindings forest = operand_evaluations 0 parts bindings forest

-- what an evaluation comes to, where there is a part with its number
abbrev pub evaluated_as : List Denotation → PartEvaluation → Option (Outcome Items)
evaluated_as parts evaluation = option_map (λ part. part evaluation.bindings evaluation.forest) (slice_get parts evaluation.part)
