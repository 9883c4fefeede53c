-- What an evaluation in its midst comes to.
use Rattle.std.specs.Prelude.{Bool, ℕ, zero, suc, ◌+◌, List, [], ◌∷◌, ◌++◌, length, take, drop, map, if◌then◌else◌}
use Rattle.gx_types.specs.SchemaSet.{SchemaSet}
use Rattle.gx_model.specs.Forest.{Forest}
use Rattle.gx_model.specs.Item.{Item, Items}
use Rattle.gx_core.specs.declared.expression.BinaryOp.{BinaryOp}
use Rattle.gx_core.specs.declared.operator.Operator.{Operator}
use Rattle.gx_core.specs.declared.operator.Operator.TheVariants as operators
use Rattle.gx_core.specs.Bindings.{position_bound}
use Rattle.gx_core.specs.Comparing.{truth_value, condition_of}
use Rattle.gx_core.specs.Outcome.{Outcome, gives, wrong, after, given}
use Rattle.gx_core.specs.Meaning.{CallOutcomes, Context, Bindings, Denotation, acts, branch, switched, for_each, item_bound, decides, any_decides}
use Rattle.gx_joins.specs.JoinedMeaning.{joined_meaning as joined}
use Rattle.gx_plan.specs.Plan.{PlanExpression}
use Rattle.gx_core.specs.PathLaws.{stepped_from_each}
use Rattle.gx_store.specs.Items.{items_in}
pub use Rattle.gx_machine.specs.BoundItems.{items_of}
pub use Rattle.gx_machine.specs.FoundTuples.{Stacks, with_sources}
use Rattle.gx_machine.specs.FoundTuples.{found_in, block_resumed}
use Rattle.gx_machine.specs.Joining.{join_resumed}
use Rattle.gx_machine.specs.Operators.{single_operator, changing_operator}
use Rattle.gx_machine.specs.declared.evaluation.Pending.{Pending}
use Rattle.gx_machine.specs.declared.evaluation.Pending.TheVariants.{Evaluate, Change, Steps, Single as Operate, Right, Binary, Choose, Switch, Mark, Call, Construct, Enter, Gather, Each, Decide, Bind, Unbind, Block, Join}
use Rattle.gx_machine.specs.declared.evaluation.Evaluation.{Evaluation}
use Rattle.gx_machine.specs.declared.looping.Loop.{Loop}
use Rattle.gx_machine.specs.declared.looping.Loop.TheVariants.{For, Search}

-- what an expression stands in under these schemas, where calls come to this
abbrev pub context_with : SchemaSet → CallOutcomes → Context
context_with schemas calls = record { schemas = schemas; calls = calls }

abbrev pub with_marks : Stacks → List ℕ → Stacks
with_marks stacks marks = record { marks = marks; sources = stacks.sources; found = stacks.found }

-- what an operator makes of the operands goes behind the values
abbrev pub operated : Context → Operator → (operands : List Items) → (values : Items) → Forest → (Items → Forest → Outcome Items) → Outcome Items
operated k operator operands values forest next = after (acts k operator operands forest) (λ more left. next (values ++ more) left)

-- what an operator makes of the values from a number of them on, behind those before it
abbrev pub changed : Context → Operator → (first : ℕ) → (values : Items) → Forest → Outcome Items
changed k operator first values forest = after (acts k operator (drop first values ∷ []) forest) (λ more left. gives (take first values ++ more) left)

-- what an operator makes of the values from a number of them on and of its right operand
abbrev pub right_meaning : Context → BinaryOp → (first : ℕ) → PlanExpression → (values : Items) → Bindings → Forest → Outcome Items
right_meaning k operator first right values bindings forest =
    after (joined k right bindings forest) (λ ys left. acts k (operators.Binary operator) (drop first values ∷ ys ∷ []) left)

-- the operands between so many last marks, in order, and the marks and values below them
abbrev pub between_marks : ℕ → (marks : List ℕ) → (values : Items) → (operands : List Items) → (List Items → List ℕ → Items → Outcome Items) → Outcome Items
between_marks zero marks values operands next = next operands marks values
between_marks (suc n) [] values operands next = wrong
between_marks (suc n) (mark ∷ marks) values operands next = between_marks n marks (take mark values) (drop mark values ∷ operands) next

-- operands that are evaluated in order, each behind the values and a mark of its own
abbrev pub in_order : List Denotation → (Items → List ℕ → Bindings → Forest → Outcome Items) → (values : Items) → (marks : List ℕ) → Bindings → Forest → Outcome Items
in_order [] next values marks bindings forest = next values marks bindings forest
in_order (part ∷ parts) next values marks bindings forest =
    after (part bindings forest) (λ more left. in_order parts next (values ++ more) (length values ∷ marks) bindings left)

-- a turn of a loop, and a test of an item
abbrev pub turn : Denotation → (variable position : ℕ) → Bindings → (number : ℕ) → Item → Forest → Outcome Items
turn body variable position bindings number item forest = body (item_bound variable position number item ++ bindings) forest

abbrev pub item_tested : Denotation → (variable : ℕ) → Bindings → Item → Forest → Outcome Items
item_tested test variable bindings item forest = test ((variable, item ∷ []) ∷ bindings) forest

-- what a search over the items of a source comes to
abbrev pub search_meaning : Context → (decisive : Bool) → (variable : ℕ) → (source test : PlanExpression) → Denotation
search_meaning k decisive variable source test bindings forest =
    after (joined k source bindings forest) (λ xs left. any_decides decisive (item_tested (joined k test) variable bindings) xs left)

-- what a loop over items puts behind the values that are there
abbrev pub looped : Denotation → Loop → Bindings → (values items : Items) → Forest → Outcome Items
looped body (For variable position number) bindings values items forest = for_each (turn body variable position bindings) number values items forest
looped body (Search variable decisive) bindings values items forest =
    after (any_decides decisive (item_tested body variable bindings) items forest) (λ more left. gives (values ++ more) left)

-- what is left to do, over the values and the stacks that are there
abbrev pub resume : Context → List Pending → (values : Items) → Stacks → Bindings → Forest → Outcome Items
resume k [] values stacks bindings forest = gives values forest
resume k (Evaluate e ∷ work) values stacks bindings forest =
    after (joined k e.now bindings forest) (λ more left. resume k work (values ++ more) stacks bindings left)
resume k (Change operator first ∷ work) values stacks bindings forest =
    operated k (changing_operator operator) (drop first values ∷ []) (take first values) forest (λ vs left. resume k work vs stacks bindings left)
resume k (Steps axis asks first ∷ work) values stacks bindings forest =
    after (stepped_from_each k.schemas axis asks.now (take first values) (drop first values) forest) (λ vs left. resume k work vs stacks bindings left)
resume k (Operate operator first ∷ work) values stacks bindings forest =
    operated k (single_operator operator) (drop first values ∷ []) (take first values) forest (λ vs left. resume k work vs stacks bindings left)
resume k (Right operator first right ∷ work) values stacks bindings forest =
    after (joined k right.now bindings forest)
    (λ ys left. operated k (operators.Binary operator) (drop first values ∷ ys ∷ []) (take first values) left (λ vs last. resume k work vs stacks bindings last))
resume k (Binary operator first second ∷ work) values stacks bindings forest =
    operated k (operators.Binary operator) (drop first (take second values) ∷ drop second values ∷ []) (take first (take second values)) forest
    (λ vs left. resume k work vs stacks bindings left)
resume k (Choose first yes' no' ∷ work) values stacks bindings forest =
    given (condition_of (drop first values))
    (λ truth. after (branch truth (joined k yes'.now) (joined k no'.now) bindings forest) (λ more left. resume k work (take first values ++ more) stacks bindings left))
resume k (Switch first choice ∷ work) values stacks bindings forest =
    after (switched k.schemas choice.cases.now choice.default (map (joined k) choice.branches.now) (drop first values) bindings forest) (λ more left. resume k work (take first values ++ more) stacks bindings left)
resume k (Mark ∷ work) values stacks bindings forest = resume k work values (with_marks stacks (length values ∷ stacks.marks)) bindings forest
resume k (Call function more ∷ work) values stacks bindings forest =
    between_marks (more + 2) stacks.marks values []
    (λ operands below rest. operated k (operators.Call function) operands rest forest (λ vs left. resume k work vs (with_marks stacks below) bindings left))
resume k (Construct constructor count ∷ work) values stacks bindings forest =
    between_marks count stacks.marks values []
    (λ operands below rest. operated k (operators.Construct constructor.now count) operands rest forest (λ vs left. resume k work vs (with_marks stacks below) bindings left))
resume k (Enter signature count ∷ work) values stacks bindings forest =
    between_marks count stacks.marks values []
    (λ operands below rest. operated k (operators.User signature.now count) operands rest forest (λ vs left. resume k work vs (with_marks stacks below) bindings left))
resume k (Gather repeated first body ∷ work) values stacks bindings forest =
    after (looped (joined k body.now) repeated bindings (take first values) (drop first values) forest) (λ vs left. resume k work vs stacks bindings left)
resume k (Each repeated next start body ∷ work) values stacks bindings forest =
    after (looped (joined k body.now) repeated bindings values (drop next stacks.sources) forest)
    (λ vs left. resume k work vs (with_sources stacks (take start stacks.sources)) bindings left)
resume k (Decide search ∷ work) values stacks bindings forest =
    given (condition_of (drop search.first values))
    (λ truth. after (if decides search.decisive truth then gives (truth_value search.decisive) forest
    else any_decides search.decisive (item_tested (joined k search.test.now) search.variable bindings) (drop search.next stacks.sources) forest)
    (λ more left. resume k work (take search.first values ++ more) (with_sources stacks (take search.start stacks.sources)) bindings left))
resume k (Bind variable first body ∷ work) values stacks bindings forest =
    after (joined k body.now ((variable, drop first values) ∷ bindings) forest) (λ more left. resume k work (take first values ++ more) stacks bindings left)
resume k (Block piece rest ∷ work) values stacks bindings forest = block_resumed k piece rest values stacks bindings forest (λ vs beside left. resume k work vs beside bindings left)
resume k (Join piece join ∷ work) values stacks bindings forest = join_resumed k piece join.value values stacks bindings forest (λ vs beside around left. resume k work vs beside around left)
resume k (Unbind count ∷ work) values stacks bindings forest = resume k work values stacks (drop count bindings) forest

-- what is left to do over the values and marks that are there
abbrev pub resume_marked : Context → List Pending → Stacks → (values : Items) → (marks : List ℕ) → Bindings → Forest → Outcome Items
resume_marked k work stacks values marks bindings forest = resume k work values (with_marks stacks marks) bindings forest

-- a piece of work that calls no declared function
abbrev pub IsNoCall : Pending → Type 0
IsNoCall (Enter signature count) = ⊥
IsNoCall _ = Unit {0}

-- ---- an evaluation in its midst; its numbers stand for nodes of the later forest

abbrev pub stacks_of : (later : Forest) → Evaluation → Stacks
stacks_of later evaluation =
    record { marks = evaluation.marks; sources = items_in later evaluation.sources.items; found = found_in later evaluation.tuples }

abbrev pub outcome_of : Context → (forest later : Forest) → Evaluation → Outcome Items
outcome_of k forest later evaluation =
    resume k evaluation.work (items_in later evaluation.values.items) (stacks_of later evaluation) (items_of later evaluation.scope) forest

-- with one more piece of work that comes first
abbrev pub outcome_with : Context → (forest later : Forest) → Pending → Evaluation → Outcome Items
outcome_with k forest later pending evaluation =
    resume k (pending ∷ evaluation.work) (items_in later evaluation.values.items) (stacks_of later evaluation) (items_of later evaluation.scope) forest

-- with a part that comes next, whose value goes behind the values that are there
abbrev pub outcome_behind : Context → (later : Forest) → Outcome Items → Evaluation → Outcome Items
outcome_behind k later part evaluation =
    after part (λ more left. resume k evaluation.work (items_in later evaluation.values.items ++ more) (stacks_of later evaluation) (items_of later evaluation.scope) left)

-- with a part that comes next, and a piece of work behind it
abbrev pub outcome_then : Context → (forest later : Forest) → PlanExpression → Pending → Evaluation → Outcome Items
outcome_then k forest later part behind evaluation =
    after (joined k part (items_of later evaluation.scope) forest)
    (λ more left. resume k (behind ∷ evaluation.work) (items_in later evaluation.values.items ++ more) (stacks_of later evaluation) (items_of later evaluation.scope) left)

-- with a branch that comes next, whose variable is bound to the values from a number of them on, where it has one
abbrev pub branch_outcome : Context → (forest later : Forest) → (first variable : ℕ) → PlanExpression → Evaluation → Outcome Items
branch_outcome k forest later first variable branch evaluation =
    after (joined k branch (position_bound variable (drop first (items_in later evaluation.values.items)) ++ items_of later evaluation.scope) forest)
    (λ more left. resume k evaluation.work (take first (items_in later evaluation.values.items) ++ more) (stacks_of later evaluation) (items_of later evaluation.scope) left)
