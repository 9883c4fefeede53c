-- Joins of plans, and what is left to do of a join.
use Rattle.std.specs.Prelude.{ℕ, List, [], ◌∷◌, ◌++◌, take, drop}
use Rattle.gx_atomic.specs.declared.join_key.JoinKey.{JoinKey}
use Rattle.gx_model.specs.Forest.{Forest}
use Rattle.gx_model.specs.Item.{Items, Item}
use Rattle.gx_core.specs.declared.expression.Binder.{Binder}
use Rattle.gx_core.specs.declared.operator.Operator.TheVariants as operators
use Rattle.gx_core.specs.Expression.{two_parts}
use Rattle.gx_core.specs.Outcome.{Outcome, after, given}
use Rattle.gx_core.specs.Meaning.{Context, Bindings, Denotation, denoted}
use Rattle.gx_plan.specs.declared.plan.Role.{Role}
use Rattle.gx_plan.specs.Plan.{PlanExpression}
use Rattle.gx_join_table.specs.Joining.{rows_with_a_key}
use Rattle.gx_joins.specs.HashJoin.{JoinParts as JoinOf, keys_of_items as keys_of, table_of, for_rows, for_pairs, left_key_at, right_key_at, result_at, joined_with, joined_over}
use Rattle.gx_joins.specs.JoinedMeaning.{joined_meaning as joined, as_joined, if_join, outer_loop}
use Rattle.gx_machine.specs.FoundTuples.{Stacks, with_sources}
use Rattle.gx_machine.specs.declared.joining.Join.{Join}
use Rattle.gx_machine.specs.declared.joining.Sides.{Sides}
use Rattle.gx_machine.specs.declared.joining.JoinWork.{JoinWork}
use Rattle.gx_machine.specs.declared.joining.JoinWork.TheVariants.{Left, Right, Build, Keep, Probe, Find, Pairs}

-- a join whose parts are those of expressions
abbrev pub join_meant : Context → Join → JoinOf Denotation
join_meant k join =
    record {
      left = join.left;
      right = join.right;
      source = joined k join.source.now;
      other = joined k join.other.now;
      left_key = joined k join.left_key.now;
      right_key = joined k join.right_key.now;
      result = joined k join.result.now;
    }

-- a loop as it means, and what it comes to where it may be a join
abbrev pub loop_unmarked : Context → Binder → (position : ℕ) → (source body : PlanExpression) → Denotation
loop_unmarked k binder position source body = denoted k (operators.For binder position) (joined k source ∷ joined k body ∷ [])

abbrev pub loop_meant : Context → Role → Binder → (position : ℕ) → (source body : PlanExpression) → Denotation
loop_meant k role binder position source body =
    as_joined (if_join (outer_loop k (operators.For binder position) (two_parts source body)) role) (loop_unmarked k binder position source body)

-- what there is for each left item from a place on, behind the values that are there, and then the next work without the items of the join
abbrev pub pairs_left : Context → Join → (table : List (List JoinKey)) → Sides → (following : ℕ) → (values : Items) → Stacks → Bindings → Forest
    → (Items → Stacks → Forest → Outcome Items) → Outcome Items
pairs_left k join table sides following values stacks bindings forest next =
    after (for_pairs (left_key_at (join_meant k join) bindings) (result_at (join_meant k join) bindings) table (drop sides.right stacks.sources) values
    (drop following (take sides.right stacks.sources)) forest)
    (λ vs left. next vs (with_sources stacks (take sides.left stacks.sources)) left)

-- the same where the right items from a place on are not in the table yet
abbrev pub rows_left : Context → Join → (table : List (List JoinKey)) → Sides → (following : ℕ) → (values : Items) → Stacks → Bindings → Forest
    → (Items → Stacks → Forest → Outcome Items) → Outcome Items
rows_left k join table sides following values stacks bindings forest next =
    after (table_of (right_key_at (join_meant k join) bindings) table (drop following stacks.sources) forest)
    (λ whole left. pairs_left k join whole sides sides.left values stacks bindings left next)

-- what there is for the right items at these rows, where the left item is bound innermost
abbrev pub found_left : Context → Join → (table : List (List JoinKey)) → Sides → (following : ℕ) → (rows : List ℕ) → (values : Items) → Stacks
    → Bindings → Forest → (Items → Stacks → Forest → Outcome Items) → Outcome Items
found_left k join table sides following rows values stacks bindings forest next =
    after (for_rows (λ y now. joined k join.result.now ((join.right, y ∷ []) ∷ bindings) now) (drop sides.right stacks.sources) values rows forest)
    (λ vs left. pairs_left k join table sides following vs stacks (drop 1 bindings) left next)

-- what is left to do of a join, and then the next work, over the bindings around the join
abbrev pub join_resumed : Context → JoinWork → Join → (values : Items) → Stacks → Bindings → Forest → (Items → Stacks → Bindings → Forest → Outcome Items) → Outcome Items
join_resumed k (Left first) join values stacks bindings forest next =
    after (joined_over (join_meant k join) bindings (drop first values) forest) (λ more left. next (take first values ++ more) stacks bindings left)
join_resumed k (Right start first) join values stacks bindings forest next =
    after (joined_with (join_meant k join) bindings (drop start stacks.sources) (drop first values) forest)
    (λ more left. next (take first values ++ more) (with_sources stacks (take start (stacks.sources ++ drop first values))) bindings left)
join_resumed k (Build table sides following) join values stacks bindings forest next =
    rows_left k join table.value sides following values stacks bindings forest (λ vs beside left. next vs beside bindings left)
join_resumed k (Keep table sides following first) join values stacks bindings forest next =
    given (keys_of (drop first values)) (λ keys.
    rows_left k join (table.value ++ keys ∷ []) sides following (take first values) stacks bindings forest (λ vs beside left. next vs beside bindings left))
join_resumed k (Probe table sides following) join values stacks bindings forest next =
    pairs_left k join table.value sides following values stacks bindings forest (λ vs beside left. next vs beside bindings left)
join_resumed k (Find table sides following first) join values stacks bindings forest next =
    given (keys_of (drop first values)) (λ keys. found_left k join table.value sides following (rows_with_a_key keys table.value) (take first values) stacks
    bindings forest (λ vs beside left. next vs beside (drop 1 bindings) left))
join_resumed k (Pairs table sides following rows row) join values stacks bindings forest next =
    found_left k join table.value sides following (drop row rows.items) values stacks bindings forest (λ vs beside left. next vs beside (drop 1 bindings) left)
