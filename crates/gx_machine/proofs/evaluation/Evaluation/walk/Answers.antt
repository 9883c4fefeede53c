use Rattle.std.proofs.Common.{◌≡◌, ◌+◌, ◌∷◌, [], ◌++◌, ℕ, List, length, map, take, drop, rules, ap, sym, ◌∙◌}
use Rattle.std.proofs.lemmas.List.{map-append, nil_from_length}
use Rattle.gx_model.specs.Item.{Items}
use Rattle.gx_plan.specs.declared.plan.Carried.{Carried}
use Rattle.gx_core.specs.declared.expression.Clause.{Clause}
use Rattle.gx_core.specs.declared.expression.Clause.TheVariants.{For, Let, Where}
use Rattle.gx_core.specs.declared.expression.SortKey.{SortKey}
use Rattle.gx_core.specs.Bindings.{clause_numbers_bound}
use Rattle.gx_core.specs.ExpressionView.{kind_of_clause, order_of_key, parts_of_block}
use Rattle.gx_core.specs.Blocks.{tuples_of}
use Rattle.gx_core.specs.Outcome.{after}
use Rattle.gx_plan.specs.Plan.{PlanExpression}
use Rattle.gx_core.specs.Meaning.{Bindings, Denotation}
use Rattle.gx_joins.specs.JoinedMeaning.{joined_meaning as joined}
use Rattle.gx_store.specs.Items.{items_in}
use Rattle.gx_machine.specs.declared.blocks.BlockWork.TheVariants.{Keys}
use Rattle.gx_machine.specs.declared.evaluation.Pending.{Pending}
use Rattle.gx_machine.specs.declared.evaluation.Pending.TheVariants.{Block}
use Rattle.gx_machine.specs.FoundTuples.{row_in, with_found}
use Rattle.gx_machine.specs.Resume.{Stacks, resume, items_of, stacks_of}
use Rattle.gx_machine.proofs.BlockResuming.{where_put, where_done, with_more, walk_ends_at, for_walks, let_walks, where_walks}
use Rattle.gx_machine.proofs.evaluation.Evaluation.walk.Goals as goal

pub returns-in_default : goal.returns-in_default
returns-in_default c = λ k forest later.
    let values : Items = items_in later c.args.self.now.values.items in
    let stacks : Stacks = stacks_of later c.args.self.now in
    let bindings : Bindings = items_of later c.args.self.now.scope in
    let work : List Pending = c.args.self.now.work in
    let keys : List (SortKey Carried) = c.args.rest.keys.now in
    let row : Bindings = items_of later c.in_ok-row.row.items in
    let none : c.args.rest.clauses.now ≡ [] = nil_from_length c.args.rest.clauses.now c.in_default.ensures.cases in
    let rows : map (row_in later) c.push.new.self.items ≡ stacks.found.rows ++ row ∷ [] =
    ap (map (row_in later)) c.in_ok-push.ensures.items ∙ map-append (row_in later) c.args.self.now.tuples.rows.items (c.in_ok-row.row ∷ []) in
    where_put c.push-in_default.result (λ (w : List Pending). resume k w values (with_found stacks (record { keys = stacks.found.keys; rows = map (row_in later) c.push.new.self.items; numbers = stacks.found.numbers })) bindings forest) _ _ _ c.push-in_default.ensures.ok
    (ap (λ (rs : List Bindings). resume k (Block Keys c.args.rest ∷ work) values (with_found stacks (record { keys = stacks.found.keys; rows = rs; numbers = stacks.found.numbers })) bindings forest) rows
    ∙ walk_ends_at (joined k) c.args.rest.clauses.now keys c.args.rest.body.now c.args.rest.bound bindings row values stacks forest (λ vs beside left. resume k work vs beside bindings left) none (c.in_ok-row.ensures later))

pub returns-in-For : goal.returns-in-For
returns-in-For c = λ k forest later.
    let values : Items = items_in later c.args.self.now.values.items in
    let stacks : Stacks = stacks_of later c.args.self.now in
    let bindings : Bindings = items_of later c.args.self.now.scope in
    let work : List Pending = c.args.self.now.work in
    let keys : List (SortKey Carried) = c.args.rest.keys.now in
    let body : PlanExpression = c.args.rest.body.now in
    let others : List (Clause Carried) = c.in-Some.others.now in
    let n : ℕ = c.args.rest.bound in
    let parts : List Denotation = map (joined k) (parts_of_block others keys body) in
    let first_of : c.args.rest.clauses.now ≡ c.in-Some.clause.now ∷ others = search rules in
    let clauses : c.args.rest.clauses.now ≡ For c.in-For.binder c.in-For.position c.in-For.source ∷ others = first_of ∙ ap (λ (x : Clause Carried). x ∷ others) c.in-For.is in
    let inner : c.in_ok-bound.bound ≡ n + length (clause_numbers_bound (kind_of_clause (For c.in-For.binder c.in-For.position c.in-For.source))) = c.in_ok-bound.ensures ∙ ap (λ (x : Clause Carried). n + length (clause_numbers_bound (kind_of_clause x))) c.in-For.is in
    where_done c.open_part.result _ _ _ (c.open_part.ensures k forest later)
    (for_walks (map kind_of_clause others) (map order_of_key keys) parts (joined k c.in-For.source) c.in-For.binder.variable c.in-For.position n c.in_ok-bound.bound bindings values c.count_of-first.result stacks forest
    (λ vs beside left. resume k work vs beside bindings left) inner (c.count_of-first.ensures later)
    ∙ ap (λ (cs : List (Clause Carried)). after (tuples_of (map kind_of_clause cs) (map order_of_key keys) (map (joined k) (parts_of_block cs keys body)) (take n bindings) (drop n bindings) forest)
    (with_more (λ vs beside left. resume k work vs beside bindings left) values stacks)) (sym clauses))

pub returns-in-Let : goal.returns-in-Let
returns-in-Let c = λ k forest later.
    let values : Items = items_in later c.args.self.now.values.items in
    let stacks : Stacks = stacks_of later c.args.self.now in
    let bindings : Bindings = items_of later c.args.self.now.scope in
    let work : List Pending = c.args.self.now.work in
    let keys : List (SortKey Carried) = c.args.rest.keys.now in
    let body : PlanExpression = c.args.rest.body.now in
    let others : List (Clause Carried) = c.in-Some.others.now in
    let n : ℕ = c.args.rest.bound in
    let parts : List Denotation = map (joined k) (parts_of_block others keys body) in
    let first_of : c.args.rest.clauses.now ≡ c.in-Some.clause.now ∷ others = search rules in
    let clauses : c.args.rest.clauses.now ≡ Let c.in-Let.binder c.in-Let.value ∷ others = first_of ∙ ap (λ (x : Clause Carried). x ∷ others) c.in-Let.is in
    let inner : c.in_ok-bound.bound ≡ n + length (clause_numbers_bound (kind_of_clause (Let c.in-Let.binder c.in-Let.value))) = c.in_ok-bound.ensures ∙ ap (λ (x : Clause Carried). n + length (clause_numbers_bound (kind_of_clause x))) c.in-Let.is in
    where_done c.open_part-in-Let.result _ _ _ (c.open_part-in-Let.ensures k forest later)
    (let_walks (map kind_of_clause others) (map order_of_key keys) parts (joined k c.in-Let.value) c.in-Let.binder.variable n c.in_ok-bound.bound bindings values c.count_of-first.result stacks forest
    (λ vs beside left. resume k work vs beside bindings left) inner (c.count_of-first.ensures later)
    ∙ ap (λ (cs : List (Clause Carried)). after (tuples_of (map kind_of_clause cs) (map order_of_key keys) (map (joined k) (parts_of_block cs keys body)) (take n bindings) (drop n bindings) forest)
    (with_more (λ vs beside left. resume k work vs beside bindings left) values stacks)) (sym clauses))

pub returns-in-Where : goal.returns-in-Where
returns-in-Where c = λ k forest later.
    let values : Items = items_in later c.args.self.now.values.items in
    let stacks : Stacks = stacks_of later c.args.self.now in
    let bindings : Bindings = items_of later c.args.self.now.scope in
    let work : List Pending = c.args.self.now.work in
    let keys : List (SortKey Carried) = c.args.rest.keys.now in
    let body : PlanExpression = c.args.rest.body.now in
    let others : List (Clause Carried) = c.in-Some.others.now in
    let n : ℕ = c.args.rest.bound in
    let parts : List Denotation = map (joined k) (parts_of_block others keys body) in
    let first_of : c.args.rest.clauses.now ≡ c.in-Some.clause.now ∷ others = search rules in
    let clauses : c.args.rest.clauses.now ≡ Where c.in-Where.condition ∷ others = first_of ∙ ap (λ (x : Clause Carried). x ∷ others) c.in-Where.is in
    let inner : c.in_ok-bound.bound ≡ n + length (clause_numbers_bound (kind_of_clause (Where c.in-Where.condition))) = c.in_ok-bound.ensures ∙ ap (λ (x : Clause Carried). n + length (clause_numbers_bound (kind_of_clause x))) c.in-Where.is in
    where_done c.open_part-in-Where.result _ _ _ (c.open_part-in-Where.ensures k forest later)
    (where_walks (map kind_of_clause others) (map order_of_key keys) parts (joined k c.in-Where.condition) n c.in_ok-bound.bound bindings values c.count_of-first.result stacks forest
    (λ vs beside left. resume k work vs beside bindings left) inner (c.count_of-first.ensures later)
    ∙ ap (λ (cs : List (Clause Carried)). after (tuples_of (map kind_of_clause cs) (map order_of_key keys) (map (joined k) (parts_of_block cs keys body)) (take n bindings) (drop n bindings) forest)
    (with_more (λ vs beside left. resume k work vs beside bindings left) values stacks)) (sym clauses))
