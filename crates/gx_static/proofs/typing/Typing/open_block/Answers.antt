use Rattle.std.proofs.Common.{◌≡◌, ◌-◌, ◌++◌, ◌∷◌, [], ℕ, List, map, take, refl, sym, ◌∙◌, ap}
use Rattle.std.specs.Prelude.{flat_map}
use Rattle.gx_core.specs.declared.operator.ClauseKind.{ClauseKind}
use Rattle.gx_core.specs.declared.operator.Operator.TheVariants.{Block}
use Rattle.gx_core.specs.ExpressionView.{kind_of_clause, order_of_key, part_of_key}
use Rattle.gx_static.specs.declared.typing.Task.{Task}
use Rattle.gx_static.specs.declared.typing.Task.TheVariants.{Infer, Finish}
use Rattle.gx_static.specs.Typing.{clause_tasks, clause_unbinding, block_tasks, continued}
use Rattle.gx_static.proofs.ListLemmas.{four_over}
use Rattle.gx_static.proofs.typing.Typing.open_block.Goals as goal

pub loop-step-init : goal.loop-step-init
loop-step-init c =
    let kinds : List ClauseKind = map kind_of_clause c.args.clauses.items in
    let typed : List Task = c.push.new.self.items in
    let last : typed ≡ c.open_keys.new.steps.items ++ Infer c.args.body.value ∷ [] = cc (c.in_ok-push.ensures.items, c.into_inner.ensures) in
    let same_kinds : c.deref.result.now ≡ kinds = cc (c.deref.ensures.value, c.in_ok-kinds.ensures.kinds) in
    let made : c.push-2.new.self ≡ Finish c.args.place c.args.outer (Block kinds (map order_of_key c.args.keys.items)) ∷ c.args.self.now.tasks =
    cc (c.in_ok-push-2.ensures.ok, c.from_vec.ensures, c.from_vec-2.ensures, c.in_ok-kinds.ensures.kinds, c.in_ok-orders.ensures.orders) in
    record {
      same = four_over c.new-steps.result.items c.open_clauses.new.steps.items c.open_keys.new.steps.items typed c.unbind_clauses.new.steps.items
          (flat_map clause_tasks c.args.clauses.items) (map (λ key. Infer (part_of_key key)) c.args.keys.items) (Infer c.args.body.value ∷ []) (flat_map clause_unbinding kinds)
          c.push-2.new.self (Finish c.args.place c.args.outer (Block kinds (map order_of_key c.args.keys.items)) ∷ c.args.self.now.tasks)
          c.new-steps.ensures.items c.in_ok-kinds.ensures.steps c.in_ok-orders.ensures.steps last
          (c.in_ok-unbind_clauses.ensures ∙ ap (λ (ks : List ClauseKind). typed ++ flat_map clause_unbinding ks) same_kinds) made;
      same_parts = refl;
      same_scope = refl;
      same_declared = refl;
    }

pub returns : goal.returns
returns c = λ schemas.
    let none : c.loop-step.steps.items ≡ [] =
    c.in_default.ensures.items
    ∙ ap (λ (steps : List Task). steps ++ []) (c.in_default.ensures.rest ∙ ap (λ (n : ℕ). take (n - 1) c.loop-step.steps.items) c.in_default.ensures.cases.0) in
    let tasks : c.loop-step.self.tasks ≡ block_tasks c.args.clauses.items c.args.keys.items c.args.body.value ++ (flat_map clause_unbinding (map kind_of_clause c.args.clauses.items)
    ++ Finish c.args.place c.args.outer (Block (map kind_of_clause c.args.clauses.items) (map order_of_key c.args.keys.items)) ∷ c.args.self.now.tasks) =
    ap (λ (steps : List Task). steps ++ c.loop-step.self.tasks) (sym none) ∙ c.loop-step.invariant.same in
    λ i. continued schemas (tasks i) (c.loop-step.invariant.same_parts i) (c.loop-step.invariant.same_scope i) (c.loop-step.invariant.same_declared i)
