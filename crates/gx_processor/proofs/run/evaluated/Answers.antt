use Rattle.std.proofs.Common.{◌≡◌, ◌≢◌, List, sym, subst, IfOk, IfErr}
use Rattle.gx_model.specs.Forest.{PlainNode}
use Rattle.gx_core.specs.Outcome.{gives, wrong}
use Rattle.gx_core.specs.Refusal.{Fails}
use Rattle.gx_plan.specs.PlanMeaning.{plan_outcome}
use Rattle.gx_store.specs.Items.{items_in}
use Rattle.gx_eval.specs.TableJoins.{MayJoinByTables}
use Rattle.gx_processor.proofs.run.evaluated.Goals as goal

pub evaluate-requires-clause-joins : goal.evaluate-requires-clause-joins
evaluate-requires-clause-joins c =
    subst (λ (ds : List PlainNode). MayJoinByTables c.args.schemas.now c.args.plan.now.query ds c.args.store.now) (sym c.requires.nodes) c.requires.joins

pub evaluate-requires-clause-right : goal.evaluate-requires-clause-right
evaluate-requires-clause-right c =
    subst (λ (ds : List PlainNode). plan_outcome c.args.schemas.now c.args.plan.now.query ds c.args.store.now ≢ wrong) (sym c.requires.nodes) c.requires.right

pub returns-clause-value : goal.returns-clause-value
returns-clause-value c =
    subst (λ (ds : List PlainNode). IfOk c.evaluate.result (λ v. plan_outcome c.args.schemas.now c.args.plan.now.query ds c.args.store.now ≡ gives (items_in c.evaluate.new.store v.items) c.evaluate.new.store))
    c.requires.nodes c.evaluate.ensures.value

pub returns-clause-raised : goal.returns-clause-raised
returns-clause-raised c =
    subst (λ (ds : List PlainNode). IfErr c.evaluate.result (λ e. Fails e (plan_outcome c.args.schemas.now c.args.plan.now.query ds c.args.store.now))) c.requires.nodes c.evaluate.ensures.raised
