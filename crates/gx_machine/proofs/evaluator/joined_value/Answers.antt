use Rattle.std.proofs.Common.{◌≡◌, List, ap, sym, ◌∙◌, subst}
use Rattle.gx_base.specs.declared.limits.TheConstants.{ACTIVE_CALLS}
use Rattle.gx_model.specs.Forest.{PlainNode}
use Rattle.gx_joins.specs.JoinedMeaning.{joined_outcome}
use Rattle.gx_store.specs.Places.{node_places}
use Rattle.gx_machine.specs.Failing.{FailsSo}
use Rattle.gx_machine.proofs.MadeTrees.{places_stay, extends_itself}
use Rattle.gx_machine.proofs.evaluator.joined_value.Goals as goal

pub returns-in-Ok-clause-value : goal.returns-in-Ok-clause-value
returns-in-Ok-clause-value c =
    let s = c.args.schemas.now in
    let query = c.args.query.now in
    let before = c.args.store.now in
    let now = c.counted_value.new.store in
    ap (λ (documents : List PlainNode). joined_outcome ACTIVE_CALLS s query documents before) (sym (places_stay before now c.args.documents.now c.requires.there c.counted_value.ensures.grows.extends))
    ∙ c.in-Ok.ensures.value now (extends_itself now)

pub returns-in-Err-Raised-clause-raised : goal.returns-in-Err-Raised-clause-raised
returns-in-Err-Raised-clause-raised c =
    let s = c.args.schemas.now in
    let query = c.args.query.now in
    let before = c.args.store.now in
    let now = c.counted_value.new.store in
    ap (λ (documents : List PlainNode). joined_outcome ACTIVE_CALLS s query documents before) (sym (places_stay before now c.args.documents.now c.requires.there c.counted_value.ensures.grows.extends))
    ∙ subst (λ e. FailsSo e (joined_outcome ACTIVE_CALLS s query (node_places now c.args.documents.now) before)) c.in-Err-Raised.field-0-is (c.in-Err-Raised.ensures.failed now (extends_itself now))

pub unreachable-requires : goal.unreachable-requires
unreachable-requires c =
    let s = c.args.schemas.now in
    let query = c.args.query.now in
    let before = c.args.store.now in
    let now = c.counted_value.new.store in
    c.requires.right
    (ap (λ (documents : List PlainNode). joined_outcome ACTIVE_CALLS s query documents before) (sym (places_stay before now c.args.documents.now c.requires.there c.counted_value.ensures.grows.extends))
    ∙ subst (λ e. FailsSo e (joined_outcome ACTIVE_CALLS s query (node_places now c.args.documents.now) before)) c.in-Err-Wrong.field-0-is (c.in-Err-Wrong.ensures.failed now (extends_itself now)))
