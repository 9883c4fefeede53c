use Rattle.std.proofs.Common.{◌≡◌, List, length, sym, ◌∙◌, rules}
use Rattle.std.proofs.lemmas.List.{length-map}
use Rattle.gx_core.specs.Meaning.{Bindings}
use Rattle.gx_joins.specs.JoinedMeaning.{joined_meaning as joined}
use Rattle.gx_model.specs.Item.{Items}
use Rattle.gx_store.specs.Items.{items_in}
use Rattle.gx_machine.specs.declared.evaluation.Pending.{Pending}
use Rattle.gx_machine.specs.FoundTuples.{row_in}
use Rattle.gx_machine.specs.Resume.{Stacks, resume, items_of, stacks_of}
use Rattle.gx_machine.proofs.BlockResuming.{where_both, block_opens_at}
use Rattle.gx_machine.proofs.evaluation.Evaluation.open_block.Goals as goal

pub returns : goal.returns
returns c = λ k forest later.
    let values : Items = items_in later c.args.self.now.values.items in
    let stacks : Stacks = stacks_of later c.args.self.now in
    let bindings : Bindings = items_of later c.args.self.now.scope in
    let work : List Pending = c.args.self.now.work in
    let first_key : c.len.result ≡ length stacks.found.keys = search rules in
    let rows : c.len-2.result ≡ length c.args.self.now.tuples.rows.items = search rules in
    let first_row : c.len-2.result ≡ length stacks.found.rows = rows ∙ sym (length-map c.args.self.now.tuples.rows.items (row_in later)) in
    where_both c.push-2.result (λ (w : List Pending). resume k w values stacks bindings forest) _ _ _ _ _ c.push-2.ensures.ok c.in_ok-push.ensures.ok
    (block_opens_at (joined k) c.args.clauses.now c.args.keys.now c.args.body.now values c.len.result c.len-2.result stacks bindings forest (λ vs beside left. resume k work vs beside bindings left) first_key first_row)
