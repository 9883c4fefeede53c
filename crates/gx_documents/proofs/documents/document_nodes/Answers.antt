use Rattle.std.proofs.Common.{◌<◌, ℕ, arith, ap, sym, subst, ◌∙◌}
use Rattle.std.specs.List.{All}
use Rattle.gx_model.specs.Forest.{Forest}
use Rattle.gx_nodes.specs.Entries.{count_in}
use Rattle.gx_store.specs.Places.{node_places}
use Rattle.gx_documents.proofs.Roots.{all_roots, itself, one_within, other_is_next, root_is_next}
use Rattle.gx_documents.proofs.documents.document_nodes.Goals as goal
use Rattle.gx_documents.proofs.documents.document_nodes.Goals.{then-is_none+in_ok-push, else-is_none}

pub loop-number-preserved : goal.loop-number-preserved
loop-number-preserved c =
    let f : Forest = c.args.store.now in
    let n : ℕ = c.loop-number.number in
    let h : n < count_in f = omega (arith, c.count-number-end.ensures) in
    elim c.if-is_none.branch [
      | then-is_none+in_ok-push w ↦ record {
        nodes = ap (λ v. node_places f v.items) w.nodes-is ∙ ap (node_places f) w.in_ok-push.ensures.items
            ∙ root_is_next f c.loop-number.nodes.items n c.parent.result h (c.parent.ensures.parent f (itself f)) w.if-is_none.ensures c.loop-number.invariant.nodes;
        there = subst (All (λ m. m.number < count_in f)) (sym (ap (λ v. v.items) w.nodes-is ∙ w.in_ok-push.ensures.items)) (one_within f c.loop-number.nodes.items n h c.loop-number.invariant.there);
      }
      | else-is_none w ↦ record {
        nodes = ap (λ v. node_places f v.items) w.nodes-is
            ∙ other_is_next f c.loop-number.nodes.items n c.parent.result h (c.parent.ensures.parent f (itself f)) w.if-is_none.ensures c.loop-number.invariant.nodes;
        there = subst (λ v. All (λ m. m.number < count_in f) v.items) (sym w.nodes-is) c.loop-number.invariant.there;
      }
    ]

pub returns-clause-nodes : goal.returns-clause-nodes
returns-clause-nodes c = c.loop-number.invariant.nodes ∙ all_roots c.args.store.now c.loop-number.number (omega (arith, c.count-number-end.ensures))
