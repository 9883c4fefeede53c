use Rattle.std.proofs.Common.{◌≡◌, true, sym, ◌∙◌, ap, subst}
use Rattle.gx_types.specs.SequenceType.{SequenceType}
use Rattle.gx_types.specs.TypeView.{type_of}
use Rattle.gx_include.specs.Decision.{is_included}
use Rattle.gx_steptype.specs.StepType.{node_type}
use Rattle.gx_steptype.proofs.OneNode.{choice_included}
use Rattle.gx_steptype.proofs.nodes.+is_choice_of_nodes.Goals as goal

pub returns-then-is_choice_of_nodes : goal.returns-then-is_choice_of_nodes
returns-then-is_choice_of_nodes t c = λ h.
    let s = c.args.schemas.now in
    let first = c.is_choice_of_nodes.ensures c.if-is_choice_of_nodes.true in
    let second = c.is_choice_of_nodes-then-is_choice_of_nodes.ensures h in
    subst (λ (u : SequenceType). is_included s u node_type ≡ true) (ap type_of (sym c.in-Alt.is) ∙ c.t.view_is)
    (choice_included s c.in-Alt.first.value c.in-Alt.second.value c.types-types.ensures.invariant.grounded
    (subst (λ (u : SequenceType). is_included s u node_type ≡ true) c.deref-in-Alt.ensures first)
    (subst (λ (u : SequenceType). is_included s u node_type ≡ true) c.deref-then-is_choice_of_nodes.ensures second))
