use Rattle.std.proofs.Common.{◌∙◌}
use Rattle.gx_resolved.proofs.NestedLemmas.{is_popped}
use Rattle.gx_resolved.proofs.nested_map.NestedMap.unbind.Goals as goal

pub invariant_of-self-2 : goal.invariant_of-self-2
invariant_of-self-2 g c =
    is_popped g.K.PartialEq.eq g.met.K.Eq.laws c.self.inside.innermost c.insert.new.self c.self.inside.bindings c.pop-ended.new.self c.in-Some.last.now c.pop-ended.result c.in_ok-key.key c.in_ok-hidden.hidden
    c.self.invariant c.in-Some.ensures c.pop-ended.ensures (c.requires.keys _ _ c.in_ok-key.ensures.cases) (c.in_ok-hidden.ensures ∙ c.as_ref.ensures.value) c.in_ok-insert.ensures.updates
