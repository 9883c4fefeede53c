use Rattle.gx_namespaces.specs.declared.bindings.Bindings.TheInside.{Inside}
use Rattle.gx_namespaces.proofs.IndexLemmas.{indexed_pop, indexed_again, updated}
use Rattle.gx_namespaces.proofs.bindings.Bindings.pop.Goals as goal

pub invariant_of-self-in-Some-hidden : goal.invariant_of-self-in-Some-hidden
invariant_of-self-in-Some-hidden c =
    indexed_again c.insert.result c.self.inside (record { all = c.pop.new.self; last = c.insert.new.self }) c.in-Some.bound c.in-Some-hidden.uri
    c.in-Some.ensures.items c.in-Some-hidden.is c.insert.ensures.updates c.insert.ensures.absent c.self.invariant

pub invariant_of-self-in-None : goal.invariant_of-self-in-None
invariant_of-self-in-None c =
    let new : Inside = record { all = c.pop.new.self; last = c.remove.new.self } in
    let b = c.in-Some.bound in
    indexed_pop c.self.inside new b c.in-Some.ensures.items
    (updated c.self.inside new b.prefix b.hidden (rw c.in-None.is c.remove.ensures.updates)) c.self.invariant

pub invariant_of-self-in-None-2 : goal.invariant_of-self-in-None-2
invariant_of-self-in-None-2 c =
    let new : Inside = record { all = c.pop.new.self; last = c.remove.new.self } in
    let b = c.in-Some.bound in
    indexed_pop c.self.inside new b c.in-Some.ensures.items
    (updated c.self.inside new b.prefix b.hidden (rw c.in-None.is c.remove.ensures.updates)) c.self.invariant
