use Rattle.std.proofs.Common.{rules, arith, ◌<◌, length}
use Rattle.gx_core.proofs.SlotLemmas.{last_is_within}
use Rattle.gx_core.proofs.scope.Scope.unbind.Goals as goal

pub index_mut-requires : goal.index_mut-requires
index_mut-requires g c =
    let there : c.in-Some.ended.variable < length c.self.inside.innermost.items =
    last_is_within c.self.inside.innermost.items c.self.inside.bindings.items c.pop.new.self.items c.in-Some.ended c.self.invariant
    c.in-Some.ensures.items in
    search (rules, arith)
