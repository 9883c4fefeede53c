use Rattle.std.proofs.Common.{◌≡◌, List, [], sym, subst, rules}
use Rattle.std.specs.List.{filter}
use Rattle.gx_names_uses.specs.declared.uses.Use.{Use}
use Rattle.gx_names_uses.specs.Reaching.{is_call}
use Rattle.gx_names_uses.specs.Searching.{Searches}
use Rattle.gx_names_uses.proofs.ReachingLemmas.{all_settled, none_settled}
use Rattle.gx_names_uses.proofs.reaching.calls_are_settled.Goals as goal

pub returns-in-None-clause-holds : goal.returns-in-None-clause-holds
returns-in-None-clause-holds c =
    let nothing : c.loop.left.items ≡ [] = search rules in
    sym (all_settled c.args.names.now.variables c.args.bodies.now c.args.used.items c.loop.settled
    (subst (λ (left : List Use). Searches c.args.names.now.variables c.args.bodies.now (filter is_call c.args.used.items) c.loop.settled left) nothing c.loop.invariant.search))

pub returns-then-not-branch-clause-holds : goal.returns-then-not-branch-clause-holds
returns-then-not-branch-clause-holds c =
    sym (none_settled c.args.names.now.variables c.args.bodies.now c.args.used.items c.loop.settled c.pop.new.self.items c.in-Some.one
    (subst (λ (left : List Use). Searches c.args.names.now.variables c.args.bodies.now (filter is_call c.args.used.items) c.loop.settled left) c.in-Some.ensures.items c.loop.invariant.search)
    (c.in_ok-is_at_hand-in-Some.ensures.missing c.if-not-branch.true))
