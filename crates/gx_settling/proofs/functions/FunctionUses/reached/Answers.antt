use Rattle.std.proofs.Common.{ℕ, nat_eq, List, ◌∙◌, ap, subst}
use Rattle.indexmap.specs.IndexSet.{insert_all}
use Rattle.gx_closure.specs.Closure.{IsGrown}
use Rattle.gx_settling.specs.Reaching.{called_from}
use Rattle.gx_settling.proofs.ReachedFunctions.{grown_are_reached}
use Rattle.gx_settling.proofs.functions.FunctionUses.reached.Goals as goal

pub returns : goal.returns
returns c =
    grown_are_reached c.args.self.now c.args.first.now c.close.new.found.keys
    (subst (λ (start : List ℕ). IsGrown nat_eq (called_from c.args.self.now) start c.close.new.found.keys)
    (c.in_ok-put_all.ensures ∙ ap (λ (found : List ℕ). insert_all nat_eq found c.args.first.now) c.new-reached.ensures.empty)
    c.in_ok-close.ensures)
