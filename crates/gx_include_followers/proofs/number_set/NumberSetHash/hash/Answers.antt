use Rattle.std.proofs.Common.{◌∙◌, sym, ap, List, ℕ}
use Rattle.std.specs.List.{fold}
use Rattle.std.specs.Hash as fed
use Rattle.gx_include_followers.specs.NumberSet.{flagged}
use Rattle.gx_include_followers.proofs.NumberSetLemmas.{members_within}
use Rattle.gx_include_followers.proofs.number_set.NumberSetHash.hash.Goals as goal

pub returns : goal.returns
returns g c =
    c.hash.ensures
    ∙ ap (λ (ns : List ℕ). fold g.H.Hasher.write c.args.state.now (fed.slice fed.usize ns)) (sym (members_within 0 c.self.inside.count c.self.inside.members.items c.self.invariant) ∙ ap flagged c.self.view_is)
