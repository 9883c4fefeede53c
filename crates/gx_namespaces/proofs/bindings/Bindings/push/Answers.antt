use Rattle.std.proofs.Common.{◌≡◌, [], ◌∷◌, ◌++◌, ◌∙◌, ap}
use Rattle.std.specs.Prelude.{Some}
use Rattle.std.specs.BTreeMap.{get, UpdatesBy}
use Rattle.gx_base.specs.Text.{text_cmp}
use Rattle.gx_namespaces.specs.declared.bindings.Bound.{Bound}
use Rattle.gx_namespaces.specs.declared.bindings.Bindings.TheInside.{Inside}
use Rattle.gx_namespaces.proofs.IndexLemmas.{indexed_push, updated}
use Rattle.gx_namespaces.proofs.bindings.Bindings.push.Goals as goal

pub invariant_of-self-2 : goal.invariant_of-self-2
invariant_of-self-2 c =
    let new : Inside = record { all = c.push.new.self; last = c.insert.new.self } in
    let b : Bound = record { prefix = c.in_ok-prefix.prefix; uri = c.in_ok-uri.uri; hidden = c.in_ok-hidden.hidden } in
    let same : c.in_ok-key.key ≡ c.in_ok-prefix.prefix = (cc (c.in_ok-key.ensures.cases, c.in_ok-prefix.ensures.cases)) in
    let same_uri : c.in_ok-last_uri.last_uri ≡ c.in_ok-uri.uri = (cc (c.in_ok-last_uri.ensures.cases, c.in_ok-uri.ensures.cases)) in
    let put : UpdatesBy text_cmp (text_cmp b.prefix) c.self.inside.last c.insert.new.self (Some b.uri) = rw (← same, ← same_uri) c.in_ok-hidden.ensures.updates in
    let hidden : b.hidden ≡ get text_cmp c.self.inside.last b.prefix = rw (← same) c.in_ok-hidden.ensures.old in
    indexed_push c.self.inside new b (c.in_ok-push.ensures.items ∙ ap (λ bs. bs ++ (b ∷ [])) c.in_ok-reserve.ensures.items)
    (updated c.self.inside new b.prefix (Some b.uri) put) hidden c.self.invariant
