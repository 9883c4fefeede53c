use Rattle.std.proofs.Common.{List, ◌∷◌, refl, ap, ◌∙◌, arith}
use Rattle.gx_store.specs.declared.number.NodeId.{NodeId}
use Rattle.gx_store.specs.declared.to_tree.Copying.{Copying}
use Rattle.gx_store.proofs.CopyLemmas.{next_begun, begun_less}
use Rattle.gx_store.proofs.store.Store.begin_next.Goals as goal

pub returns-clause-copied : goal.returns-clause-copied
returns-clause-copied c a root i r =
    let here = c.args.here in
    let rest : Copying = record { node = here.node; copied = here.copied; next = c.after.result; end = here.end } in
    next_begun a c.args.self.now root here rest c.begin.result c.args.opened.now c.push-2.new.self c.requires.left c.after.ensures.next refl refl refl (ap (λ (m : NodeId). m.number) c.begin.ensures.node) (c.begin.ensures.begun a)
    (c.in_ok-push-2.ensures.ok ∙ ap (λ (outer : List Copying). c.begin.result ∷ outer) c.in_ok-push.ensures.ok) i r

pub returns-clause-less : goal.returns-clause-less
returns-clause-less c =
    let here = c.args.here in
    let rest : Copying = record { node = here.node; copied = here.copied; next = c.after.result; end = here.end } in
    begun_less c.args.self.now here rest c.begin.result c.args.opened.now c.push-2.new.self c.requires.left c.after.ensures.next refl (omega (arith, c.requires.left, c.requires.within)) c.begin.ensures.next c.begin.ensures.end
    (c.in_ok-push-2.ensures.ok ∙ ap (λ (outer : List Copying). c.begin.result ∷ outer) c.in_ok-push.ensures.ok)
