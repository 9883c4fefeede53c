use Rattle.std.proofs.Common.{refl, ap, ◌∙◌}
use Rattle.std.specs.Option.{option_map}
use Rattle.gx_store.specs.declared.labels.Label.{Label}
use Rattle.gx_store.specs.Stored.{kind_of}
use Rattle.gx_store.proofs.StoreLemmas.{named_later}
use Rattle.gx_store.proofs.store.Store.annotation.Goals as goal

pub returns-in-Some : goal.returns-in-Some
returns-in-Some c later x =
    ap (option_map (λ (l : Label). l.kind)) c.in-Some.ensures ∙ named_later c.args.self.now later c.args.node.number kind_of refl x

pub returns-in-None : goal.returns-in-None
returns-in-None c later x =
    ap (option_map (λ (l : Label). l.kind)) c.in-None.ensures ∙ named_later c.args.self.now later c.args.node.number kind_of refl x
