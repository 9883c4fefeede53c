use Rattle.std.proofs.Common.{[], ◌∷◌, ◌++◌, ap, ◌∙◌, append-nil, sym}
use Rattle.std.proofs.lemmas.Result.{on_ok_weaker}
use Rattle.gx_serial.specs.Binding.{Binding}
use Rattle.gx_serial.specs.Markup.{spelled_declaration}
use Rattle.gx_serial.proofs.tag.declare.Goals as goal

pub returns-clause-declares : goal.returns-clause-declares
returns-clause-declares c =
    let binding : Binding = (c.args.prefix.now, c.args.uri.now) in
    on_ok_weaker c.push.result
    (λ grown. (binding ∷ [], grown, c.in_ok-push_declaration.ensures ∙ ap (λ t. c.args.out.now ++ t) (sym (append-nil (spelled_declaration binding)))))
    c.push.ensures.ok
