use Rattle.std.proofs.Common.{◌≡◌, false, Bool, List, [], ◌∷◌, ◌++◌, length, get_or, ◌∙◌, ap, arith, length-append}
use Rattle.gx_references.proofs.Tables.{get_or-push_default}
use Rattle.gx_references.proofs.meanings.all_closed.Goals as goal

pub loop-preserved : goal.loop-preserved
loop-preserved c =
    let pushed : c.push.new.self.items ≡ c.loop.opened.items ++ false ∷ [] = c.in_ok-push.ensures.items in (
      omega (arith, ap length pushed, length-append c.loop.opened.items (false ∷ []), c.loop.invariant.0),
      λ number. ap (λ (xs : List Bool). get_or xs number false) pushed ∙ get_or-push_default c.loop.opened.items false number ∙ c.loop.invariant.1 number,
    )
