use Rattle.std.proofs.Common.{◌≡◌, List, [], ◌∷◌, ◌++◌, Option, None, length, get_or, ◌∙◌, ap, arith, length-append}
use Rattle.gx_references.proofs.Tables.{get_or-push_default}
use Rattle.gx_references.proofs.meanings.empty_table.Goals as goal

pub loop-preserved : goal.loop-preserved
loop-preserved g c =
    let pushed : c.push.new.self.items ≡ c.loop.table.items ++ None ∷ [] = c.in_ok-push.ensures.items in (
      omega (arith, ap length pushed, length-append c.loop.table.items (None ∷ []), c.loop.invariant.0),
      λ number. ap (λ (xs : List (Option _)). get_or xs number None) pushed ∙ get_or-push_default c.loop.table.items None number ∙ c.loop.invariant.1 number,
    )
