use Rattle.std.proofs.Common.{◌++◌, [], ◌∷◌, ◌∙◌, ap, List, Vec, Global}
use Rattle.gx_include_letters.specs.declared.letter.Letter.{Letter}
use Rattle.gx_include_letters.proofs.Columns.{one_empty, empty_more}
use Rattle.gx_include_letters.proofs.alphabet.empty_columns.Goals as goal

pub loop-place-init : goal.loop-place-init
loop-place-init c =
    one_empty c.push.new.self.items c.new.result c.new.ensures.items
    (c.in_ok-push.ensures.items ∙ ap (λ (cs : List (Vec Letter Global)). cs ++ c.new.result ∷ []) c.new-columns.ensures.items)

pub loop-place-preserved : goal.loop-place-preserved
loop-place-preserved c =
    empty_more _ c.loop-place.columns.items c.push-in-loop-place.new.self.items c.new-in-loop-place.result c.new-in-loop-place.ensures.items c.in_ok-push-2.ensures.items
    c.loop-place.invariant
