use Rattle.std.proofs.Common.{◌∙◌, ap, false, get_or, List, Bool}
use Rattle.gx_include_positions.specs.Step.{all_next}
use Rattle.gx_include_takes.proofs.following.row_of.Goals as goal

pub returns : goal.returns
returns c = λ place.
    c.in_ok-row.ensures place
    ∙ ap (λ (fs : List Bool). get_or fs place false) (c.as_slice-2.ensures.value ∙ c.in_ok-next.ensures ∙ ap (λ (fs : List Bool). all_next c.args.t.now fs) (c.as_slice.ensures.value ∙ c.in_ok-set.ensures))
