use Rattle.std.proofs.Common.{rules}
use Rattle.gx_include_takes.proofs.Targets.{masks_more}
use Rattle.gx_include_takes.proofs.transitions.add_mask.Goals as goal

pub returns : goal.returns
returns c =
    masks_more c.args.t.now c.args.schemas.now c.args.masks.now c.insert.new.self c.args.feature c.in_ok-mask.mask c.requires c.in_ok-mask.ensures
    (λ other. search rules)
