use Rattle.std.proofs.Common.{◌≡◌, length}
use Rattle.gx_names.specs.SettingRefusals.{has_other_target}
use Rattle.gx_names.proofs.settings.has_other_target.Given as goal

-- what is left decides
abbrev pub invariant-loop-others : goal.invariant-loop-others
invariant-loop-others l = has_other_target l.uri l.named l.files ≡ has_other_target l.fn.uri l.fn.locations l.fn.targets

abbrev pub decreases-loop-others : goal.decreases-loop-others
decreases-loop-others l = length l.named
