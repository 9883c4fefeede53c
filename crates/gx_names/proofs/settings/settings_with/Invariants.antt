use Rattle.std.proofs.Common.{◌≡◌, length}
use Rattle.gx_names.specs.Resolution.{default_settings, settings_with}
use Rattle.gx_names.proofs.settings.settings_with.Given as goal

-- what is left comes to the same as the whole
abbrev pub invariant-loop-setting : goal.invariant-loop-setting
invariant-loop-setting l = record {
  settings : settings_with l.left l.chosen ≡ settings_with l.fn.settings default_settings;
}

abbrev pub decreases-loop-setting : goal.decreases-loop-setting
decreases-loop-setting l = length l.left
