use Rattle.std.proofs.Common.{◌≡◌, length}
use Rattle.gx_names.specs.SettingRefusals.{settings_refusals, namespaces_after}
use Rattle.gx_names.proofs.settings.add_settings.Given as goal

-- what is left is refused as the whole, and comes to the same namespaces
abbrev pub invariant-loop-setting : goal.invariant-loop-setting
invariant-loop-setting l = record {
  refusals : settings_refusals l.before.declared l.before.imported l.files l.left ≡ settings_refusals l.fn.before.declared l.fn.before.imported l.fn.targets l.fn.settings;
  namespaces : namespaces_after l.left l.names.namespaces ≡ namespaces_after l.fn.settings l.fn.names.namespaces;
  functions : l.names.functions ≡ l.fn.names.functions;
  variables : l.names.variables ≡ l.fn.names.variables;
  schemas : l.names.schemas ≡ l.fn.names.schemas;
}

abbrev pub decreases-loop-setting : goal.decreases-loop-setting
decreases-loop-setting l = length l.left
