use Rattle.std.proofs.Common.{◌≡◌, ◌∙◌, rules}
use Rattle.std.specs.Prelude.{is_some}
use Rattle.gx_core.specs.Bindings.{look_up}
use Rattle.gx_settling.proofs.ReachedFunctions.{found_among}
use Rattle.gx_settling.proofs.functions.is_global.Goals as goal

pub returns : goal.returns
returns c =
    let found : c.is_some.result ≡ is_some (look_up c.args.globals.now c.args.number) = search rules in
    found ∙ found_among c.args.globals.now c.args.number
