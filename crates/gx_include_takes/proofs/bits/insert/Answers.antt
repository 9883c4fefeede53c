use Rattle.std.proofs.Common.{◌≡◌, ◌*◌, ◌^◌, ◌%◌, ◌/◌, refl, ◌∙◌, arith}
use Rattle.std.proofs.lemmas.Grind.{common_steps}
use Rattle.std.proofs.lemmas.List.{get_or_default}
use Rattle.gx_include_takes.proofs.WordSets.{put_in}
use Rattle.gx_include_takes.proofs.bits.insert.Goals as goal

pub returns-clause-bits : goal.returns-clause-bits
returns-clause-bits c =
    let bit : (1 * 2 ^ (c.args.number % 64)) % 18446744073709551616 ≡ 2 ^ (c.args.number % 64) = grind (arith, common_steps) in
    put_in c.args.set.now.items _ c.args.number _ _ c.requires bit (c.index.ensures ∙ get_or_default c.args.set.now.items (c.args.number / 64) _ 0 c.requires) refl
