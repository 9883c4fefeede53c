use Rattle.std.proofs.Common.{refl, arith}
use Rattle.gx_parse_tokens.proofs.Finding.{seen_bounded}
use Rattle.gx_parse_tokens.proofs.scan.find.Goals as goal

pub loop-word-init : goal.loop-word-init
loop-word-init c = record { word = refl; seen = omega (arith, seen_bounded c.args.words.now c.args.text.now); bounded = omega arith }
