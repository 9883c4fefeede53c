use Rattle.std.proofs.Common.{ap, arith, length, length-append}
use Rattle.std.specs.Str.{chars}
use Rattle.gx_xml.proofs.scan.behind_all.Goals as goal

pub overflow_sub-count : goal.overflow_sub-count
overflow_sub-count c = omega (arith, ap length c.in_ok-behind.ensures, length-append (chars c.args.letters.text.now) (chars c.in_ok-behind.behind.now), c.args.letters.counted, c.args.text.counted)
