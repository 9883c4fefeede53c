use Rattle.std.proofs.Common.{rules, ◌<◌, ◌≤◌, length, get_or, sym}
use Rattle.gx_demo.proofs.Numerals.{number_there, no_number}
use Rattle.gx_demo.proofs.workload.items_asked.Goals as goal

pub returns-in-Ok-clause-number : goal.returns-in-Ok-clause-number
returns-in-Ok-clause-number c =
    let some : 0 < length c.args.word.now = search rules in
    let low : 49 ≤ get_or c.args.word.now 0 0 = search rules in
    sym (number_there c.args.word.now c.parse.result c.in-Ok.items some low c.parse.ensures.value.0 c.in-Ok.is (search rules))

pub returns-in_default-parse-2-clause-number : goal.returns-in_default-parse-2-clause-number
returns-in_default-parse-2-clause-number c =
    let some : 0 < length c.args.word.now = search rules in
    let low : 49 ≤ get_or c.args.word.now 0 0 = search rules in
    sym (no_number c.args.word.now c.parse.result some low c.parse.ensures.value.0 (λ n e. let is = c.in_default-parse.is in absurd (cc)))
