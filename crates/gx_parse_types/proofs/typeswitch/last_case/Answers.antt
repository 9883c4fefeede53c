use Rattle.gx_parse_types.proofs.TypeswitchPhrases.{cases_end, cases_full}
use Rattle.gx_parse_types.proofs.typeswitch.last_case.Goals as goal

pub returns-then-looks_at_barred : goal.returns-then-looks_at_barred
returns-then-looks_at_barred c = λ text n. cases_full text n c.looks_at_barred.result c.args.reader.now c.looks_at_barred.new.self c.barred.new.self c.if-looks_at_barred.true c.looks_at_barred.ensures c.barred.ensures.read

pub returns-else-looks_at_barred : goal.returns-else-looks_at_barred
returns-else-looks_at_barred c = λ text n. cases_end text n c.looks_at_barred.result c.args.reader.now c.looks_at_barred.new.self c.if-looks_at_barred.false c.looks_at_barred.ensures
