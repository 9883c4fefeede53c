use Rattle.std.proofs.Common.{◌-◌}
use Rattle.gx_parse_prolog.proofs.PrologPhrases.{text_given}
use Rattle.gx_parse_prolog.proofs.prolog.text_of.Goals as goal

pub returns : goal.returns
returns c = λ n. text_given c.args.source.now n c.args.quote c.quoted-text.result c.finished.result c.args.reader.now c.quoted-text.new.reader c.gap.new.self c.finished.new.reader c.quoted-text.ensures c.gap.ensures c.finished.ensures
