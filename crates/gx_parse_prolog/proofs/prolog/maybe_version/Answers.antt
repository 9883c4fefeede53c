use Rattle.std.proofs.Common.{◌-◌}
use Rattle.gx_parse_prolog.proofs.PrologPhrases.{unversioned, version_given}
use Rattle.gx_parse_prolog.proofs.prolog.maybe_version.Goals as goal

pub returns-then-not-looks_at_leading : goal.returns-then-not-looks_at_leading
returns-then-not-looks_at_leading c = λ n. unversioned c.args.source.now n c.looks_at_leading.result c.args.reader.now c.looks_at_leading.new.self c.if-not-looks_at_leading.true c.looks_at_leading.ensures

pub returns : goal.returns
returns c = λ n. version_given c.args.source.now n c.version.result c.looks_at_leading.result c.args.reader.now c.looks_at_leading.new.self c.version.new.reader c.if-not-looks_at_leading.false c.looks_at_leading.ensures (c.version.ensures n)
