use Rattle.std.proofs.Common.{◌-◌}
use Rattle.gx_parse_grammar.specs.declared.word.Word.TheVariants as word
use Rattle.gx_parse_prolog.proofs.PrologPhrases.{external_read, assigned_read}
use Rattle.gx_parse_prolog.specs.PrologParts.{gapped}
use Rattle.gx_parse.proofs.definitions.initialiser.Goals as goal

pub returns-then-not-looks_at : goal.returns-then-not-looks_at
returns-then-not-looks_at c = external_read c.args.source.now 40 (gapped word.External) c.looks_at.result c.args.reader.now c.looks_at.new.self c.symbol.new.reader c.if-not-looks_at.true c.looks_at.ensures (c.symbol.ensures c.args.source.now 40)

pub returns : goal.returns
returns c = assigned_read c.args.source.now (gapped word.Assign) c.single.result c.looks_at.result c.args.reader.now c.looks_at.new.self c.symbol-2.new.reader c.single.new.reader c.if-not-looks_at.false c.looks_at.ensures (c.symbol-2.ensures c.args.source.now 40) c.single.ensures
