use Rattle.gx_typetext.proofs.Phrases.{no_test, test_read, test_failed, failed_first, failed_second}
use Rattle.gx_typetext.specs.Nodes.{maybe_name_made}
use Rattle.gx_typetext.specs.Grammar.{tested_name, behind_comma}
use Rattle.gx_typetext.proofs.names.tested.Goals as goal

pub returns-then-starts_with : goal.returns-then-starts_with
returns-then-starts_with c = λ call. no_test call c.starts_with.result c.args.reader.now c.lexeme.new.reader c.starts_with.new.self c.lexeme-then-starts_with.new.reader (c.lexeme.ensures call) c.if-starts_with.true c.starts_with.ensures (c.lexeme-then-starts_with.ensures call)

pub returns-in_default : goal.returns-in_default
returns-in_default c = λ call.
    test_failed call c.starts_with.result c.args.reader.now c.lexeme.new.reader c.starts_with.new.self c.tested_name.new.reader (c.lexeme.ensures call) c.if-starts_with.false c.starts_with.ensures
    (failed_first call tested_name behind_comma c.starts_with.new.self c.tested_name.new.reader (rw c.in_default.is at (c.tested_name.ensures call)))

pub returns-in_default-behind_comma : goal.returns-in_default-behind_comma
returns-in_default-behind_comma c = λ call.
    test_failed call c.starts_with.result c.args.reader.now c.lexeme.new.reader c.starts_with.new.self c.behind_comma.new.reader (c.lexeme.ensures call) c.if-starts_with.false c.starts_with.ensures
    (failed_second call tested_name behind_comma (maybe_name_made c.in-Some.name) c.starts_with.new.self c.tested_name.new.reader c.behind_comma.new.reader (c.in-Some.ensures call) (rw c.in_default-behind_comma.is at (c.behind_comma.ensures call)))

pub returns : goal.returns
returns c = λ call.
    test_read call c.in-Some.name c.in-Some-behind_comma.kind c.starts_with.result c.args.reader.now c.lexeme.new.reader c.starts_with.new.self c.tested_name.new.reader c.behind_comma.new.reader c.lexeme-2.new.reader (c.lexeme.ensures call) c.if-starts_with.false c.starts_with.ensures (c.in-Some.ensures call) (c.in-Some-behind_comma.ensures call) (c.lexeme-2.ensures call)
