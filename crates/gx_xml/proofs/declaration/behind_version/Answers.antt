use Rattle.std.proofs.Common.{arith}
use Rattle.gx_xml.specs.Grammar.{behind_version}
use Rattle.gx_xml.proofs.PhraseLemmas.{no_part}
use Rattle.gx_xml.proofs.declaration.behind_version.Goals as goal

pub returns-in-Encoding-clause-read : goal.returns-in-Encoding-clause-read
unfolding behind_version
returns-in-Encoding-clause-read c = λ A w after h. rw c.in-Encoding.is (c.encoding.ensures.read A w after h)

pub returns-in-Standalone-clause-read : goal.returns-in-Standalone-clause-read
unfolding behind_version
returns-in-Standalone-clause-read c = λ A w after h. rw c.in-Standalone.is (c.standalone.ensures.read A w after h)

pub returns-in_default : goal.returns-in_default
returns-in_default c = record { read = λ A w after h. no_part c.args.mark A w c.args.reader.now after c.in_default.not-Encoding c.in_default.not-Standalone h; shrinks = omega arith }
