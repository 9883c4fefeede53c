use Rattle.std.proofs.Common.{arith}
use Rattle.gx_xml.specs.Grammar.{behind_encoding}
use Rattle.gx_xml.proofs.PhraseLemmas.{no_standalone}
use Rattle.gx_xml.proofs.declaration.behind_encoding.Goals as goal

pub returns-in-Standalone-clause-read : goal.returns-in-Standalone-clause-read
unfolding behind_encoding
returns-in-Standalone-clause-read c = λ A w after h. rw c.in-Standalone.is (c.standalone.ensures.read A w after h)

pub returns-in_default : goal.returns-in_default
returns-in_default c = record { read = λ A w after h. no_standalone c.args.mark A w c.args.reader.now after c.in_default.not-Standalone h; shrinks = omega arith }
