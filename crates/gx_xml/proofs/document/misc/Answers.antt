use Rattle.std.proofs.Common.{arith}
use Rattle.gx_xml.specs.Grammar.{past_misc}
use Rattle.gx_xml.proofs.DocumentLemmas.{no_misc}
use Rattle.gx_xml.proofs.document.misc.Goals as goal

pub returns-in-Comment-clause-read : goal.returns-in-Comment-clause-read
unfolding past_misc
returns-in-Comment-clause-read c = λ A w after h. rw c.in-Comment.is (c.comment.ensures.read A w after h)

pub returns-in-Instruction-clause-read : goal.returns-in-Instruction-clause-read
unfolding past_misc
returns-in-Instruction-clause-read c = λ A w after h. rw c.in-Instruction.is (c.instruction.ensures.read A w after h)

pub returns-in_default : goal.returns-in_default
returns-in_default c = record { read = λ A w after h. no_misc c.args.mark A w c.args.reader.now after c.in_default.not-Comment c.in_default.not-Instruction h; shrinks = omega arith }
