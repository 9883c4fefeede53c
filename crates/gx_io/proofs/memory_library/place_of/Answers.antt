use Rattle.std.proofs.Common.{◌∙◌}
use Rattle.gx_io.proofs.FilesLemmas.{file_of-drop, file_of-end}
use Rattle.gx_io.proofs.memory_library.place_of.Goals as goal

pub returns-then-is_named-clause-file : goal.returns-then-is_named-clause-file
returns-then-is_named-clause-file c =
    c.loop-i.invariant.file
    ∙ file_of-drop c.args.files.now c.args.name.now c.loop-i.i c.index-files-i.result c.loop-i-test.true c.index-files-i.is
    (cc (c.is_named.ensures, c.if-is_named.true))

pub returns-clause-file : goal.returns-clause-file
returns-clause-file c =
    c.loop-i.invariant.file ∙ file_of-end c.args.files.now c.args.name.now c.loop-i.i c.loop-i-test.false
