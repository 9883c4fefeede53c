use Rattle.std.proofs.Common.{◌≡◌, drop}
use Rattle.gx_schema_syntax.specs.AttributeView.{words_listed}
use Rattle.gx_schema_syntax.specs.Contents.{is_one_given}
use Rattle.gx_schema_syntax.proofs.children.is_one_given.Given as goal

-- what is left decides
abbrev pub invariant-loop-local : goal.invariant-loop-local
invariant-loop-local l = is_one_given (words_listed (drop l.local-index l.locals)) l.attributes ≡ is_one_given (words_listed l.locals) l.attributes
