use Rattle.std.proofs.Common.{◌≡◌, Some}
use Rattle.gx_static.specs.QueryJudgement.{core_typed}
use Rattle.gx_static.specs.Typing.{judgement_of}
use Rattle.gx_static.proofs.infer.typed_core.Given as goal

-- what is left to do comes to the judgement of the query
abbrev pub invariant-loop : goal.invariant-loop
invariant-loop l = judgement_of l.schemas l.typing ≡ Some (core_typed l.schemas l.fn.core)
