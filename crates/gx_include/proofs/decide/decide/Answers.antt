use Rattle.std.proofs.Common.{ℕ, List, Option, subst}
use Rattle.std.specs.Prelude.{Result, IfOk}
use Rattle.gx_types.specs.SchemaSet.{SchemaSet}
use Rattle.gx_types.specs.SequenceType.{SequenceType}
use Rattle.gx_include_letters.specs.declared.letter.Letter.{Letter}
use Rattle.gx_include_letters.specs.Letters.{AreLetters, ServeAll}
use Rattle.gx_include.specs.declared.verdict.IncludeError.{IncludeError}
use Rattle.gx_include.specs.declared.verdict.Verdict.{Verdict}
use Rattle.gx_include.specs.Verdict.{IsVerdictOver}
use Rattle.gx_include.proofs.decide.decide.Goals as goal

-- a verdict, if there is one, over all schemas that the letters serve
abbrev VerdictsOver : Option ℕ → Result Verdict IncludeError → (a b : SequenceType) → List Letter → Type 0
VerdictsOver limit result a b letters =
    IfOk result (λ verdict. (schemas : SchemaSet) → AreLetters schemas a b letters → ServeAll schemas a b letters → IsVerdictOver schemas a b letters limit verdict)

pub returns-clause-verdict : goal.returns-clause-verdict
returns-clause-verdict c =
    subst (λ (a : SequenceType). VerdictsOver c.args.limit c.decide_by.result a c.args.right.now c.args.letters.now) c.in_ok-left.ensures
    (subst (λ (b : SequenceType). VerdictsOver c.args.limit c.decide_by.result c.in_ok-left.left b c.args.letters.now) c.in_ok-right.ensures
    (subst (VerdictsOver c.args.limit c.decide_by.result c.in_ok-left.left c.in_ok-right.right) c.in_ok-letters.ensures c.decide_by.ensures.verdict))
