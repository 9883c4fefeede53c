use Rattle.std.proofs.Common.{List, ◌∙◌, ap, sym, subst}
use Rattle.gx_include_letters.specs.declared.letter.Letter.{Letter}
use Rattle.gx_include.specs.Origins.{AreRuns}
use Rattle.gx_include.specs.Outcome.{IsOutcome}
use Rattle.gx_include.specs.Runs.{shapes_of}
use Rattle.gx_include.proofs.Verdicts.{says_yes, says_no}
use Rattle.gx_include.proofs.decide.decide_by.Goals as goal

pub returns-in-Safe-clause-verdict : goal.returns-in-Safe-clause-verdict
returns-in-Safe-clause-verdict c = λ s are serve.
    says_yes c.args.left.now c.args.right.now c.args.letters.now s c.args.limit c.walk.new.pairs.keys c.walk.new.origins.items serve
    (subst (IsOutcome c.args.left.now c.args.right.now c.args.letters.now c.args.limit c.walk.new.pairs.keys c.walk.new.origins.items) c.in-Safe.is c.in_ok-outcome.ensures)

pub returns-clause-verdict : goal.returns-clause-verdict
returns-clause-verdict c = λ s are serve.
    let o = subst (IsOutcome c.args.left.now c.args.right.now c.args.letters.now c.args.limit c.walk.new.pairs.keys c.walk.new.origins.items) c.in-Bad.is c.in_ok-outcome.ensures in
    let n =
    says_no c.args.left.now c.args.right.now c.args.letters.now s c.args.limit c.walk.new.pairs.keys c.walk.new.origins.items are c.in-Bad.place o c.in_ok-run-in-Bad.run'.items
    (λ runs r. c.in_ok-run-in-Bad.ensures runs (subst (λ os. AreRuns os runs) (sym c.as_slice.ensures.value) r)) in
    (n.0, (c.in_ok-run-in-Bad.run'.items, c.in_ok-list-in-Bad.ensures ∙ ap (λ (ls : List Letter). shapes_of ls c.in_ok-run-in-Bad.run'.items) c.letters.ensures, n.1))
