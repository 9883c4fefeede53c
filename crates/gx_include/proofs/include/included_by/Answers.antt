use Rattle.std.proofs.Common.{sym, subst}
use Rattle.gx_include_letters.specs.Letters.{AreLetters, ServeAll}
use Rattle.gx_include.specs.Verdict.{IsVerdictOver}
use Rattle.gx_include_letters.proofs.Alphabets.{are_letters, serve_all}
use Rattle.gx_include.proofs.include.included_by.Goals as goal

pub returns-clause-verdict : goal.returns-clause-verdict
returns-clause-verdict c =
    let s = c.args.derivations.now in
    let letters = c.in_ok-letters.letters.items in
    let are = are_letters s c.args.left.now c.args.right.now c.in_ok-letters.ensures.grounded letters c.in_ok-letters.ensures.letters in
    let serve = serve_all s c.args.left.now c.args.right.now c.in_ok-letters.ensures.grounded letters c.in_ok-letters.ensures.letters in
    record {
      letters = letters;
      alphabet = c.in_ok-letters.ensures.letters;
      verdict_is =
          subst (λ ls. IsVerdictOver s c.args.left.now c.args.right.now ls c.args.limit c.in_ok-verdict.verdict) c.as_slice.ensures.value
          (c.in_ok-verdict.ensures.verdict s
          (subst (AreLetters s c.args.left.now c.args.right.now) (sym c.as_slice.ensures.value) are)
          (subst (ServeAll s c.args.left.now c.args.right.now) (sym c.as_slice.ensures.value) serve));
    }
