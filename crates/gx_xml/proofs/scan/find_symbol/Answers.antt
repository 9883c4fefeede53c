use Rattle.std.proofs.Common.{◌≡◌, ◌+◌, arith, ap, length, subst, ◌∙◌, Some, IfSome, refl}
use Rattle.gx_grammar.specs.Tokens.{strip}
use Rattle.gx_grammar.proofs.PublicLaws.{behind_short}
use Rattle.gx_xml.specs.Characters.{spelled}
use Rattle.gx_xml.proofs.RunLemmas.{strip_shortens}
use Rattle.gx_xml.proofs.scan.find_symbol.Goals as goal
use Rattle.gx_xml.proofs.scan.find_symbol.Goals.{then-whole, else-whole}

pub returns-clause-bounded : goal.returns-clause-bounded
returns-clause-bounded c = omega (arith, behind_short c.args.letters.now (spelled c.args.text), ap length c.behind_letters-whole.ensures.common)

pub returns-clause-shorter : goal.returns-clause-shorter
returns-clause-shorter c =
    elim c.if-whole.branch [
      | then-whole w ↦ rw w.behind-is
          (let e : strip c.args.letters.now (spelled c.args.text) ≡ Some (spelled c.behind_letters-whole.result.0) = c.behind_letters-whole.ensures.whole ∙ (rw w.if-whole.true refl) in
          subst (λ o. IfSome o (λ r. length r + length c.args.letters.now ≡ length (spelled c.args.text))) e (strip_shortens c.args.letters.now (spelled c.args.text)))
      | else-whole w ↦ rw w.behind-is tt
    ]
