use Rattle.std.proofs.Common.{◌≡◌, true, false, [], ◌∷◌, sym, ap, ◌∙◌}
use Rattle.gx_atomic.specs.Comparison.{is_decisive, general_comparison}
use Rattle.gx_atomic.proofs.Decisions.{decides, decides_nothing, comparison_from}
use Rattle.gx_atomic.proofs.comparison.try_compare_any.Goals as goal

pub returns-then-is_decisive : goal.returns-then-is_decisive
returns-then-is_decisive c =
    let a = c.args.a.now in
    let b = c.args.b.now in
    let i = c.loop-left.left-index in
    let each = general_comparison c.args.op (c.left-item.result ∷ []) b in
    let yes' : is_decisive each ≡ true = ap is_decisive (sym c.compare_with_each-decision.ensures) ∙ sym c.is_decisive.ensures ∙ c.if-is_decisive.true in
    let from = comparison_from c.args.op a b i c.left-item.result c.loop-left-test.true c.left-item.is in
    c.compare_with_each-decision.ensures ∙ sym (decides each _ yes') ∙ sym from ∙ c.loop-left.invariant

pub loop-left-preserved : goal.loop-left-preserved
loop-left-preserved c =
    let a = c.args.a.now in
    let b = c.args.b.now in
    let i = c.loop-left.left-index in
    let each = general_comparison c.args.op (c.left-item.result ∷ []) b in
    let no' : is_decisive each ≡ false = ap is_decisive (sym c.compare_with_each-decision.ensures) ∙ sym c.is_decisive.ensures ∙ c.if-is_decisive.false in
    let from = comparison_from c.args.op a b i c.left-item.result c.loop-left-test.true c.left-item.is in
    sym (decides_nothing each _ no') ∙ sym from ∙ c.loop-left.invariant
