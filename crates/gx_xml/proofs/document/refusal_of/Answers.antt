use Rattle.std.proofs.Common.{◌≤◌, List, ℕ, length, arith, ap, sym, subst, ◌∙◌, inr}
use Rattle.std.proofs.lemmas.Str.{length-le-encodes, encodes_same}
use Rattle.gx_xml.specs.Reading.{IsRefusalOf}
use Rattle.gx_xml.proofs.document.refusal_of.Goals as goal

pub refusal-requires : goal.refusal-requires
refusal-requires c =
    let shorter : length c.in-Ok.text.items ≤ length c.args.bytes.now = subst (λ (bs : List ℕ). length c.in-Ok.text.items ≤ length bs) c.in-Ok.ensures.text (length-le-encodes c.in-Ok.text.items) in
    omega (arith, c.requires, shorter, ap length c.deref.ensures.value)

pub returns-in-Ok : goal.returns-in-Ok
returns-in-Ok c = λ text e.
    inr (subst (λ (x : List ℕ). IsRefusalOf x c.args.end c.refusal.result) (c.deref.ensures.value ∙ encodes_same c.in-Ok.text.items text (c.in-Ok.ensures.text ∙ sym e.spelled)) c.refusal.ensures)
